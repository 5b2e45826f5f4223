pub mod Pairs
pub mod Meaning
