pub mod Library
pub mod Loads
pub mod Accepted
