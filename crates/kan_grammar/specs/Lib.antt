pub mod Data
pub mod Texts
