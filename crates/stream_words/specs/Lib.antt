pub mod Codes
pub mod Reading
pub mod Spelled
pub mod Words
