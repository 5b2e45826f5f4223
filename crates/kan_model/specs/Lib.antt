pub mod Each
pub mod Programs
pub mod Terms
pub mod Stores
pub mod Streams
pub mod Meaning
pub mod Answers
