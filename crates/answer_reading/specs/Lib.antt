pub mod Marks
pub mod Finding
pub mod Forming
pub mod Listing
pub mod Answering
