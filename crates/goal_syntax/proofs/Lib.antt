pub mod Judging
pub mod Building
pub mod Compiling
pub mod Accepted
