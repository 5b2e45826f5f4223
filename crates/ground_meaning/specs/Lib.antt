pub mod Accepting
pub mod Following
pub mod Holding
pub mod Values
