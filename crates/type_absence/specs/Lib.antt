pub mod Absent
pub mod Laws
pub mod Meaning
pub mod Tags
pub mod Types
pub mod Waiting
