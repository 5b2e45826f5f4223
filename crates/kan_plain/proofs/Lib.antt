pub mod Crossing
pub mod EachLaws
pub mod KeepingLaws
pub mod LookingLaws
pub mod PlainLaws
