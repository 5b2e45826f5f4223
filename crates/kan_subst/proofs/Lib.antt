pub mod FoundLaws
pub mod GreatestLaws
pub mod Sent
