mod TakingLaws
mod AskingLaws
mod OfferLaws
mod WorkLaws
pub mod Crossing
