mod Sent
pub mod Along
pub mod KeptParts
pub mod AddedLaws
pub mod TypesStep
pub mod TagsStep
pub mod DiffersStep
pub mod Asserting
pub mod MovingLaws
pub mod StepLaws
pub mod Observing
pub mod Listing
pub mod SolvedLaws
pub mod ResolvingLaws
pub mod StoreLaws
