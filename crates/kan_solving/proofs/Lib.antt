pub mod SolvingLaws
pub mod SolvingSteps
