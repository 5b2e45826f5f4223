pub mod AbsentLaws
mod Examples
pub mod OneByOneLaws
pub mod TagLaws
pub mod TagSteps
pub mod TypeLaws
