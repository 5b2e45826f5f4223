pub mod AddedLaws
pub mod AnswerLaws
pub mod CycleLaws
mod Examples
pub mod GrowthLaws
pub mod CentralLaw
pub mod Relation
pub mod Steps
pub mod NewLaws
pub mod SolutionLaws
pub mod WalkLaws
