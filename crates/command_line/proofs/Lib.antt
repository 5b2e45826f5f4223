pub mod NumberLaws
pub mod RangeLaws
mod CommandRows
pub mod ClapRules
pub mod ClapWords
pub mod ClapRows
pub mod ClapWalk
pub mod ClapSteps
pub mod ClapLine
pub mod ClapReads
pub mod MatchLaws
