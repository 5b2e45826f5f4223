-- What the tasks and steps by which terms, goals and top forms are opened stand for.
pub mod TermSteps
pub mod GoalSteps
pub mod FormSteps
