-- The tables of a program, as they are built.
pub mod GrownTables
pub mod Entries
pub mod TermsLeft
pub mod TermHeights
pub mod Named
pub mod GoalsBuilt
pub mod Widths
pub mod GoalsLeft
pub mod StackSteps
pub mod FormsBuilt
pub mod CallsThere
pub mod TemplateHeights
pub mod InContext
pub mod WorkSteps
pub mod AddingGoals
