-- The grammar of texts.
pub mod Sited
pub mod Language
pub mod Binders
pub mod TermForms
pub mod GoalForms
pub mod TopForms
pub mod TextNames
pub mod Resolved
pub mod ProgramText
pub mod TextFaults
pub mod Reply
