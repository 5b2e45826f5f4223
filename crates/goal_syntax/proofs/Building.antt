-- The tables of a program, as they are built.
pub mod TableLaws
pub mod PlaceLaws
pub mod EntryLaws
pub mod FormEntryLaws
pub mod TermsLeftLaws
pub mod TermHeightLaws
pub mod GoalsBuiltLaws
pub mod GoalsLeftLaws
pub mod WidthLaws
pub mod NamedLaws
pub mod FormWidthLaws
pub mod FormsBuiltLaws
pub mod CallsThereLaws
