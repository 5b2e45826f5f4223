-- Programs: goals, scope, and the tables of the code.
pub mod EntryLaws
pub mod EnvironmentLaws
pub mod NoteLaws
pub mod PlacedLaws
pub mod RowLaws
pub mod ScopeLaws
pub mod TableLaws
