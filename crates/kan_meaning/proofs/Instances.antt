-- An answer's instances and the values of the query's variable.
pub mod SolvedInstances
pub mod SolvedLaws
pub mod OwnForms
pub mod OwnValues
pub mod NamedValues
pub mod LeftOutLaws
