-- Programs: goals, scope, and the tables of the code.
pub mod Goals
pub mod Scope
pub mod Tables
pub mod Nodes
pub mod Drafts
pub mod Closed
pub mod Measures
pub mod Rows
pub mod Calls
pub mod Environments
pub mod Values
