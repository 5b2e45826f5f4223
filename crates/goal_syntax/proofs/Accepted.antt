-- Texts without faults give programs in which nothing is open.
pub mod InScopeLaws
pub mod CallsLaws
pub mod DefinedLaws
pub mod ClosedLaws
