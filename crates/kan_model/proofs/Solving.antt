-- Stores: solving, and what is kept.
pub mod ReplacedLaws
pub mod SolveLaws
pub mod UnifierLaws
pub mod VariableCount
pub mod WorkLaws
pub mod ConstraintExamples
pub mod FreshLaws
pub mod CompositionLaws
