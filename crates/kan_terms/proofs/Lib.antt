mod Examples
pub mod ListLaws
pub mod SpellingLaws
pub mod TableLaws
pub mod TreeLaws
pub mod ValuationLaws
pub mod WaitingLaws
