-- The faults of texts.
pub mod FaultLists
pub mod FirstFault
pub mod TermsLeft
pub mod GoalsLeft
pub mod InContext
