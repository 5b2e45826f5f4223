-- The faults of texts.
pub mod FaultLaws
pub mod TermsLeftLaws
pub mod GoalsLeftLaws
pub mod FormLaws
