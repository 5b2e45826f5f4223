-- What goals mean, without any search.
pub mod DerivationLaws
pub mod MeaningExamples
