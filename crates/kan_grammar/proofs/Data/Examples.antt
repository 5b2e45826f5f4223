-- Texts of worked examples, cut, read, refused and printed.
pub mod Readings
mod CutExamples
mod DeepExamples
mod LongExamples
mod OrderExamples
mod PrintExamples
mod RefusalExamples
mod StringExamples
mod TokenExamples
mod WordExamples
