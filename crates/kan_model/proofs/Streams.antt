-- Streams: running, forcing and taking.
pub mod StreamLaws
pub mod RunExamples
