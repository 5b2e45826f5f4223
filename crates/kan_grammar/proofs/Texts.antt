-- The grammar of texts.
pub mod NameLaws
mod TextExamples
mod FaultExamples
pub mod LineLaws
mod ReplyExamples
mod ProgramExamples
