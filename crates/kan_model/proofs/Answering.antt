-- Answers and their text.
pub mod AnswerExamples
pub mod AnswerLaws
pub mod ByteOrder
pub mod DecimalLaws
pub mod FormLaws
pub mod NameLaws
pub mod OwnForm
pub mod SolvedForms
pub mod OutputExamples
