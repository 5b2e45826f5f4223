-- Answers and their text.
pub mod Answer
pub mod AnswerText
pub mod InForm
pub mod Covers
pub mod Decimals
pub mod Order
pub mod Text
pub mod Output
