-- What compiling a text answers.
pub mod CompilingLaws
pub mod ClosingLaws
pub mod OfTextLaws
pub mod LibraryLaws
