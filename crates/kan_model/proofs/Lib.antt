pub mod LettersLaws
pub mod ListLaws
pub mod Answering
pub mod Solving
pub mod Streams
pub mod Meaning
pub mod Programs
