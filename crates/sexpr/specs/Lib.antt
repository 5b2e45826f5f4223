pub mod Meaning
pub mod Pieces
pub mod Strings
pub mod WrittenForms
pub mod Reads
pub mod Frames
pub mod Printing
pub mod Laws
