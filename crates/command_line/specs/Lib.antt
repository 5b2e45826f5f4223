pub mod Parts
pub mod Lines
pub mod CodeValues
pub mod WordsRead
pub mod Clap
