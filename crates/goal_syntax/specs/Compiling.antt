-- What compiling a text answers.
pub mod Compiles
pub mod CompiledForms
pub mod SymbolNames
pub mod Refusals
