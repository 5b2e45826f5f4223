-- The programs and queries of the code, beside those of the model.
pub use Rattle.kan_model.specs.declared.program.Program.{Program}
pub use Rattle.kan_model.specs.declared.nodes.Query.{Query}
