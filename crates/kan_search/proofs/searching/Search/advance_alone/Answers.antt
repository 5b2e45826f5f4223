use Rattle.std.proofs.Common.{rules}
use Rattle.kan_search.proofs.SolutionLaws.{advance_keeps}
use Rattle.kan_search.proofs.searching.Search.advance_alone.Goals as goal

pub returns-clause-batch : goal.returns-clause-batch
returns-clause-batch g c = search rules

pub returns-clause-keeps : goal.returns-clause-keeps
returns-clause-keeps g c = advance_keeps _ _ _ _ _ _ _ (returns-clause-batch g c)
