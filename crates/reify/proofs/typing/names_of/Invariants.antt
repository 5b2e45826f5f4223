use Rattle.std.proofs.Common.{◌≡◌, take}
use Rattle.kan_model.specs.Answers.Answer.{names_where}
use Rattle.kan_model.specs.Stores.Kept.{has_type}
use Rattle.kan_model.specs.Stores.Calls.{replacement_of}
use Rattle.reify.proofs.typing.names_of.Given as goal

abbrev pub invariant-loop-at : goal.invariant-loop-at
invariant-loop-at g l = l.names.items ≡ names_where (has_type l.kind (replacement_of (g.St.Store.meaning l.store)) (g.St.Store.meaning l.store).prims) 0 (take l.at l.naming)
