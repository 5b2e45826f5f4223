use Rattle.std.proofs.Common.{◌≡◌, ◌++◌, map, take}
use Rattle.kan_subst.specs.Meaning.{pair}
use Rattle.kan_subst.proofs.list_bindings.copy_behind.Given as goal

-- what was written are the bindings up to the index
abbrev pub invariant-loop-binding : goal.invariant-loop-binding
invariant-loop-binding l = map pair l.made.items ≡ map pair l.fn.made.items ++ map pair (take l.binding-index l.stored)
