use Rattle.std.proofs.Common.{◌≡◌}
use Rattle.kan_subst.proofs.FoundLaws.{bound_from}
use Rattle.kan_subst.proofs.list_bindings.find.Given as goal

-- the variable's term is that in the bindings which are left
abbrev pub invariant-loop-binding : goal.invariant-loop-binding
invariant-loop-binding l = bound_from 0 l.stored l.var ≡ bound_from l.binding-index l.stored l.var
