use Rattle.std.proofs.Common.{◌≡◌, true}
use Rattle.kan_terms.specs.Terms.{tree}
use Rattle.kan_model.specs.Programs.Scope.{all_below}
use Rattle.store_tests.proofs.sketches.nested.Given as goal

-- the term so far has no variable but the first four
abbrev pub invariant-loop : goal.invariant-loop
invariant-loop l = all_below 4 (tree l.term) ≡ true
