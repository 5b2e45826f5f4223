use Rattle.std.proofs.Common.{◌≡◌, map, Some, [], length}
use Rattle.kan_solving.specs.Solving.{replaced_by, put_all_first}
use Rattle.kan_solving.proofs.solving.finish.Given as goal

-- the replacements that are left, in front of the answer so far, are the whole answer
abbrev pub invariant-loop-last : goal.invariant-loop-last
invariant-loop-last l = put_all_first (map replaced_by l.made.items) (Some (map replaced_by l.answer.items)) ≡ put_all_first (map replaced_by l.fn.made.items) (Some [])

abbrev pub decreases-loop-last : goal.decreases-loop-last
decreases-loop-last l = length l.made.items
