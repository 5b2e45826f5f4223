-- What is left of a suspension is no deeper than the suspension.
use Rattle.std.proofs.Common.{◌≤◌}
use Rattle.stream_core.specs.declared.linked_ids.LinkedId.{size-LinkedId}
use Rattle.stream_core.proofs.linked_ids.LinkedId.+drop.Given as goal

abbrev pub invariant-loop-node : goal.invariant-loop-node
invariant-loop-node g l = size-LinkedId _ l.self ≤ size-LinkedId _ l.fn.self
