use Rattle.std.proofs.Common.{◌≡◌, drop, map}
use Rattle.std.specs.List.{list_all}
use Rattle.reify.specs.Shapes.{named_pair}
use Rattle.answer_reading.specs.Marks.{lent_lists, pair_met}
use Rattle.answer_reading.proofs.meeting.is_difference_met.Given as goal

abbrev pub invariant-loop-pair : goal.invariant-loop-pair
invariant-loop-pair l = list_all (pair_met (lent_lists l.values)) (map named_pair l.pairs) ≡ list_all (pair_met (lent_lists l.values)) (map named_pair (drop l.pair-index l.pairs))
