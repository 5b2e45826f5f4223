use Rattle.std.proofs.Common.{◌≡◌, drop, map}
use Rattle.std.specs.List.{list_all}
use Rattle.reify.specs.Shapes.{named_pair}
use Rattle.answer_reading.specs.Marks.{lent_lists, difference_met}
use Rattle.answer_reading.proofs.meeting.are_differences_met.Given as goal

abbrev pub invariant-loop-pairs : goal.invariant-loop-pairs
invariant-loop-pairs l = list_all (difference_met (lent_lists l.values)) (map (map named_pair) l.disequalities) ≡ list_all (difference_met (lent_lists l.values)) (map (map named_pair) (drop l.pairs-index l.disequalities))
