-- What is left passes exactly where all do.
use Rattle.std.proofs.Common.{◌≡◌, drop, map}
use Rattle.std.specs.List.{list_all}
use Rattle.kan_model.specs.Answers.InForm.{absence_in_form}
use Rattle.reify.specs.Meaning.{absence}
use Rattle.std.specs.Prelude.{◌++◌}
use Rattle.answer_reading.proofs.ordering.is_each_formed.Given as goal

abbrev pub invariant-loop-kept : goal.invariant-loop-kept
invariant-loop-kept l = list_all (absence_in_form l.count (l.kinds.numbers.items ++ l.kinds.strings.items)) (map absence l.absences) ≡ list_all (absence_in_form l.count (l.kinds.numbers.items ++ l.kinds.strings.items)) (map absence (drop l.kept-index l.absences))
