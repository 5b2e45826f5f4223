use Rattle.std.proofs.Common.{◌≡◌, drop, map}
use Rattle.kan_model.specs.Answers.Answer.{same_form}
use Rattle.kan_solving.specs.Solving.{replaced_by}
use Rattle.reify.proofs.choosing.is_same_form.Given as goal

abbrev pub invariant-loop-at : goal.invariant-loop-at
invariant-loop-at l = same_form (map replaced_by l.one) (map replaced_by l.other) ≡ same_form (map replaced_by (drop l.at l.one)) (map replaced_by (drop l.at l.other))
