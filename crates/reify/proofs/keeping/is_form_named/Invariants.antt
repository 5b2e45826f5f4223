use Rattle.std.proofs.Common.{◌≡◌, drop, map}
use Rattle.kan_model.specs.Answers.Answer.{all_named}
use Rattle.kan_solving.specs.Solving.{replaced_by}
use Rattle.reify.proofs.keeping.is_form_named.Given as goal

abbrev pub invariant-loop-pair : goal.invariant-loop-pair
invariant-loop-pair l = all_named l.naming (map replaced_by l.form) ≡ all_named l.naming (map replaced_by (drop l.pair-index l.form))
