-- An answer in form is over the names of its term.
use Rattle.std.proofs.Common.{◌≡◌, true, sym, ◌∙◌}
use Rattle.std.specs.Prelude.{◌&&◌}
use Rattle.std.proofs.lemmas.Bool.{and_parts}
use Rattle.kan_model.specs.Answers.InForm.{in_form}
use Rattle.reify.proofs.AnswerLaws.{form_over}
use Rattle.answer_reading.specs.Forming.{are_whole}
use Rattle.answer_reading.specs.Listing.{meaning}
use Rattle.answer_reading.proofs.reading.checked.Goals as goal

pub assembled-answer-requires-clause-over : goal.assembled-answer-requires-clause-over
assembled-answer-requires-clause-over c =
    let whole = are_whole c.args.parts.term c.args.parts.disequalities.items in
    let form = in_form c.args.names.now (meaning c.args.parts) in
    let both : (whole && form) ≡ true = sym c.in_ok-formed.ensures ∙ c.if-not-formed.false in
    form_over c.args.names.now (meaning c.args.parts) (and_parts whole form both).1
