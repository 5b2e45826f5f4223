-- The tests of shapes are those of answers in form.
use Rattle.std.proofs.Common.{ap, map, ◌∙◌}
use Rattle.reify.specs.Meaning.{absence}
use Rattle.answer_reading.specs.Forming.{are_absences_formed, are_differences_formed}
use Rattle.answer_reading.proofs.FormLaws.{formed_none, formed_some}
use Rattle.answer_reading.proofs.ordering.are_formed.Goals as goal

pub returns-in_ok-differ-in-Some : goal.returns-in_ok-differ-in-Some
returns-in_ok-differ-in-Some c =
    let parts = c.args.parts.now in
    formed_some c.args.names.now parts c.in-Some.count c.count_names.result c.items.result.now _ _ _ c.requires c.items.ensures c.count_names.ensures c.in-Some.is
    (c.in_ok-differ-in-Some.ensures ∙ ap (are_differences_formed c.args.names.now c.in-Some.count) c.deref.ensures.value)
    c.are_kinds_formed.ensures
    (c.are_absences_formed.ensures ∙ ap (λ l. are_absences_formed c.args.names.now c.in-Some.count parts.kinds.numbers.items parts.kinds.strings.items (map absence l)) c.deref-in-Some.ensures.value)

pub returns-in-None : goal.returns-in-None
returns-in-None c = formed_none c.args.names.now c.args.parts.now c.count_names.result c.items.result.now c.requires c.items.ensures c.count_names.ensures c.in-None.is
