-- A name is neither a number nor a string.
use Rattle.std.proofs.Common.{◌≡◌, sym, ap₂, ◌∙◌, rules}
use Rattle.std.specs.Prelude.{◌&&◌, not}
use Rattle.kan_model.specs.Answers.InForm.{apart, is_filled, names_in_form}
use Rattle.answer_reading.proofs.LoopLaws.{apart_both}
use Rattle.answer_reading.proofs.ordering.is_absence_formed.Goals as goal

pub returns : goal.returns
returns c =
    let names = c.args.kept.now.names.items in
    let filled : not c.is_empty.result ≡ is_filled names = search rules in
    let formed : c.are_names_formed.result ≡ names_in_form c.args.count names = search rules in
    let numbers : c.are_apart.result ≡ apart names c.args.kinds.now.numbers.items = search rules in
    let strings : c.are_apart-2.result ≡ apart names c.args.kinds.now.strings.items = search rules in
    ap₂ (λ x y. x && y) (ap₂ (λ x y. x && y) filled formed) (ap₂ (λ x y. x && y) numbers strings ∙ sym (apart_both names c.args.kinds.now.numbers.items c.args.kinds.now.strings.items))
