use Rattle.std.proofs.Common.{◌≡◌, ◌∙◌, ap, ap₂, sym, map, true, Some}
use Rattle.std.specs.Option.{option_map}
use Rattle.kan_model.specs.Stores.Kept.{holds_under}
use Rattle.kan_model.specs.Stores.Store.{equations}
use Rattle.kan_model.specs.Stores.Prims.{prim as primitive}
use Rattle.kan_model.specs.Stores.Solve.{solve}
use Rattle.kan_solving.specs.Solving.{replaced_by}
use Rattle.kan_plain.proofs.PlainLaws.{answer_is, kept_where}
use Rattle.kan_plain.proofs.plain.PlainStore.of.Goals as goal

pub invariant_of-result : goal.invariant_of-result
invariant_of-result c =
    let ps = map primitive c.args.prims.items in
    let s = map replaced_by c.in-Some.answer.items in
    let answered : Some s ≡ solve (equations ps) =
    sym (ap (option_map (λ made. map replaced_by made.items)) c.in-Some.is) ∙ c.in_ok-answer.ensures ∙ ap (λ p. solve (equations (map primitive p))) c.deref.ensures.value in
    let hold : true ≡ holds_under ps s =
    sym c.if-not-holds.false ∙ c.in_ok-holds.ensures ∙ ap₂ (λ a p. holds_under (map primitive p) (map replaced_by a)) c.deref-2.ensures.value c.deref-3.ensures.value in
    record {
      kept = kept_where ps c.args.counter s _ answered hold;
      counted = c.requires.counted;
      bounded = c.requires.bounded;
      answered = answer_is _ _ answered;
    }
