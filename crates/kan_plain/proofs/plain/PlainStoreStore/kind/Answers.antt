use Rattle.std.proofs.Common.{◌∙◌, ap, ap₂, sym, map}
use Rattle.kan_model.specs.Stores.Prims.{prim as primitive}
use Rattle.kan_plain.specs.Looking.{kind_under}
use Rattle.kan_plain.proofs.PlainLaws.{answer-is, is_answer-true}
use Rattle.kan_solving.specs.Solving.{replaced_by}
use Rattle.kan_plain.specs.PlainStores.{store_in}
use Rattle.kan_plain.proofs.plain.PlainStoreStore.kind.Goals as goal

pub returns : goal.returns
returns c =
    let ps = map primitive c.args.self.now.prims.items in
    let s = map replaced_by c.args.self.now.answer.items in
    c.kind_of.ensures ∙ ap₂ (λ a p. kind_under (map replaced_by a) (map primitive p) c.args.var) c.deref.ensures.value c.deref-2.ensures.value
    ∙ ap (λ r. kind_under r ps c.args.var) (sym (answer-is ps c.args.self.now.counter s (is_answer-true _ _ c.args.self.now.answered)))
