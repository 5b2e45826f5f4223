use Rattle.std.proofs.Common.{◌∙◌, ap₂, map, flat_map}
use Rattle.kan_model.specs.Stores.Prims.{prim as primitive}
use Rattle.kan_plain.specs.Looking.{tag_at}
use Rattle.kan_plain.proofs.LookingLaws.{are_tags}
use Rattle.kan_plain.proofs.PlainLaws.{answer-is, is_answer-true}
use Rattle.kan_solving.specs.Solving.{replaced_by}
use Rattle.kan_plain.specs.PlainStores.{store_in}
use Rattle.kan_plain.proofs.plain.PlainStoreStore.tags.Goals as goal

pub returns : goal.returns
returns c =
    let ps = map primitive c.args.self.now.prims.items in
    let s = map replaced_by c.args.self.now.answer.items in
    are_tags (record { prims = ps; counter = c.args.self.now.counter }) c.args.var s _ (answer-is ps c.args.self.now.counter s (is_answer-true _ _ c.args.self.now.answered))
    (c.in_ok-tags.ensures ∙ ap₂ (λ a p. flat_map (tag_at (map replaced_by a) c.args.var) (map primitive p)) c.deref.ensures.value c.deref-2.ensures.value)
