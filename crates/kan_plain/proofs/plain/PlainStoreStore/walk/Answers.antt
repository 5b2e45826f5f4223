use Rattle.std.proofs.Common.{◌∙◌, ap, map}
use Rattle.kan_terms.specs.Terms.{tree}
use Rattle.kan_model.specs.Stores.Prims.{prim as primitive}
use Rattle.kan_plain.specs.Looking.{shallow_image}
use Rattle.kan_plain.proofs.PlainLaws.{walk_agrees, is_answer-true}
use Rattle.kan_solving.specs.Solving.{replaced_by}
use Rattle.kan_plain.specs.PlainStores.{store_in}
use Rattle.kan_plain.proofs.plain.PlainStoreStore.walk.Goals as goal

pub returns : goal.returns
returns c =
    walk_agrees (map primitive c.args.self.now.prims.items) c.args.self.now.counter (map replaced_by c.args.self.now.answer.items) (tree c.args.term.now) _
    (is_answer-true _ _ c.args.self.now.answered) (c.looked.ensures ∙ ap (λ a. shallow_image (map replaced_by a) (tree c.args.term.now)) c.deref.ensures.value)
