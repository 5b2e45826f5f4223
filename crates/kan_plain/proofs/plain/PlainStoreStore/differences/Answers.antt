use Rattle.std.proofs.Common.{◌∙◌, ap, map, flat_map}
use Rattle.kan_model.specs.Stores.Prims.{prim as primitive}
use Rattle.kan_plain.specs.Looking.{difference_at}
use Rattle.kan_plain.proofs.LookingLaws.{are_differences}
use Rattle.kan_plain.specs.PlainStores.{store_in}
use Rattle.kan_plain.proofs.plain.PlainStoreStore.differences.Goals as goal

pub returns : goal.returns
returns c =
    are_differences (record { prims = map primitive c.args.self.now.prims.items; counter = c.args.self.now.counter }) _
    (c.in_ok-lists.ensures ∙ ap (λ p. flat_map difference_at (map primitive p)) c.deref.ensures.value)
