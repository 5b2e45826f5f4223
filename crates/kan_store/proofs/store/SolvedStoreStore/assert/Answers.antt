use Rattle.std.proofs.Common.{subst}
use Rattle.std.specs.Arc.{arc_value}
use Rattle.std.specs.Option.{option_map}
use Rattle.std.specs.Result.{IfOk}
use Rattle.kan_model.specs.Stores.Store.{with_prim}
use Rattle.kan_model.specs.Stores.Calls.{Gives}
use Rattle.kan_model.specs.Stores.Prims.{prim as primitive}
use Rattle.kan_store.specs.Meaning.{store_of}
use Rattle.kan_store.specs.SolvedStores.{store_in}
use Rattle.kan_store.proofs.store.SolvedStoreStore.assert.Goals as goal

pub returns : goal.returns
returns g c = subst (λ st. IfOk c.assert_owned.result (λ made. Gives (with_prim st (primitive c.args.prim.now)) (option_map (λ store. store_of (arc_value store.held)) made))) c.in_ok-again.ensures c.assert_owned.ensures
