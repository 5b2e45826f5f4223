-- Each suspension inside another one is nested less deep.
use Rattle.std.specs.Prelude.{◌≤◌, None, Some}
use Rattle.std.proofs.Common.{arith, sym, subst}
use Rattle.kan_model.specs.Programs.Goals.{Program}
use Rattle.stream_core.specs.declared.streams.Thunk.{Thunk}
use Rattle.stream_core.specs.declared.streams.Thunk.TheVariants.{Call, Pause, Swap, Bind}
use Rattle.kan_model.specs.declared.stores.Store.{Ghosts}
use Rattle.susp_cells.specs.declared.suspensions.Susp.TheInside.{Inside}
use Rattle.susp_cells.specs.declared.suspensions.Susp.TheDeep.{deep-Susp}
use Rattle.susp_cells.specs.Sketches.{nested}
use Rattle.susp_cells.specs.Places.{Place, label_program, label_nested, stands_for}
use Rattle.susp_cells.specs.Placed.{place_of, IsPlaced}

abbrev with_thunk : {St : Type 0} → Inside St → Thunk Place St → Inside St
with_thunk a t = record a { node = record a.node { value = record a.node.value { thunk = t } } }

thunk_falls : {St : Type 0} (g : Ghosts St) (p : Program) (a : Inside St) (t : Thunk Place St) →
    deep-Susp St g (with_thunk a t) ≤ nested (stands_for p g.meaning t)
thunk_falls g p a (Call rel args store) = omega arith
thunk_falls g p a (Pause goal env store) = omega arith
thunk_falls g p a (Swap heads None inner) = omega arith
thunk_falls g p a (Swap heads (Some i) inner) = omega arith
thunk_falls g p a (Bind goal env inner) = omega arith

pub nested_falls : {St : Type 0} (g : Ghosts St) (a : Inside St) → IsPlaced g.meaning a →
    deep-Susp St g a ≤ label_nested (place_of a)
nested_falls {St} g a h =
    subst (λ t. deep-Susp St g a ≤ nested t) (sym h.tree)
    (thunk_falls g (label_program (place_of a)) a a.node.value.thunk)
