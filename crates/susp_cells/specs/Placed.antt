-- Which suspensions are sound: the label is of the table and tells the thunk. That fits the
-- program, and its ids are of the same table.
use Rattle.std.specs.Prelude.{◌≡◌}
use Rattle.kan_model.specs.Stores.Store as facts
use Rattle.kan_model.specs.Streams.Bounds.{Fits}
use Rattle.stream_core.specs.Suspensions.{ThunkBelongs}
use Rattle.susp_cells.specs.declared.suspensions.Susp.TheInside.{Inside}
use Rattle.susp_cells.specs.Places.{Place, label_tree, label_program, stands_for, noted_top}
use Rattle.susp_cells.specs.Places.{IsOf, IsBeside}

abbrev pub place_of : {St : Type 0} → Inside St → Place
place_of a = record { home = a.node.value.mark.home.numbers; token = a.node.value.mark.token }

pub record IsPlaced {St : Type 0} (means : St → facts.Store) (a : Inside St) : Type 0 where
  pub shown : IsOf a.node.value.mark.home.numbers a.node.value.mark.token
  pub tree : label_tree (place_of a)
      ≡ stands_for (label_program (place_of a)) means a.node.value.thunk
  pub beside : ThunkBelongs (IsBeside (place_of a)) a.node.value.thunk
  pub fits : Fits (label_program (place_of a)) (label_tree (place_of a))
  pub top : a.node.value.top ≡ noted_top (label_tree (place_of a))
