-- The disequalities that a store's primitives ask, each as one equation that must not hold.
use Rattle.std.specs.Prelude.{List, [], ◌∷◌, map}
use Rattle.kan_terms.specs.Tree.{Tm}
use Rattle.kan_model.specs.Programs.Goals.{Primitive}
use Rattle.kan_model.specs.Stores.Calls.{differences}
use Rattle.diseq.specs.Disequalities.{Disequality}

abbrev pub asked_differences : List (Primitive Tm) → List Disequality
asked_differences ps = map (λ e. e ∷ []) (differences ps)
