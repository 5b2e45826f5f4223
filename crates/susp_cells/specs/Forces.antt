-- What a value in a cell is: the force of what a suspension stands for, with ids of the same table.
use Rattle.std.specs.Prelude.{◌≡◌, List, Option, Some, None, option_map, IfSome, refl}
use Rattle.std.specs.Coded.{Coded-set, ×_prop, coded_ℕ, coded_list}
use Rattle.kan_model.specs.Stores.Store as facts
use Rattle.kan_model.specs.Streams.Running.{force}
use Rattle.stream_core.specs.Suspensions.{going_on}
use Rattle.stream_words.specs.Codes.{program_code, stream_code}
use Rattle.susp_cells.specs.Places.{Place, label_tree, label_program, IsBeside}

-- stores and a tail are the force of what a suspension stands for
abbrev pub IsForceOf : Place → List facts.Store → Option Place → Type 0
IsForceOf of heads tail =
    IfSome tail (IsBeside of)
    × (going_on heads (option_map label_tree tail) ≡ force (label_program of) (label_tree of))

beside_prop : (of q : Place) → IsProp (IsBeside of q)
beside_prop of q = ×_prop (Coded-set (coded_list coded_ℕ) _ _) (Coded-set program_code _ _)

some_beside_prop : (of : Place) (tail : Option Place) → IsProp (IfSome tail (IsBeside of))
some_beside_prop of None = λ x y. refl
some_beside_prop of (Some q) = beside_prop of q

pub force_prop : (of : Place) (heads : List facts.Store) (tail : Option Place) →
    IsProp (IsForceOf of heads tail)
force_prop of heads tail = ×_prop (some_beside_prop of tail) (Coded-set stream_code _ _)
