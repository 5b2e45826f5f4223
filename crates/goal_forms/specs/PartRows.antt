-- Tables of parts, in which each pair names places before its own.
use Rattle.std.specs.Prelude.{ℕ, suc, Bool, true, ◌&&◌, nat_lt, List, [], ◌∷◌}
use Rattle.goal_forms.specs.declared.flat_data.Part.{Part}
use Rattle.goal_forms.specs.declared.flat_data.Part.TheVariants.{Pair}
use Rattle.goal_forms.specs.declared.flat_data.FlatPart.{FlatPart}

-- what a part names is there where so many parts are
abbrev pub is_there : ℕ → Part → Bool
is_there n (Pair a d) = nat_lt a n && nat_lt d n
is_there n part = true

abbrev pub is_grown : ℕ → FlatPart → Bool
is_grown n node = is_there n node.part

-- each pair names places before its own, where so many parts stand before
abbrev pub are_grown : ℕ → List FlatPart → Bool
are_grown n [] = true
are_grown n (node ∷ flat) = is_grown n node && are_grown (suc n) flat
