-- Types that are found.
use Rattle.std.specs.Prelude.{ℕ, Bool, true, false, List, [], ◌∷◌, Option, Some}
use Rattle.kan_model.specs.declared.prims.Kind.{Kind}
use Rattle.kan_model.specs.declared.prims.Kind.TheVariants.{Symbol, Number, Text}

-- the type is the one that was found
abbrev pub kind_test : Kind → Option Kind → Bool
kind_test Symbol (Some Symbol) = true
kind_test Number (Some Number) = true
kind_test Text (Some Text) = true
kind_test _ _ = false

-- a name, where the test holds
abbrev pub here : Bool → ℕ → List ℕ
here true n = n ∷ []
here false n = []
