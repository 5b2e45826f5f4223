-- What is left to be turned into parts, and the data of those that were made.
use Rattle.std.specs.Prelude.{ℕ, Bool, true, ◌&&◌, nat_lt, List, [], ◌∷◌, ◌++◌}
use Rattle.kan_grammar.specs.Texts.Sited.{Sited}
use Rattle.goal_forms.specs.Parts.{site_at}

-- all places are below a number
abbrev pub are_below : ℕ → List ℕ → Bool
are_below n [] = true
are_below n (p ∷ ps) = nat_lt p n && are_below n ps

-- the data at the places on a stack, the top first
abbrev pub stack_sites : List Sited → List ℕ → List Sited
stack_sites ds [] = []
stack_sites ds (p ∷ ps) = stack_sites ds ps ++ site_at ds p ∷ []

-- the pair of the two data made last
abbrev pub pair_of_last_two : ℕ → List Sited → List Sited
pair_of_last_two at [] = []
pair_of_last_two at (d ∷ []) = []
pair_of_last_two at (d ∷ a ∷ made) = Sited.pair at a d ∷ made

-- the list of a symbol and the datum made last
abbrev pub prefixed_last : ℕ → ℕ → List Sited → List Sited
prefixed_last at s [] = []
prefixed_last at s (d ∷ made) =
    Sited.pair at (Sited.name at s) (Sited.pair at d (Sited.nil at)) ∷ made
