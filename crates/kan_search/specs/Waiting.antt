-- Where a run gives no answer before its next pull.
use Rattle.std.specs.Prelude.{◌≡◌, ◌≤◌, ◌⊎◌, ℕ, zero, suc, Bool, true, false, List, [], Option}
use Rattle.std.specs.Prelude.{Some, None, is_some}

-- no more answers are wanted
abbrev pub is_reached : Option ℕ → Bool
is_reached None = false
is_reached (Some zero) = true
is_reached (Some (suc n)) = false

-- no head may be given
abbrev pub GivesNone : {X : Type 0} → Option ℕ → List X → Type 0
GivesNone limit heads = (is_reached limit ≡ true) ⊎ (heads ≡ [])

-- more answers are wanted, and only a pull gives them
pub record WantsPull {X I : Type 0} (limit : Option ℕ) (heads : List X) (tail : Option I)
    (fuel : ℕ) : Type 0 where
  pub wanted : is_reached limit ≡ false
  pub given : heads ≡ []
  pub goes_on : is_some tail ≡ true
  pub fuelled : 1 ≤ fuel
