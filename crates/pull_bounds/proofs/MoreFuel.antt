-- With more fuel the same stores are taken first.
use Rattle.std.proofs.Common.{◌≡◌, ℕ, zero, suc, ◌≤◌, List, [], ◌∷◌, ◌++◌, Option, Some, None, refl, ap, arith}
use Rattle.kan_model.specs.Programs.Goals.{Program}
use Rattle.kan_model.specs.Stores.Store.{Store}
use Rattle.kan_model.specs.Streams.Stream.{Stream}
use Rattle.kan_model.specs.Streams.Running.{force}
use Rattle.kan_model.specs.Streams.Taking.{Taken, Ending, nothing_more, with_pull, give, take}
use Rattle.pull_bounds.specs.Finding.{MoreFuelAddsBehind}

-- the stores of the second begin with those of the first
abbrev ComeFirst : Taken → Taken → Type 0
ComeFirst t u = (later : List Store) × (u.stores ≡ t.stores ++ later)

give_first : (others more : Option ℕ → Taken) → ((l : Option ℕ) → ComeFirst (others l) (more l)) → (hs : List Store) (l : Option ℕ) →
    ComeFirst (give others hs l) (give more hs l)
give_first others more rest hs (Some zero) = ([], refl)
give_first others more rest [] None = rest None
give_first others more rest [] (Some (suc n)) = rest (Some (suc n))
give_first others more rest (st ∷ sts) None = let (later, e) = give_first others more rest sts None in (later, ap (λ l. st ∷ l) e)
give_first others more rest (st ∷ sts) (Some (suc n)) = let (later, e) = give_first others more rest sts (Some n) in (later, ap (λ l. st ∷ l) e)

module _ (program : Program) where
  take_first : (f g : ℕ) (s : Stream) (l : Option ℕ) → f ≤ g → ComeFirst (take program f s l) (take program g s l)
  take_first zero zero (Stream.ends hs) l le = give_first (λ rest. nothing_more Ending.end) (λ rest. nothing_more Ending.end) (λ m. ([], refl)) hs l
  take_first zero (suc g) (Stream.ends hs) l le = give_first (λ rest. nothing_more Ending.end) (λ rest. nothing_more Ending.end) (λ m. ([], refl)) hs l
  take_first (suc f) (suc g) (Stream.ends hs) l le = give_first (λ rest. nothing_more Ending.end) (λ rest. nothing_more Ending.end) (λ m. ([], refl)) hs l
  take_first zero zero (Stream.goes_on hs i) l le = give_first (λ rest. nothing_more Ending.fuel) (λ rest. nothing_more Ending.fuel) (λ m. ([], refl)) hs l
  take_first zero (suc g) (Stream.goes_on hs i) l le =
      give_first (λ rest. nothing_more Ending.fuel) (λ rest. with_pull (take program g (force program i) rest)) (λ m. ((take program g (force program i) m).stores, refl)) hs l
  take_first (suc f) (suc g) (Stream.goes_on hs i) l le =
      give_first (λ rest. with_pull (take program f (force program i) rest)) (λ rest. with_pull (take program g (force program i) rest))
      (λ m. take_first f g (force program i) m (omega arith)) hs l
  take_first (suc f) zero s l le = absurd (omega arith)

pub more_fuel_adds_behind : MoreFuelAddsBehind
more_fuel_adds_behind program f g s l le = take_first program f g s l le
