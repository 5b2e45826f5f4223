-- What holds of each store that can come of a stream holds of each store that is taken.
use Rattle.std.proofs.Common.{ℕ, zero, suc, List, [], ◌∷◌, Option, Some, None, Contains, subst, arith}
use Rattle.kan_model.specs.Programs.Goals.{Program}
use Rattle.kan_model.specs.Stores.Store.{Store}
use Rattle.kan_model.specs.Streams.Running.{force}
use Rattle.kan_model.specs.Streams.Stream.{Stream, Thunk}
use Rattle.kan_model.specs.Streams.Taking.{Taken, Ending, nothing_more, with_pull, give, take}
use Rattle.kan_model.specs.Each.{Each}

-- what holds of each store holds of one of them
pub one_of_each : (P : Store → Type 0) (hs : List Store) (st : Store) → Each P hs → Contains hs st → P st
one_of_each P [] st h (k, within, is) = absurd (omega (arith, within))
one_of_each P (first ∷ hs) st (holds, h) (zero, within, is) = subst P is holds
one_of_each P (first ∷ hs) st (holds, h) (suc k, within, is) = one_of_each P hs st h (k, omega (arith, within), is)

give_each : (P : Store → Type 0) (others : Option ℕ → Taken) → ((l : Option ℕ) → Each P (others l).stores) → (hs : List Store) (l : Option ℕ) → Each P hs → Each P (give others hs l).stores
give_each P others rest hs (Some zero) h = tt
give_each P others rest [] None h = rest None
give_each P others rest [] (Some (suc n)) h = rest (Some (suc n))
give_each P others rest (st ∷ hs) None (first, h) = (first, give_each P others rest hs None h)
give_each P others rest (st ∷ hs) (Some (suc n)) (first, h) = (first, give_each P others rest hs (Some n) h)

-- P holds of the heads of streams of which I holds, and I of what comes after a pull
module _ (program : Program) (P : Store → Type 0) (I : Stream → Type 0) (last : (hs : List Store) → I (Stream.ends hs) → Each P hs)
    (onward : (hs : List Store) (i : Thunk) → I (Stream.goes_on hs i) → Each P hs × I (force program i)) where
  pub take_each : (f : ℕ) (s : Stream) (l : Option ℕ) → I s → Each P (take program f s l).stores
  take_each zero (Stream.ends hs) l h = give_each P (λ rest. nothing_more Ending.end) (λ m. tt) hs l (last hs h)
  take_each zero (Stream.goes_on hs i) l h = give_each P (λ rest. nothing_more Ending.fuel) (λ m. tt) hs l (onward hs i h).0
  take_each (suc f) (Stream.ends hs) l h = give_each P (λ rest. nothing_more Ending.end) (λ m. tt) hs l (last hs h)
  take_each (suc f) (Stream.goes_on hs i) l h =
      give_each P (λ rest. with_pull (take program f (force program i) rest)) (λ m. take_each f (force program i) m (onward hs i h).1) hs l (onward hs i h).0
