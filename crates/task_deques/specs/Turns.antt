-- Whom a holder steals from, in turn.
use Rattle.std.specs.Prelude.{ℕ, zero, suc, ◌+◌, ◌-◌, nat_lt, eqb, List, [], ◌∷◌, ◌++◌, cond}

-- the number that is `step` after `own`, around `count`
abbrev pub after : ℕ → ℕ → ℕ → ℕ
after count own step = cond (nat_lt (own + step) count) (own + step) (own + step - count)

-- the first so many after `own`
abbrev pub turns : ℕ → ℕ → ℕ → List ℕ
turns count own zero = []
turns count own (suc n) = turns count own n ++ after count own (suc n) ∷ []

-- how many stealers a holder has while those below `own` have all, and `own` has `given`
abbrev pub given_to : ℕ → ℕ → ℕ → ℕ → ℕ
given_to count own given number =
    cond (nat_lt number own) (count - 1) (cond (eqb number own) given 0)
