-- What comes of a goal that is bound to a stream.
use Rattle.std.proofs.Common.{◌≡◌, ◌⊎◌, ℕ, zero, suc, ◌+◌, ◌*◌, ◌^◌, ◌≤◌, ◌<◌, List, [], ◌∷◌, length, Contains, inl, inr, sym, subst, arith}
use Rattle.std.proofs.Math.Nat.{mul-le-mul, le_trans, le_refl}
use Rattle.std.proofs.Math.Pow.{pow_mono}
use Rattle.kan_terms.specs.Tree.{Tm}
use Rattle.kan_model.specs.Programs.Goals.{Goal, Program}
use Rattle.kan_model.specs.Stores.Store.{Store}
use Rattle.kan_model.specs.Streams.Stream.{Stream, Thunk, empty, append, append_each, bind_all}
use Rattle.kan_model.specs.Streams.Running.{run, force}
use Rattle.kan_model.specs.Streams.Pulls.{both_pulls, answers_within}
use Rattle.kan_model.specs.Streams.Taking.{stores_within}
use Rattle.pull_bounds.specs.Coming.{ComesWithin, BoundComes, BothCome}
use Rattle.pull_bounds.proofs.Numbers.{pow-suc_times, pow_times_more, heads_fit, later_fits}
use Rattle.pull_bounds.proofs.Within.{Comes, Comes-within, within-Comes, Comes-more}
use Rattle.pull_bounds.proofs.AppendLaws.{Comes-left, Comes-right}
use Rattle.pull_bounds.proofs.CountLaws.{count, count_ends, count_none, count_pull, answers_are_bounded}

-- an item of a list is its first one, or stands in the rest
first_or_later : {X : Type 0} (y : X) (xs : List X) (x : X) → Contains (y ∷ xs) x → (y ≡ x) ⊎ Contains xs x
first_or_later y xs x (zero, within, is) = inl is
first_or_later y xs x (suc k, within, is) = inr (k, omega arith, is)

module _ (program : Program) where
  -- a store comes before c pulls are over
  abbrev pub Before : ℕ → Stream → Store → Type 0
  Before c s st = (b : ℕ) × (b < c) × Comes program b s st

  Before-more : (c d : ℕ) (s : Stream) (st : Store) → c ≤ d → Before c s st → Before d s st
  Before-more c d s st le (b, lt, h) = (b, omega arith, h)

  -- on either side of an append that takes at most twice as many
  Before-left : (c : ℕ) (s t : Stream) (st : Store) → Before c s st → Before (2 * c) (append s t) st
  Before-left c s t st (b, lt, h) = (2 * b, omega arith, Comes-left program b s st h t)

  Before-right : (c : ℕ) (s t : Stream) (st : Store) → Before c t st → Before (2 * c) (append s t) st
  Before-right c s t st (b, lt, h) = (2 * b + 1, omega arith, Comes-right program b s t st h)

  module _ (goal_at : Store → Stream) where
    -- what comes of a stream behind those of the goal at some stores
    Before-each_last : (c : ℕ) (hs : List Store) (t : Stream) (st : Store) → Before c t st → Before (2 ^ length hs * c) (append_each goal_at hs t) st
    Before-each_last c [] t st h = Before-more c (2 ^ 0 * c) t st (pow_times_more 0 c) h
    Before-each_last c (h1 ∷ hs) t st h =
        Before-more (2 * (2 ^ length hs * c)) (2 ^ length (h1 ∷ hs) * c) (append_each goal_at (h1 ∷ hs) t) st (omega (arith, pow-suc_times (length hs) c))
        (Before-right (2 ^ length hs * c) (goal_at h1) (append_each goal_at hs t) st (Before-each_last c hs t st h))

    -- what comes of the goal at one of the stores
    Before-each : (c : ℕ) (hs : List Store) (t : Stream) (first st : Store) → Contains hs first → Before c (goal_at first) st →
        Before (2 ^ length hs * c) (append_each goal_at hs t) st
    Before-each c [] t first st (k, within, is) h = absurd (omega arith)
    Before-each c (h1 ∷ hs) t first st there h =
        Before-more (2 * (2 ^ length hs * c)) (2 ^ length (h1 ∷ hs) * c) (append_each goal_at (h1 ∷ hs) t) st (omega (arith, pow-suc_times (length hs) c))
        (by (first_or_later h1 hs first there) (λ later. Before-each c hs t first st later h))
      where
        by : (h1 ≡ first) ⊎ Contains hs first → (Contains hs first → Before (2 ^ length hs * c) (append_each goal_at hs t) st) →
            Before (2 * (2 ^ length hs * c)) (append (goal_at h1) (append_each goal_at hs t)) st
        by (inl is) rest =
            Before-left (2 ^ length hs * c) (goal_at h1) (append_each goal_at hs t) st
            (Before-more c (2 ^ length hs * c) (goal_at h1) st (pow_times_more (length hs) c) (subst (λ x. Before c (goal_at x) st) (sym is) h))
        by (inr later) rest = Before-right (2 ^ length hs * c) (goal_at h1) (append_each goal_at hs t) st (rest later)

  module _ (g : Goal) (env : List Tm) where
    -- what comes of the goal at the stores that come after a pull, behind what it gives at the heads
    after_pull : (m b b2 n : ℕ) (hs : List Store) (i : Thunk) (st : Store) → length hs + m ≤ n →
        Before (both_pulls m b b2) (bind_all (run g env) g env (force program i)) st →
        Before (both_pulls n (suc b) b2) (append_each (run g env) hs (Stream.goes_on [] (Thunk.bind g env i))) st
    after_pull m b b2 n hs i st few (c, lt, comes) =
        Before-more (2 ^ length hs * suc (both_pulls m b b2)) (both_pulls n (suc b) b2) (append_each (run g env) hs (Stream.goes_on [] (Thunk.bind g env i))) st
        (le_trans (later_fits (length hs) m (b + 2 * b2 + 1)) (mul-le-mul (pow_mono few) (omega arith)))
        (Before-each_last (run g env) (suc (both_pulls m b b2)) hs (Stream.goes_on [] (Thunk.bind g env i)) st (suc c, omega arith, Comes.pulled comes))

    -- an answer of the goal at a store that comes of the stream, where at most n come by then
    Before-bind : (b1 b2 n : ℕ) (s : Stream) (first st : Store) → count program b1 s ≤ n → Comes program b1 s first → Comes program b2 (run g env first) st →
        Before (both_pulls n b1 b2) (bind_all (run g env) g env s) st
    Before-bind b1 b2 n s first st few (Comes.last {hs = hs} there) h =
        Before-more (2 ^ length hs * (b2 + 1)) (both_pulls n b1 b2) (append_each (run g env) hs empty) st
        (heads_fit (length hs) n b1 b2 (omega (arith, few, count_ends program b1 hs)))
        (Before-each (run g env) (b2 + 1) hs empty first st there (b2, omega arith, h))
    Before-bind zero b2 n s first st few (Comes.head {hs = hs} {i = i} there) h =
        Before-more (2 ^ length hs * (b2 + 1)) (both_pulls n 0 b2) (append_each (run g env) hs (Stream.goes_on [] (Thunk.bind g env i))) st
        (heads_fit (length hs) n 0 b2 (omega (arith, few, count_none program hs i)))
        (Before-each (run g env) (b2 + 1) hs (Stream.goes_on [] (Thunk.bind g env i)) first st there (b2, omega arith, h))
    Before-bind (suc b) b2 n s first st few (Comes.head {hs = hs} {i = i} there) h =
        Before-more (2 ^ length hs * (b2 + 1)) (both_pulls n (suc b) b2) (append_each (run g env) hs (Stream.goes_on [] (Thunk.bind g env i))) st
        (heads_fit (length hs) n (suc b) b2 (omega (arith, few, count_pull program b hs i)))
        (Before-each (run g env) (b2 + 1) hs (Stream.goes_on [] (Thunk.bind g env i)) first st there (b2, omega arith, h))
    Before-bind b1 b2 n s first st few (Comes.pulled {b = b} {hs = hs} {i = i} there) h =
        after_pull (count program b (force program i)) b b2 n hs i st (omega (arith, few, count_pull program b hs i))
        (Before-bind b b2 (count program b (force program i)) (force program i) first st (le_refl (count program b (force program i))) there h)

  Before-within : (c : ℕ) (s : Stream) (st : Store) → Before c s st → ComesWithin program c s st
  Before-within c s st (b, lt, h) = within-Comes program c s st (Comes-more program b c s st (omega arith) h)

  -- at most n stores come of the stream by then
  pub bound_within : (g : Goal) (env : List Tm) (s : Stream) (b1 b2 n : ℕ) (first second : Store) → length (stores_within program b1 s) ≤ n →
      ComesWithin program b1 s first → ComesWithin program b2 (run g env first) second → ComesWithin program (both_pulls n b1 b2) (bind_all (run g env) g env s) second
  unfolding count
  bound_within g env s b1 b2 n first second few one two =
      Before-within (both_pulls n b1 b2) (bind_all (run g env) g env s) second
      (Before-bind g env b1 b2 n s first second few (Comes-within program b1 s first one) (Comes-within program b2 (run g env first) second two))

pub bound_comes : BoundComes
bound_comes program g env s b1 b2 first second one two =
    bound_within program g env s b1 b2 (length (stores_within program b1 s)) first second (le_refl (length (stores_within program b1 s))) one two

pub both_come : BothCome
both_come program g h env st first second b1 b2 one two =
    bound_within program h env (run g env st) b1 b2 (answers_within program g b1) first second (answers_are_bounded program g env st b1) one two
