-- Streams that a program gives: the counters of their stores keep to bounds, and what they go on
-- with fits the program.
use Rattle.std.specs.Prelude.{◌≡◌, ℕ, ◌+◌, ◌≤◌, ◌^◌, true, List}
use Rattle.std.specs.List.{list_all}
use Rattle.kan_terms.specs.Tree.{Tm}
use Rattle.kan_model.specs.Programs.Goals.{Goal, Program}
use Rattle.kan_model.specs.Stores.Store.{Store}
use Rattle.kan_model.specs.Streams.Stream.{Stream, heads}
use Rattle.kan_model.specs.Programs.Scope.{width, all_below}
use Rattle.kan_model.specs.Streams.Bounds.{Fits, top, floor}
use Rattle.kan_model.specs.Each.{Each}

-- a counter between two numbers
abbrev pub Between : ℕ → ℕ → Store → Type 0
Between low high st = (low ≤ st.counter) × (st.counter ≤ high)

-- what a stream goes on with, where it does, fits and lies between two numbers
abbrev pub RestFits : Program → ℕ → ℕ → Stream → Type 0
RestFits program low high (Stream.ends hs) = Unit {0}
RestFits program low high (Stream.goes_on hs i) = Fits program i × (low ≤ floor i) × (top i ≤ high)

-- the stores' counters lie between two numbers, and the tail fits, where each call may take 2^21
-- variables more
pub record TailFits (program : Program) (low high : ℕ) (s : Stream) : Type 0 where
  pub heads : Each (Between low high) (heads s)
  pub tail : RestFits program low (high + 2 ^ 21) s

-- a stream keeps to all bounds to which two others keep
abbrev pub FitsAsBoth : Program → Stream → Stream → Stream → Type 0
FitsAsBoth program s t made =
    (low high : ℕ) → TailFits program low high s → TailFits program low high t →
    TailFits program low high made

-- a goal that is bound to a stream raises bounds by its width at most
abbrev pub FitsAsBound : Program → Goal → List Tm → Stream → Stream → Type 0
FitsAsBound program g env s made =
    (low high : ℕ) → list_all (all_below low) env ≡ true → TailFits program low high s →
    TailFits program low (high + width g) made
