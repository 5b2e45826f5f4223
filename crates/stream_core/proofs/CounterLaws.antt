-- The counters of a stream's stores lie between its floor and its top.
use Rattle.std.proofs.Common.{ℕ, ◌≤◌, List, [], ◌∷◌, arith, min, max}
use Rattle.kan_model.specs.Stores.Store.{Store}
use Rattle.kan_model.specs.Streams.Stream.{Stream, heads}
use Rattle.kan_model.specs.Streams.Bounds.{top, floor, stream_top, stream_floor, highest, lowest}
use Rattle.stream_core.specs.CounterBounds.{Between}
use Rattle.kan_model.specs.Each.{Each}
use Rattle.kan_model.proofs.ListLaws.{Each-like}

-- heads lie between the least and the greatest of their counters
all-between : (hs : List Store) (m n : ℕ) → Each (Between (lowest hs m) (highest hs n)) hs
all-between [] m n = tt
all-between (st ∷ hs) m n =
    let low : lowest (st ∷ hs) m ≤ lowest hs m = omega arith in
    let high : highest hs n ≤ highest (st ∷ hs) n = omega arith in (
      (omega arith, omega arith),
      Each-like (Between (lowest hs m) (highest hs n)) (Between (lowest (st ∷ hs) m) (highest (st ∷ hs) n)) (λ a (l, h). (omega (arith, low, l), omega (arith, high, h))) hs (all-between hs m n),
    )

pub lowest-below : (hs : List Store) (m : ℕ) → lowest hs m ≤ m
lowest-below [] m = omega arith
lowest-below (st ∷ hs) m = let rest = lowest-below hs m in omega (arith, rest)

pub highest-above : (hs : List Store) (n : ℕ) → n ≤ highest hs n
highest-above [] n = omega arith
highest-above (st ∷ hs) n = let rest = highest-above hs n in omega (arith, rest)

pub stream-between : (t : Stream) (m n : ℕ) → Each (Between (stream_floor t m) (stream_top t n)) (heads t)
stream-between (Stream.ends hs) m n = all-between hs m n
stream-between (Stream.goes_on hs i) m n = all-between hs (min (floor i) m) (max (top i) n)

pub stream-floor-below : (t : Stream) (m : ℕ) → stream_floor t m ≤ m
stream-floor-below (Stream.ends hs) m = lowest-below hs m
stream-floor-below (Stream.goes_on hs i) m = let low = lowest-below hs (min (floor i) m) in omega (arith, low)

pub stream-top-above : (t : Stream) (n : ℕ) → n ≤ stream_top t n
stream-top-above (Stream.ends hs) n = highest-above hs n
stream-top-above (Stream.goes_on hs i) n = let high = highest-above hs (max (top i) n) in omega (arith, high)
