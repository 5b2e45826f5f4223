-- Tops that are noted as far as the first number that is too high.
use Rattle.std.proofs.Common.{◌≡◌, ℕ, zero, suc, ◌+◌, ◌<◌, ◌^◌, List, [], ◌∷◌, length, map, take, refl, sym, ◌∙◌, ap, ap₂, subst, arith, min, max, get_or}
use Rattle.std.specs.Prelude.{Option, Some, None, option_map}
use Rattle.kan_model.specs.Programs.Goals.{Program}
use Rattle.kan_model.specs.Stores.Store as facts
use Rattle.kan_model.specs.Streams.Stream as model
use Rattle.kan_model.specs.Streams.Bounds.{top, highest}
use Rattle.stream_core.specs.Suspensions.{going_on}
use Rattle.stream_core.specs.declared.streams.Thunk.{Thunk}
use Rattle.stream_core.specs.declared.streams.Thunk.TheVariants.{Swap}
use Rattle.susp_cells.specs.Places.{Place, label_tree, noted_top, stands_for}
use Rattle.susp_cells.specs.Tops.{tail_top}

none-below : (k : ℕ) → k < 0 → ⊥
none-below k low = omega (arith, low)

highest-next : {St : Type 0} (means : St → facts.Store) (n : ℕ) (d : St) (stores : List St) (i : ℕ) → i < length stores →
    max (means (get_or stores i d)).counter (highest (map means (take i stores)) n) ≡ highest (map means (take (suc i) stores)) n
highest-next means n d [] i low = absurd (none-below i low)
highest-next means n d (st ∷ stores) zero low = refl
highest-next means n d (st ∷ stores) (suc i) low = let rest = highest-next means n d stores i (omega (arith, low)) in omega (arith, rest)

-- one store more
pub highest-step : {St : Type 0} (means : St → facts.Store) (stores : List St) (i most n : ℕ) (d : St) → most ≡ highest (map means (take i stores)) n → i < length stores →
    max (means (get_or stores i d)).counter most ≡ highest (map means (take (i + 1) stores)) n
highest-step means stores i most n d is low =
    let next : suc i ≡ i + 1 = omega arith in
    ap (max (means (get_or stores i d)).counter) is
    ∙ subst (λ k. max (means (get_or stores i d)).counter (highest (map means (take i stores)) n) ≡ highest (map means (take k stores)) n) next (highest-next means n d stores i low)

highest-noted : (hs : List facts.Store) (n : ℕ) → min (highest hs (min n (2 ^ 62 + 1))) (2 ^ 62 + 1) ≡ min (highest hs n) (2 ^ 62 + 1)
highest-noted [] n = omega arith
highest-noted (st ∷ hs) n = let rest = highest-noted hs n in omega (arith, rest)

both-noted : (a b : ℕ) → max (min a (2 ^ 62 + 1)) (min b (2 ^ 62 + 1)) ≡ min (max a b) (2 ^ 62 + 1)
both-noted a b = omega arith

-- the top of a stream that waits behind a suspension
pub swap-top : (hs : List facts.Store) (tail : Option Place) (i : model.Thunk) → min (highest hs (tail_top tail (noted_top i))) (2 ^ 62 + 1) ≡ noted_top (model.Thunk.swap (going_on hs (option_map label_tree tail)) i)
swap-top hs None i = highest-noted hs (top i)
swap-top hs (Some j) i = ap (λ n. min (highest hs n) (2 ^ 62 + 1)) (both-noted (top (label_tree j)) (top i)) ∙ highest-noted hs (max (top (label_tree j)) (top i))

pub swap-noted : {St : Type 0} (p : Program) (means : St → facts.Store) (t : Thunk Place St) (heads items : List St) (tail : Option Place) (inner : Place) (n m r : ℕ) → t ≡ Swap heads tail inner → items ≡ heads →
    n ≡ noted_top (label_tree inner) → m ≡ tail_top tail n → r ≡ min (highest (map means items) m) (2 ^ 62 + 1) → r ≡ noted_top (stands_for p means t)
swap-noted p means t heads items tail inner n m r is all own later made =
    made ∙ ap₂ (λ xs k. min (highest (map means xs) k) (2 ^ 62 + 1)) all (later ∙ ap (tail_top tail) own)
    ∙ swap-top (map means heads) tail (label_tree inner) ∙ ap (λ u. noted_top (stands_for p means u)) (sym is)
