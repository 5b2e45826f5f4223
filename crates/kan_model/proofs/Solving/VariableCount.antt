-- How many variables below a bound stand in equations, and that each replacement takes one away.
use Rattle.std.proofs.Common.{◌≡◌, ◌⊎◌, ℕ, zero, suc, ◌+◌, ◌<◌, ◌≤◌, Bool, true, false, ◌||◌, eqb, List, [], ◌∷◌, map, inl, inr, sym, refl, arith, ◌∙◌, if◌then◌else◌}
use Rattle.std.proofs.lemmas.Bool.{or_cases, or_left, or_right, eqb-true, eqb-false, true≢false, cases_order}
use Rattle.kan_terms.specs.Tree.{Tree, Tm, occurs}
use Rattle.kan_terms.proofs.TreeLaws.{occurs-fill}
use Rattle.kan_model.specs.Stores.Store.{Equation}
use Rattle.kan_model.specs.Stores.Solve.{replace, replace_sides, above, above_all}

-- a variable stands in an equation, and in one of several
abbrev pub stands_in_sides : ℕ → Equation → Bool
stands_in_sides v e = occurs v e.left || occurs v e.right

abbrev pub stands : ℕ → List Equation → Bool
stands v [] = false
stands v (e ∷ es) = stands_in_sides v e || stands v es

abbrev pub tally : Bool → ℕ
tally true = 1
tally false = 0

-- how many variables below a bound stand in equations
abbrev pub count : ℕ → List Equation → ℕ
count zero es = 0
count (suc n) es = tally (stands n es) + count n es

-- all variables of equations lie below a bound
abbrev pub Below : ℕ → List Equation → Type 0
Below b es = (v : ℕ) → stands v es ≡ true → v < b

tally_le : (a b : Bool) → (a ≡ true → b ≡ true) → tally a ≤ tally b
tally_le true b h = rw (h refl) (omega arith)
tally_le false b h = omega arith

tally_at_most : (a : Bool) → tally a ≤ 1
tally_at_most true = omega arith
tally_at_most false = omega arith

pub count_bounded : (n : ℕ) (es : List Equation) → count n es ≤ n
count_bounded zero es = omega arith
count_bounded (suc n) es = omega (arith, count_bounded n es, tally_at_most (stands n es))

-- fewer variables count for less
pub count_le : (n : ℕ) (es fs : List Equation) → ((v : ℕ) → stands v es ≡ true → stands v fs ≡ true) → count n es ≤ count n fs
count_le zero es fs h = omega arith
count_le (suc n) es fs h = omega (arith, tally_le (stands n es) (stands n fs) (h n), count_le n es fs h)

pub count_lt : (n x : ℕ) (es fs : List Equation) → ((v : ℕ) → stands v es ≡ true → stands v fs ≡ true) →
    x < n → stands x es ≡ false → stands x fs ≡ true → count n es < count n fs
count_lt zero x es fs h below out there = absurd (omega arith)
count_lt (suc n) x es fs h below out there = by (cases_order x n) (count_lt n x es fs h)
  where
    by : (x ≡ n) ⊎ ((x < n) ⊎ (n < x)) → (x < n → stands x es ≡ false → stands x fs ≡ true → count n es < count n fs) → count (suc n) es < count (suc n) fs
    by (inl e) ih = rw (← e, out, there) (omega (arith, count_le x es fs h))
    by (inr (inl l)) ih = omega (arith, tally_le (stands n es) (stands n fs) (h n), ih l out there)
    by (inr (inr g)) ih = absurd (omega arith)

-- the greatest variable plus one is above all variables
pub above_occurs : (v : ℕ) (t : Tm) → occurs v t ≡ true → v < above t
above_occurs v (Tree.leaf x) h = omega (arith, eqb-true v x h)
above_occurs v (Tree.sym s) h = absurd (true≢false (sym h))
above_occurs v (Tree.str s) h = absurd (true≢false (sym h))
above_occurs v (Tree.num n) h = absurd (true≢false (sym h))
above_occurs v (Tree.truth b) h = absurd (true≢false (sym h))
above_occurs v Tree.nil h = absurd (true≢false (sym h))
above_occurs v (Tree.pair a b) h = elim (or_cases (occurs v a) (occurs v b) h) [
  | inl in_a ↦ omega (arith, above_occurs v a in_a)
  | inr in_b ↦ omega (arith, above_occurs v b in_b)
]

pub above_stands : (es : List Equation) → Below (above_all es) es
above_stands [] v h = absurd (true≢false (sym h))
above_stands (e ∷ es) v h = elim (or_cases (stands_in_sides v e) (stands v es) h) [
  | inl here ↦ elim (or_cases (occurs v e.left) (occurs v e.right) here) [
    | inl in_left ↦ omega (arith, above_occurs v e.left in_left)
    | inr in_right ↦ omega (arith, above_occurs v e.right in_right)
  ]
  | inr there ↦ omega (arith, above_stands es v there)
]

-- what stands in a term after a replacement stood there before and isn't the replaced variable, or stands in what replaces it
pub occurs_replace : (v x : ℕ) (t u : Tm) → occurs v (replace x t u) ≡ true → ((occurs v u ≡ true) × (eqb x v ≡ false)) ⊎ (occurs v t ≡ true)
occurs_replace v x t u h = by (found.0) (found.1) (eqb x found.0) refl (found.2)
  where
    found : (y : ℕ) × (occurs y u ≡ true) × (occurs v (if eqb x y then t else Tree.leaf y) ≡ true)
    found = occurs-fill v (λ y. if eqb x y then t else Tree.leaf y) u h

    by : (y : ℕ) → occurs y u ≡ true → (c : Bool) → eqb x y ≡ c → occurs v (if c then t else Tree.leaf y) ≡ true →
        ((occurs v u ≡ true) × (eqb x v ≡ false)) ⊎ (occurs v t ≡ true)
    by y in_u true e q = inr q
    by y in_u false e q = inl (rw (eqb-true v y q) in_u, rw (eqb-true v y q) e)

pub stands_replaced : (v x : ℕ) (t : Tm) (es : List Equation) → stands v (map (replace_sides x t) es) ≡ true →
    ((stands v es ≡ true) × (eqb x v ≡ false)) ⊎ (occurs v t ≡ true)
stands_replaced v x t [] h = absurd (true≢false (sym h))
stands_replaced v x t (e ∷ es) h =
    elim (or_cases (stands_in_sides v (replace_sides x t e)) (stands v (map (replace_sides x t) es)) h) [
      | inl here ↦ elim (or_cases (occurs v (replace x t e.left)) (occurs v (replace x t e.right)) here) [
        | inl in_left ↦ in_sides (occurs_replace v x t e.left in_left) (λ o. or_left (stands_in_sides v e) (stands v es) (or_left (occurs v e.left) (occurs v e.right) o))
        | inr in_right ↦ in_sides (occurs_replace v x t e.right in_right) (λ o. or_left (stands_in_sides v e) (stands v es) (or_right (occurs v e.left) (occurs v e.right) o))
      ]
      | inr there ↦ in_sides (stands_replaced v x t es there) (λ o. or_right (stands_in_sides v e) (stands v es) o)
    ]
  where
    in_sides : {P Q R S : Type 0} → (P × Q) ⊎ R → (P → S) → (S × Q) ⊎ R
    in_sides (inl (p, q)) f = inl (f p, q)
    in_sides (inr r) f = inr r

-- a replaced variable is gone
pub replaced_gone : (x : ℕ) (t : Tm) (es : List Equation) → occurs x t ≡ false → stands x (map (replace_sides x t) es) ≡ false
replaced_gone x t es out = by (stands x (map (replace_sides x t) es)) refl
  where
    by : (c : Bool) → stands x (map (replace_sides x t) es) ≡ c → c ≡ false
    by true e = elim (stands_replaced x x t es e) [
      | inl (in_es, other) ↦ absurd (eqb-false x x other refl)
      | inr in_t ↦ absurd (true≢false (sym in_t ∙ out))
    ]
    by false e = refl
