-- Terms without variables, and variables above all that stand in bindings.
use Rattle.std.proofs.Common.{◌≡◌, ℕ, ◌<◌, ◌≤◌, Bool, true, false, eqb, List, [], ◌∷◌, Option, Some, None, inl, inr, sym, subst, ◌∙◌, arith, if◌then◌else◌}
use Rattle.std.proofs.lemmas.Bool.{eqb-true, or_cases, false_from_ne_true}
use Rattle.kan_terms.specs.Tree.{Tree, Tm, occurs}
use Rattle.kan_terms.specs.Greatest.{greater, greatest_in, greatest_bound}
use Rattle.kan_terms.proofs.TreeLaws.{occurs-fill}
use Rattle.unify_core.specs.declared.walking.LentBinding.{LentBinding}
use Rattle.unify_core.specs.LentBindings.{AllAbove, lent_pair, with_lent}
use Rattle.unify_core.specs.Walking.{Pairs, ends, full}
use Rattle.unify_core.proofs.GrowthLaws.{full-newest, replace_absent}

-- a variable is at most the greatest one
abbrev pub IsUpTo : ℕ → Option ℕ → Type 0
IsUpTo y None = ⊥
IsUpTo y (Some g) = y ≤ g

up_to-left : (y : ℕ) (a b : Option ℕ) → IsUpTo y a → IsUpTo y (greater a b)
up_to-left y None b h = absurd h
up_to-left y (Some g) None h = h
up_to-left y (Some g) (Some k) h = omega (arith, h)

up_to-right : (y : ℕ) (a b : Option ℕ) → IsUpTo y b → IsUpTo y (greater a b)
up_to-right y None b h = h
up_to-right y (Some g) None h = absurd h
up_to-right y (Some g) (Some k) h = omega (arith, h)

-- a variable that stands in a term
pub occurs-up_to : (y : ℕ) (t : Tm) → occurs y t ≡ true → IsUpTo y (greatest_in t)
occurs-up_to y (Tree.leaf v) inside = omega (arith, eqb-true y v inside)
occurs-up_to y (Tree.sym s) inside = cc
occurs-up_to y (Tree.str s) inside = cc
occurs-up_to y (Tree.num n) inside = cc
occurs-up_to y (Tree.truth b) inside = cc
occurs-up_to y Tree.nil inside = cc
occurs-up_to y (Tree.pair a b) inside =
    elim (or_cases (occurs y a) (occurs y b) inside) [
      | inl in_a ↦ up_to-left y (greatest_in a) (greatest_in b) (occurs-up_to y a in_a)
      | inr in_b ↦ up_to-right y (greatest_in a) (greatest_in b) (occurs-up_to y b in_b)
    ]

-- no variable stands in the full value of a term that has none
pub none_in_full : (bound : Pairs) (x : ℕ) (t : Tm) → greatest_in t ≡ None → occurs x (full bound t) ≡ false
none_in_full bound x t none =
    false_from_ne_true (occurs x (full bound t)) (λ inside.
    let (z, in_t, same) = occurs-fill x (ends bound) t inside in absurd (subst (IsUpTo z) none (occurs-up_to z t in_t)))

-- no variable of a term is above a number
abbrev pub UpTo : ℕ → Tm → Type 0
UpTo low t = (y : ℕ) → occurs y t ≡ true → y ≤ low

-- and none of the terms of bindings
abbrev pub AllUpTo : ℕ → Pairs → Type 0
AllUpTo low [] = Unit {0}
AllUpTo low (newest ∷ older) = UpTo low newest.1 × AllUpTo low older

all_up_to : (low : ℕ) (bound : Pairs) → ((y : ℕ) → IsUpTo y (greatest_bound bound) → y ≤ low) → AllUpTo low bound
all_up_to low [] h = tt
all_up_to low (p ∷ older) h = (
  λ y inside. h y (up_to-left y (greater (Some p.0) (greatest_in p.1)) (greatest_bound older) (up_to-right y (Some p.0) (greatest_in p.1) (occurs-up_to y p.1 inside))),
  all_up_to low older (λ y below. h y (up_to-right y (greater (Some p.0) (greatest_in p.1)) (greatest_bound older) below)),
)

full_up_to : (low : ℕ) (bound : Pairs) → AllUpTo low bound → (t : Tm) → UpTo low t → UpTo low (full bound t)
full_up_to low [] all t h y inside = let (z, in_t, same) = occurs-fill y Tree.leaf t inside in omega (arith, h z in_t, eqb-true y z same)
full_up_to low (p ∷ older) (own, all) t h y inside =
    let (z, there, in_z) = occurs-fill y (λ v. if eqb p.0 v then full older p.1 else Tree.leaf v) (full older t) (subst (λ w. occurs y w ≡ true) (full-newest p older t) inside) in
    by z (eqb p.0 z) in_z (full_up_to low older all t h z there) (full_up_to low older all p.1 own y)
  where
    by : (z : ℕ) (c : Bool) → occurs y (if c then full older p.1 else Tree.leaf z) ≡ true → z ≤ low → (occurs y (full older p.1) ≡ true → y ≤ low) → y ≤ low
    by z true e below of_term = of_term e
    by z false e below of_term = omega (arith, eqb-true y z e, below)

-- a new variable in front changes nothing
new_same : (low : ℕ) (one : LentBinding) (bound : Pairs) (t : Tm) → UpTo low (full bound t) → low < one.var → full (lent_pair one ∷ bound) t ≡ full bound t
new_same low one bound t h new =
    full-newest (lent_pair one) bound t
    ∙ replace_absent one.var _ (full bound t) (false_from_ne_true (occurs one.var (full bound t)) (λ inside. absurd (omega (arith, new, h one.var inside))))

lent_up_to : (low : ℕ) (lent : List LentBinding) (bound : Pairs) (t : Tm) → UpTo low (full bound t) → AllAbove low lent → UpTo low (full (with_lent lent bound) t)
lent_up_to low [] bound t h above = h
lent_up_to low (one ∷ more) bound t h (new, above) =
    lent_up_to low more (lent_pair one ∷ bound) t (subst (UpTo low) (sym (new_same low one bound t h new)) h) above

-- a new variable doesn't stand in a term with old variables alone, where all that were lent are new too
pub new_apart : (bound : Pairs) (lent : List LentBinding) (x : ℕ) (t : Tm) (low g : ℕ) → greatest_bound bound ≡ Some low → greatest_in t ≡ Some g → g ≤ low → low < x → AllAbove low lent →
    occurs x (full (with_lent lent bound) t) ≡ false
new_apart bound lent x t low g old greatest le new above =
    false_from_ne_true (occurs x (full (with_lent lent bound) t)) (λ inside. absurd (omega (arith, new, below x inside)))
  where
    own : UpTo low t
    own y inside = let at_most : y ≤ g = subst (IsUpTo y) greatest (occurs-up_to y t inside) in omega (arith, at_most, le)

    below : UpTo low (full (with_lent lent bound) t)
    below = lent_up_to low lent bound t (full_up_to low bound (all_up_to low bound (λ y h. subst (IsUpTo y) old h)) t own) above
