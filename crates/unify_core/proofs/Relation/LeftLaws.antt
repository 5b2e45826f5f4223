-- The solver replaces no other variables than those that stand on the left, where these are different ones.
use Rattle.std.proofs.Common.{◌≡◌, ◌≢◌, ◌⊎◌, ℕ, Bool, true, false, eqb, List, [], ◌∷◌, ◌++◌, map, Option, Some, None, option_map, inl, inr, sym, ap, subst, refl, ◌∙◌, if◌then◌else◌}
use Rattle.std.proofs.lemmas.Bool.{eqb-true, ne_eqb, or_cases, true≢false}
use Rattle.kan_terms.specs.Tree.{Tree, Tm, occurs}
use Rattle.kan_model.specs.Stores.Store.{Equation}
use Rattle.kan_model.specs.Stores.Solve.{Replacement, Work, Solves, work, replace_sides, left_first, put_first}
use Rattle.kan_model.specs.Stores.Unifiers.{replaces}
use Rattle.unify_core.specs.Solutions.{equation}

-- the left sides are variables with a property, no two the same
abbrev pub Lefts : (ℕ → Type 0) → List Equation → Type 0
Lefts P [] = Unit {0}
Lefts P (e ∷ es) = (x : ℕ) × (e.left ≡ Tree.leaf x) × P x × Lefts (λ y. P y × (y ≢ x)) es

pub Lefts-like : (P Q : ℕ → Type 0) → ((y : ℕ) → P y → Q y) → (es : List Equation) → Lefts P es → Lefts Q es
Lefts-like P Q f [] h = tt
Lefts-like P Q f (e ∷ es) (x, l, p, rest) = (x, l, f x p, Lefts-like (λ y. P y × (y ≢ x)) (λ y. Q y × (y ≢ x)) (λ y (q, other). (f y q, other)) es rest)

pub Lefts-push : (P : ℕ → Type 0) (es : List Equation) (x : ℕ) (t : Tm) → Lefts P es → (P x → ⊥) → Lefts (λ v. P v ⊎ (v ≡ x)) (es ++ equation (Tree.leaf x) t ∷ [])
Lefts-push P [] x t h new = (x, refl, inr refl, tt)
Lefts-push P (e ∷ es) x t (y, l, p, rest) new = (
  y,
  l,
  inl p,
  Lefts-like (λ v. (P v × (v ≢ y)) ⊎ (v ≡ x)) (λ v. (P v ⊎ (v ≡ x)) × (v ≢ y))
      (λ v. elim [ inl (q, other) ↦ (inl q, other) | inr same ↦ (inr same, λ back. new (subst P (sym back ∙ same) p)) ])
      (es ++ equation (Tree.leaf x) t ∷ []) (Lefts-push (λ v. P v × (v ≢ y)) es x t rest (λ (q, other). new q)),
)

-- a variable that is replaced elsewhere leaves them as they are
lefts_replaced : (P : ℕ → Type 0) (x : ℕ) (t : Tm) (es : List Equation) → Lefts (λ y. P y × (y ≢ x)) es → Lefts (λ y. P y × (y ≢ x)) (map (replace_sides x t) es)
lefts_replaced P x t [] h = tt
lefts_replaced P x t (e ∷ es) (y, l, (p, other), rest) = (
  y,
  ap (λ a. (replace_sides x t (equation a e.right)).left) l ∙ ap (λ c. if c then t else Tree.leaf y) (ne_eqb x y (λ same. other (sym same))),
  (p, other),
  Lefts-like (λ v. (P v × (v ≢ y)) × (v ≢ x)) (λ v. (P v × (v ≢ x)) × (v ≢ y)) (λ v ((q, a), b). ((q, b), a)) (map (replace_sides x t) es)
      (lefts_replaced (λ v. P v × (v ≢ y)) x t es (Lefts-like (λ v. (P v × (v ≢ x)) × (v ≢ y)) (λ v. (P v × (v ≢ y)) × (v ≢ x)) (λ v ((q, a), b). ((q, b), a)) es rest)),
)

-- what is replaced in an equation with a variable on the left
which_unless : (y x : ℕ) (b t : Tm) (c : Bool) → (if c then Work.clash else Work.substitute y b) ≡ Work.substitute x t → x ≡ y
which_unless y x b t true h = cc
which_unless y x b t false h = cc

which_of_two : (y z x : ℕ) (t : Tm) (c : Bool) → (if c then Work.identical else Work.substitute y (Tree.leaf z)) ≡ Work.substitute x t → x ≡ y
which_of_two y z x t true h = cc
which_of_two y z x t false h = cc

which_is_replaced : (y x : ℕ) (b t : Tm) → work left_first (equation (Tree.leaf y) b) ≡ Work.substitute x t → x ≡ y
which_is_replaced y x (Tree.leaf z) t h = which_of_two y z x t (eqb y z) h
which_is_replaced y x (Tree.sym s) t h = which_unless y x (Tree.sym s) t false h
which_is_replaced y x (Tree.str s) t h = which_unless y x (Tree.str s) t false h
which_is_replaced y x (Tree.num n) t h = which_unless y x (Tree.num n) t false h
which_is_replaced y x (Tree.truth b) t h = which_unless y x (Tree.truth b) t false h
which_is_replaced y x Tree.nil t h = which_unless y x Tree.nil t false h
which_is_replaced y x (Tree.pair a b) t h = which_unless y x (Tree.pair a b) t (occurs y (Tree.pair a b)) h

not_parted : (y : ℕ) (b : Tm) (first rest : Equation) → work left_first (equation (Tree.leaf y) b) ≢ Work.parts first rest
not_parted y (Tree.leaf z) first rest h = by (eqb y z) h
  where
    by : (c : Bool) → (if c then Work.identical else Work.substitute y (Tree.leaf z)) ≡ Work.parts first rest → ⊥
    by true e = cc
    by false e = cc
not_parted y (Tree.pair a b) first rest h = by (occurs y (Tree.pair a b)) h
  where
    by : (c : Bool) → (if c then Work.clash else Work.substitute y (Tree.pair a b)) ≡ Work.parts first rest → ⊥
    by true e = cc
    by false e = cc
not_parted y b first rest h = cc

-- what is said of an answer's replaced variables
abbrev ReplacesOnly : (ℕ → Type 0) → Option Replacement → Type 0
ReplacesOnly P None = Unit {0}
ReplacesOnly P (Some s) = (v : ℕ) → replaces s v ≡ true → P v

only_like : (P Q : ℕ → Type 0) → ((y : ℕ) → P y → Q y) → (r : Option Replacement) → ReplacesOnly P r → ReplacesOnly Q r
only_like P Q f None h = tt
only_like P Q f (Some s) h = λ v e. f v (h v e)

only_first : (P : ℕ → Type 0) (x : ℕ) (t : Tm) (r : Option Replacement) → P x → ReplacesOnly P r → ReplacesOnly P (option_map (put_first x t) r)
only_first P x t None p h = tt
only_first P x t (Some s) p h = λ v e. elim (or_cases (eqb x v) (replaces s v) e) [ inl same ↦ subst P (eqb-true x v same) p | inr there ↦ h v there ]

-- the solver replaces only what stands on the left
pub replaces_lefts : (es : List Equation) (r : Option Replacement) → Solves left_first es r → (P : ℕ → Type 0) → Lefts P es → ReplacesOnly P r
replaces_lefts es r Solves.no_equation P h = λ v e. absurd (true≢false (sym e))
replaces_lefts es r (Solves.identical {e = e} {es = rest} h d) P (y, l, p, lefts) =
    only_like (λ v. P v × (v ≢ y)) P (λ v (q, other). q) r (replaces_lefts rest r d (λ v. P v × (v ≢ y)) lefts)
replaces_lefts es r (Solves.parted {e = e} {first = first} {rest = last} {es = rest} h d) P (y, l, p, lefts) =
    absurd (not_parted y e.right first last (ap (λ a. work left_first (equation a e.right)) (sym l) ∙ h))
replaces_lefts es r (Solves.replaced {e = e} {x = x} {t = t} {es = rest} {r = q} h d) P (y, l, p, lefts) =
    let same : x ≡ y = which_is_replaced y x e.right t (ap (λ a. work left_first (equation a e.right)) (sym l) ∙ h) in
    only_first P x t q (subst P (sym same) p)
    (only_like (λ v. P v × (v ≢ x)) P (λ v (k, other). k) q
    (replaces_lefts (map (replace_sides x t) rest) q d (λ v. P v × (v ≢ x)) (lefts_replaced P x t rest (subst (λ w. Lefts (λ v. P v × (v ≢ w)) rest) (sym same) lefts))))
replaces_lefts es r (Solves.no_answer h) P lefts = tt
