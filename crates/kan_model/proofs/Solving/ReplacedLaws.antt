-- Which variables stand in what the solver answers: those of the equations, without the replaced ones.
use Rattle.std.proofs.Common.{◌≡◌, ◌⊎◌, ℕ, Bool, true, false, eqb, List, [], ◌∷◌, map, Option, Some, None, option_map, inl, inr, sym, subst, refl, ◌∙◌, if◌then◌else◌}
use Rattle.std.proofs.lemmas.Bool.{eqb-true, eqb-false, or_cases, or_right, or_parts, both_ways, false_from_ne_true, true≢false}
use Rattle.kan_terms.specs.Tree.{Tree, Tm, occurs}
use Rattle.kan_terms.proofs.TreeLaws.{fill-leaf, fill-same_occurs, occurs-fill}
use Rattle.kan_model.specs.Stores.Store.{Equation}
use Rattle.kan_model.specs.Stores.Solve.{Replacement, Work, image, apply, replace_sides, put_first, Solves, solve_by}
use Rattle.kan_model.specs.Stores.Unifiers.{replaces, ReplacedIsGone, AppliedTwice}
use Rattle.kan_model.proofs.Solving.WorkLaws.{OneIs, work_explained}
use Rattle.kan_model.proofs.Solving.VariableCount.{stands, stands_in_sides, replaced_gone}
use Rattle.kan_model.proofs.Solving.SolveLaws.{solve_by-Solves, after_stand, term_stands, replaced_stands, parts_stand}

-- what stands for a variable has no other variables than those of the equations
abbrev pub FromEquations : List Equation → Replacement → Type 0
FromEquations es s = (v y : ℕ) → occurs y (image s v) ≡ true → (v ≡ y) ⊎ (stands y es ≡ true)

-- replaced variables stand in the equations
abbrev pub ReplacesTheirs : List Equation → Replacement → Type 0
ReplacesTheirs es s = (x : ℕ) → replaces s x ≡ true → stands x es ≡ true

-- replaced variables stand in nothing that replaces
abbrev pub Gone : Replacement → Type 0
Gone s = (x : ℕ) → replaces s x ≡ true → (v : ℕ) → occurs x (image s v) ≡ false

abbrev pub Clean : List Equation → Option Replacement → Type 0
Clean es None = Unit {0}
Clean es (Some s) = FromEquations es s × ReplacesTheirs es s × Gone s

-- what holds of fewer equations holds of more
clean_more : (es fs : List Equation) → ((v : ℕ) → stands v es ≡ true → stands v fs ≡ true) → (r : Option Replacement) → Clean es r → Clean fs r
clean_more es fs more None c = tt
clean_more es fs more (Some s) (from, theirs, gone) =
    (λ v y h. elim (from v y h) [ inl same ↦ inl same | inr there ↦ inr (more y there) ], λ x h. more x (theirs x h), gone)

-- a variable in a term under an answer is one of the term, or of the equations
pub in_applied : (es : List Equation) (s : Replacement) → FromEquations es s → (t : Tm) (y : ℕ) → occurs y (apply s t) ≡ true → (occurs y t ≡ true) ⊎ (stands y es ≡ true)
in_applied es s from t y h = by (occurs-fill y (image s) t h)
  where
    by : (z : ℕ) × (occurs z t ≡ true) × (occurs y (image s z) ≡ true) → (occurs y t ≡ true) ⊎ (stands y es ≡ true)
    by (z, inside, under) = elim (from z y under) [ inl same ↦ inl (subst (λ w. occurs w t ≡ true) same inside) | inr there ↦ inr there ]

-- no replaced variable stands in a term under the answer
pub gone_applied : (s : Replacement) → Gone s → (x : ℕ) → replaces s x ≡ true → (t : Tm) → occurs x (apply s t) ≡ false
gone_applied s gone x h t = false_from_ne_true (occurs x (apply s t)) (λ e. by (occurs-fill x (image s) t e))
  where
    by : (z : ℕ) × (occurs z t ≡ true) × (occurs x (image s z) ≡ true) → ⊥
    by (z, inside, under) = both_ways (occurs x (image s z)) (gone x h z) under

-- the first replacement in front of a clean answer
clean_first : (e : Equation) (es : List Equation) (x : ℕ) (t : Tm) (s : Replacement) → OneIs x t e.left e.right → occurs x t ≡ false →
    Clean (map (replace_sides x t) es) (Some s) → Clean (e ∷ es) (Some (put_first x t s))
clean_first e es x t s one out (from, theirs, gone) = (from_first, theirs_first, gone_first)
  where
    rest : List Equation
    rest = map (replace_sides x t) es

    out_of_rest : stands x rest ≡ false
    out_of_rest = replaced_gone x t es out

    from_first : FromEquations (e ∷ es) (put_first x t s)
    from_first v y = by (eqb x v)
      where
        by : (c : Bool) → occurs y (if c then apply s t else image s v) ≡ true → (v ≡ y) ⊎ (stands y (e ∷ es) ≡ true)
        by true h = elim (in_applied rest s from t y h) [ inl inside ↦ inr (term_stands e es x t one y inside) | inr there ↦ inr (after_stand e es x t one y there) ]
        by false h = elim (from v y h) [ inl same ↦ inl same | inr there ↦ inr (after_stand e es x t one y there) ]

    theirs_first : ReplacesTheirs (e ∷ es) (put_first x t s)
    theirs_first y h = elim (or_cases (eqb x y) (replaces s y) h) [
      | inl same ↦ subst (λ w. stands w (e ∷ es) ≡ true) (eqb-true x y same) (replaced_stands e es x t one)
      | inr later ↦ after_stand e es x t one y (theirs y later)
    ]

    x_not_applied : occurs x (apply s t) ≡ false
    x_not_applied = false_from_ne_true (occurs x (apply s t)) (λ h. elim (in_applied rest s from t x h) [
      | inl inside ↦ both_ways (occurs x t) out inside
      | inr there ↦ both_ways (stands x rest) out_of_rest there
    ])

    x_not_under : (v : ℕ) → eqb x v ≡ false → occurs x (image s v) ≡ false
    x_not_under v other = false_from_ne_true (occurs x (image s v)) (λ h. elim (from v x h) [
      | inl same ↦ eqb-false x v other (sym same)
      | inr there ↦ both_ways (stands x rest) out_of_rest there
    ])

    gone_first : Gone (put_first x t s)
    gone_first y h v = by (or_cases (eqb x y) (replaces s y) h) (eqb x v) refl
      where
        by : (eqb x y ≡ true) ⊎ (replaces s y ≡ true) → (c : Bool) → eqb x v ≡ c → occurs y (if c then apply s t else image s v) ≡ false
        by (inl same) true e = subst (λ w. occurs w (apply s t) ≡ false) (eqb-true x y same) x_not_applied
        by (inl same) false e = subst (λ w. occurs w (image s v) ≡ false) (eqb-true x y same) (x_not_under v e)
        by (inr later) true e = gone_applied s gone y later t
        by (inr later) false e = gone y later v

pub Solves-clean : (left : ℕ → ℕ → Bool) (es : List Equation) (r : Option Replacement) → Solves left es r → Clean es r
Solves-clean left es r Solves.no_equation = (λ v y h. inl (sym (eqb-true y v h)), λ x h. absurd (true≢false (sym h)), λ x h. absurd (true≢false (sym h)))
Solves-clean left es r (Solves.identical {e = e} {es = rest} h d) = clean_more rest (e ∷ rest) (λ v. or_right (stands_in_sides v e) (stands v rest)) r (Solves-clean left rest r d)
Solves-clean left es r (Solves.parted {e = e} {first = first} {rest = last} {es = rest} h d) =
    let (l, q) = work_explained ⊥ left e (Work.parts first last) h in
    clean_more (first ∷ last ∷ rest) (e ∷ rest) (parts_stand e first last rest l q) r (Solves-clean left (first ∷ last ∷ rest) r d)
Solves-clean left es r (Solves.replaced {e = e} {x = x} {t = t} {es = rest} {r = q} h d) = by q (Solves-clean left (map (replace_sides x t) rest) q d)
  where
    by : (q : Option Replacement) → Clean (map (replace_sides x t) rest) q → Clean (e ∷ rest) (option_map (put_first x t) q)
    by None c = tt
    by (Some s) c = let (one, out) = work_explained ⊥ left e (Work.substitute x t) h in clean_first e rest x t s one out c
Solves-clean left es r (Solves.no_answer h) = tt

pub answer_clean : (left : ℕ → ℕ → Bool) (es : List Equation) (s : Replacement) → solve_by left es ≡ Some s → Clean es (Some s)
answer_clean left es s h = subst (Clean es) h (Solves-clean left es (solve_by left es) (solve_by-Solves left es))

pub replaced_is_gone : ReplacedIsGone
replaced_is_gone left es s x t h is_replaced = gone_applied s (answer_clean left es s h).2 x is_replaced t

-- a variable that isn't replaced stands for itself
pub image-kept : (s : Replacement) (v : ℕ) → replaces s v ≡ false → image s v ≡ Tree.leaf v
image-kept [] v h = refl
image-kept (r ∷ s) v h = let (other, none) = or_parts (eqb r.var v) (replaces s v) h in rw other (image-kept s v none)

-- a term without replaced variables stays as it is
pub apply-kept : (s : Replacement) (t : Tm) → ((v : ℕ) → occurs v t ≡ true → replaces s v ≡ false) → apply s t ≡ t
apply-kept s t kept = fill-same_occurs (image s) Tree.leaf t (λ v h. image-kept s v (kept v h)) ∙ fill-leaf t

pub applied_twice : AppliedTwice
applied_twice left es s t h = apply-kept s (apply s t) (λ v inside. false_from_ne_true (replaces s v) (λ is_replaced. both_ways (occurs v (apply s t)) (replaced_is_gone left es s v t h is_replaced) inside))
