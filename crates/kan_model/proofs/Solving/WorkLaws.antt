-- What the work on an equation says of its sides.
use Rattle.std.proofs.Common.{◌≡◌, ◌≢◌, ◌⊎◌, ℕ, ◌<◌, Bool, true, false, inl, inr, sym, ap, subst, refl, arith, ◌∙◌, if◌then◌else◌}
use Rattle.std.proofs.lemmas.Bool.{ne_eqb, or_cases, eqb-true, true≢false}
use Rattle.kan_terms.specs.Tree.{Tree, Tm, fill, occurs, term_eq, size}
use Rattle.kan_terms.proofs.TreeLaws.{term_eq-true, eq-term_eq, size-fill}
use Rattle.kan_model.specs.Stores.Store.{Equation}
use Rattle.kan_model.specs.Stores.Solve.{Work, work, work_apart, unless_inside}

-- one of two sides is a variable, and the other one the term
abbrev pub OneIs : ℕ → Tm → Tm → Tm → Type 0
OneIs x t a b = ((a ≡ Tree.leaf x) × (b ≡ t)) ⊎ ((a ≡ t) × (b ≡ Tree.leaf x))

-- identical sides are identical, parts are those of pairs, a variable doesn't stand in its term, and a clash has no unifier
abbrev pub Explains : Type 0 → Tm → Tm → Work → Type 0
Explains V a b Work.identical = a ≡ b
Explains V a b (Work.parts first rest) = (a ≡ Tree.pair first.left rest.left) × (b ≡ Tree.pair first.right rest.right)
Explains V a b (Work.substitute x t) = OneIs x t a b × (occurs x t ≡ false)
Explains V a b Work.clash = (f : ℕ → Tree V) → fill f a ≡ fill f b → ⊥

-- a variable inside a term has a value that is smaller than that of the term
pub size-fill_inside : {V : Type 0} (x : ℕ) (f : ℕ → Tree V) (t : Tm) → t ≢ Tree.leaf x → occurs x t ≡ true → size (f x) < size (fill f t)
size-fill_inside x f (Tree.leaf v) apart inside = absurd (apart (ap Tree.leaf (sym (eqb-true x v inside))))
size-fill_inside x f (Tree.sym s) apart inside = absurd (true≢false (sym inside))
size-fill_inside x f (Tree.str s) apart inside = absurd (true≢false (sym inside))
size-fill_inside x f (Tree.num n) apart inside = absurd (true≢false (sym inside))
size-fill_inside x f (Tree.truth b) apart inside = absurd (true≢false (sym inside))
size-fill_inside x f Tree.nil apart inside = absurd (true≢false (sym inside))
size-fill_inside x f (Tree.pair a b) apart inside =
    elim (or_cases (occurs x a) (occurs x b) inside) [
      | inl in_a ↦ omega (arith, size-fill x f a in_a)
      | inr in_b ↦ omega (arith, size-fill x f b in_b)
    ]

-- the work on a variable and another term
inside_left : (V : Type 0) (x : ℕ) (t : Tm) → Tree.leaf x ≢ t → Explains V (Tree.leaf x) t (unless_inside x t)
inside_left V x t apart = by (occurs x t) refl
  where
    by : (c : Bool) → occurs x t ≡ c → Explains V (Tree.leaf x) t (if c then Work.clash else Work.substitute x t)
    by true e = λ f h. omega (arith, size-fill_inside x f t (λ same. apart (sym same)) e, ap size h)
    by false e = (inl (refl, refl), e)

inside_right : (V : Type 0) (x : ℕ) (t : Tm) → t ≢ Tree.leaf x → Explains V t (Tree.leaf x) (unless_inside x t)
inside_right V x t apart = by (occurs x t) refl
  where
    by : (c : Bool) → occurs x t ≡ c → Explains V t (Tree.leaf x) (if c then Work.clash else Work.substitute x t)
    by true e = λ f h. omega (arith, size-fill_inside x f t apart e, ap size h)
    by false e = (inr (refl, refl), e)

-- the work on two different variables
two_variables : (V : Type 0) (x y : ℕ) → Tree.leaf x ≢ Tree.leaf y → (c : Bool) →
    Explains V (Tree.leaf x) (Tree.leaf y) (if c then Work.substitute x (Tree.leaf y) else Work.substitute y (Tree.leaf x))
two_variables V x y apart true = (inl (refl, refl), ne_eqb x y (λ e. apart (ap Tree.leaf e)))
two_variables V x y apart false = (inr (refl, refl), ne_eqb y x (λ e. apart (ap Tree.leaf (sym e))))

-- the work on two different sides
apart_explains : (V : Type 0) (left : ℕ → ℕ → Bool) (a b : Tm) → a ≢ b → Explains V a b (work_apart left a b)
apart_explains V left (Tree.leaf x) (Tree.leaf y) apart = two_variables V x y apart (left x y)
apart_explains V left (Tree.leaf x) t apart = inside_left V x t apart
apart_explains V left t (Tree.leaf x) apart = inside_right V x t apart
apart_explains V left (Tree.pair a b) (Tree.pair c d) apart = (refl, refl)
apart_explains V left (Tree.sym s) (Tree.sym r) apart = λ f e. grind arith
apart_explains V left (Tree.str s) (Tree.str r) apart = λ f e. grind arith
apart_explains V left (Tree.num m) (Tree.num n) apart = λ f e. grind arith
apart_explains V left (Tree.truth a) (Tree.truth b) apart = λ f e. grind arith
apart_explains V left Tree.nil Tree.nil apart = λ f e. absurd (apart refl)
apart_explains V left a b apart = λ f e. cc

-- the work on an equation explains its sides
pub work_explains : (V : Type 0) (left : ℕ → ℕ → Bool) (e : Equation) → Explains V e.left e.right (work left e)
work_explains V left e = by (term_eq e.left e.right) refl
  where
    by : (c : Bool) → term_eq e.left e.right ≡ c → Explains V e.left e.right (if c then Work.identical else work_apart left e.left e.right)
    by true h = term_eq-true e.left e.right h
    by false h = apart_explains V left e.left e.right (λ same. true≢false (sym (eq-term_eq e.left e.right same) ∙ h))

pub work_explained : (V : Type 0) (left : ℕ → ℕ → Bool) (e : Equation) (w : Work) → work left e ≡ w → Explains V e.left e.right w
work_explained V left e w h = subst (Explains V e.left e.right) h (work_explains V left e)
