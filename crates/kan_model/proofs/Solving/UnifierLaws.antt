-- What the solver answers is a most general unifier.
use Rattle.std.proofs.Common.{◌≡◌, ℕ, Bool, true, false, eqb, List, [], ◌∷◌, map, Option, Some, None, option_map, inl, inr, sym, ap, ap₂, subst, refl, ◌∙◌, if◌then◌else◌}
use Rattle.std.proofs.lemmas.Bool.{eq-eqb, eqb-true}
use Rattle.kan_terms.specs.Tree.{Tree, Tm, fill, occurs}
use Rattle.kan_terms.proofs.TreeLaws.{fill-fill, fill-same, fill-absent}
use Rattle.kan_model.specs.Stores.Store.{Equation}
use Rattle.kan_model.specs.Stores.Solve.{Replacement, Work, image, apply, replace, replace_sides, put_first, Solves, solve_by}
use Rattle.kan_model.specs.Stores.Unifiers.{Unifies, Factors, AnswerUnifies, AnswerMostGeneral, FactorsUnify}
use Rattle.kan_model.proofs.Solving.WorkLaws.{OneIs, work_explained}
use Rattle.kan_model.proofs.Solving.SolveLaws.{solve_by-Solves}

-- what stands for the variables when x is given a tree
abbrev pub given : {V : Type 0} → ℕ → Tree V → (ℕ → Tree V) → ℕ → Tree V
given x u f v = if eqb x v then u else f v

fill_choice : {V : Type 0} (f : ℕ → Tree V) (t : Tm) (v : ℕ) (c : Bool) → fill f (if c then t else Tree.leaf v) ≡ (if c then fill f t else f v)
fill_choice f t v true = refl
fill_choice f t v false = refl

-- a replacement before a filling is a filling
pub fill-replace : {V : Type 0} (f : ℕ → Tree V) (x : ℕ) (t u : Tm) → fill f (replace x t u) ≡ fill (given x (fill f t) f) u
fill-replace f x t u =
    fill-fill f (λ v. if eqb x v then t else Tree.leaf v) u
    ∙ fill-same (λ v. fill f (if eqb x v then t else Tree.leaf v)) (given x (fill f t) f) (λ v. fill_choice f t v (eqb x v)) u

-- the first replacement in front of an answer replaces before the answer does
pub apply-put_first : (x : ℕ) (t : Tm) (s : Replacement) (u : Tm) → apply (put_first x t s) u ≡ apply s (replace x t u)
apply-put_first x t s u = sym (fill-replace (image s) x t u)

-- a variable that isn't in a term needs no tree
pub fill-given_absent : {V : Type 0} (x : ℕ) (u : Tree V) (f : ℕ → Tree V) (t : Tm) → occurs x t ≡ false → fill (given x u f) t ≡ fill f t
fill-given_absent x u f t out = fill-absent x (given x u f) f (λ y e. rw e refl) t out

given_self : {V : Type 0} (x : ℕ) (u : Tree V) (f : ℕ → Tree V) → given x u f x ≡ u
given_self x u f = rw (eq-eqb x x refl) refl

-- giving x what it has changes nothing
given_known : {V : Type 0} (x : ℕ) (u : Tree V) (f : ℕ → Tree V) → f x ≡ u → (v : ℕ) → given x u f v ≡ f v
given_known x u f known v = by (eqb x v) refl
  where
    by : (c : Bool) → eqb x v ≡ c → (if c then u else f v) ≡ f v
    by true e = sym known ∙ ap f (eqb-true x v e)
    by false e = refl

-- an answer is a unifier
abbrev pub OnAnswer : Option Replacement → List Equation → Type 0
OnAnswer None es = Unit {0}
OnAnswer (Some s) es = Unifies (image s) es

after_first : (x : ℕ) (t : Tm) (s : Replacement) (es : List Equation) → Unifies (image s) (map (replace_sides x t) es) → Unifies (image (put_first x t s)) es
after_first x t s [] h = tt
after_first x t s (e ∷ es) (same, h) = (apply-put_first x t s e.left ∙ same ∙ sym (apply-put_first x t s e.right), after_first x t s es h)

first_unified : (x : ℕ) (t : Tm) (s : Replacement) (a b : Tm) → OneIs x t a b → occurs x t ≡ false → apply (put_first x t s) a ≡ apply (put_first x t s) b
first_unified x t s a b one out = by one
  where
    variable : apply (put_first x t s) (Tree.leaf x) ≡ apply s t
    variable = given_self x (apply s t) (image s)

    term : apply (put_first x t s) t ≡ apply s t
    term = fill-given_absent x (apply s t) (image s) t out

    by : OneIs x t a b → apply (put_first x t s) a ≡ apply (put_first x t s) b
    by (inl (l, r)) = rw (l, r) (variable ∙ sym term)
    by (inr (l, r)) = rw (l, r) (term ∙ sym variable)

pub Solves-unifies : (left : ℕ → ℕ → Bool) (es : List Equation) (r : Option Replacement) → Solves left es r → OnAnswer r es
Solves-unifies left es r Solves.no_equation = tt
Solves-unifies left es r (Solves.identical {e = e} {es = rest} h d) = by r (Solves-unifies left rest r d)
  where
    by : (r : Option Replacement) → OnAnswer r rest → OnAnswer r (e ∷ rest)
    by None u = tt
    by (Some s) u = (ap (apply s) (work_explained ⊥ left e Work.identical h), u)
Solves-unifies left es r (Solves.parted {e = e} {first = first} {rest = last} {es = rest} h d) = by r (Solves-unifies left (first ∷ last ∷ rest) r d)
  where
    by : (r : Option Replacement) → OnAnswer r (first ∷ last ∷ rest) → OnAnswer r (e ∷ rest)
    by None u = tt
    by (Some s) (same, (also, u)) =
        let (l, r) = work_explained ⊥ left e (Work.parts first last) h in
        (rw (l, r) (ap₂ Tree.pair same also), u)
Solves-unifies left es r (Solves.replaced {e = e} {x = x} {t = t} {es = rest} {r = q} h d) = by q (Solves-unifies left (map (replace_sides x t) rest) q d)
  where
    by : (q : Option Replacement) → OnAnswer q (map (replace_sides x t) rest) → OnAnswer (option_map (put_first x t) q) (e ∷ rest)
    by None u = tt
    by (Some s) u =
        let (one, out) = work_explained ⊥ left e (Work.substitute x t) h in
        (first_unified x t s e.left e.right one out, after_first x t s rest u)
Solves-unifies left es r (Solves.no_answer h) = tt

pub answer_unifies : AnswerUnifies
answer_unifies left es s h = subst (λ r. OnAnswer r es) h (Solves-unifies left es (solve_by left es) (solve_by-Solves left es))

-- the trees of the two sides of a replacement
one_known : {V : Type 0} (f : ℕ → Tree V) (x : ℕ) (t a b : Tm) → OneIs x t a b → fill f a ≡ fill f b → f x ≡ fill f t
one_known f x t a b (inl (l, r)) same = rw (l, r) at same
one_known f x t a b (inr (l, r)) same = sym (rw (l, r) at same)

unifies_replaced : {V : Type 0} (f : ℕ → Tree V) (x : ℕ) (t : Tm) (es : List Equation) → f x ≡ fill f t → Unifies f es → Unifies f (map (replace_sides x t) es)
unifies_replaced f x t [] known u = tt
unifies_replaced f x t (e ∷ es) known (same, u) = (side e.left ∙ same ∙ sym (side e.right), unifies_replaced f x t es known u)
  where
    side : (a : Tm) → fill f (replace x t a) ≡ fill f a
    side a = fill-replace f x t a ∙ fill-same (given x (fill f t) f) f (given_known x (fill f t) f known) a

-- what factors through an answer gives each term what it gives the term under the answer
pub fill-apply : {V : Type 0} (f : ℕ → Tree V) (s : Replacement) → Factors f s → (t : Tm) → fill f (apply s t) ≡ fill f t
fill-apply f s factors t = fill-fill f (image s) t ∙ fill-same (λ v. fill f (image s v)) f (λ v. sym (factors v)) t

factors_first : {V : Type 0} (f : ℕ → Tree V) (x : ℕ) (t : Tm) (s : Replacement) → f x ≡ fill f t → Factors f s → Factors f (put_first x t s)
factors_first f x t s known factors v = by (eqb x v) refl
  where
    by : (c : Bool) → eqb x v ≡ c → f v ≡ fill f (if c then apply s t else image s v)
    by true e = ap f (sym (eqb-true x v e)) ∙ known ∙ sym (fill-apply f s factors t)
    by false e = factors v

-- every unifier factors through the answer
pub Solves-general : {V : Type 0} (left : ℕ → ℕ → Bool) (es : List Equation) (r : Option Replacement) → Solves left es r →
    (f : ℕ → Tree V) → Unifies f es → (s : Replacement) × (r ≡ Some s) × Factors f s
Solves-general left es r Solves.no_equation f u = ([], refl, λ v. refl)
Solves-general left es r (Solves.identical {es = rest} h d) f (same, u) = Solves-general left rest r d f u
Solves-general {V = V} left es r (Solves.parted {e = e} {first = first} {rest = last} {es = rest} h d) f (same, u) =
    let (l, q) = work_explained V left e (Work.parts first last) h in
    let pairs : Tree.pair (fill f first.left) (fill f last.left) ≡ Tree.pair (fill f first.right) (fill f last.right) = (rw (l, q) at same) in
    Solves-general left (first ∷ last ∷ rest) r d f (cc, (cc, u))
Solves-general {V = V} left es r (Solves.replaced {e = e} {x = x} {t = t} {es = rest} {r = q} h d) f (same, u) =
    let (one, out) = work_explained V left e (Work.substitute x t) h in
    let known = one_known f x t e.left e.right one same in
    let (s, found, factors) = Solves-general left (map (replace_sides x t) rest) q d f (unifies_replaced f x t rest known u) in
    (put_first x t s, ap (option_map (put_first x t)) found, factors_first f x t s known factors)
Solves-general {V = V} left es r (Solves.no_answer {e = e} h) f (same, u) = absurd (work_explained V left e Work.clash h f same)

pub answer_most_general : AnswerMostGeneral
answer_most_general left es f u = Solves-general left es (solve_by left es) (solve_by-Solves left es) f u

-- a unifier with f behind it is a unifier
unifies_behind : {V : Type 0} (f : ℕ → Tree V) (s : Replacement) (es : List Equation) → Factors f s → Unifies (image s) es → Unifies f es
unifies_behind f s [] factors u = tt
unifies_behind f s (e ∷ es) factors (same, u) = (sym (fill-apply f s factors e.left) ∙ ap (fill f) same ∙ fill-apply f s factors e.right, unifies_behind f s es factors u)

pub factors_unify : FactorsUnify
factors_unify left es s f h factors = unifies_behind f s es factors (answer_unifies left es s h)
