-- Equations of the same unifiers have one solved form.
use Rattle.std.proofs.Common.{◌≡◌, ◌⊎◌, ℕ, ◌+◌, ◌-◌, ◌<◌, ◌≤◌, max, Bool, true, false, eqb, nat_lt, List, [], ◌∷◌, Option, Some, None, inl, inr, sym, ap, ap₂, subst, refl, arith, ◌∙◌, if◌then◌else◌}
use Rattle.std.proofs.lemmas.Bool.{eqb-true, ltb-true, ltb-false, both_ways, false_from_ne_true}
use Rattle.kan_terms.specs.Tree.{Tree, Tm, Gd, fill, occurs}
use Rattle.kan_terms.proofs.TreeLaws.{fill-fill, fill-leaf, fill-same_occurs}
use Rattle.kan_model.specs.Stores.Store.{Equation}
use Rattle.kan_model.specs.Stores.Solve.{Replacement, image, Solves, solve_by}
use Rattle.kan_model.specs.Stores.Unifiers.{Unifies, Factors, replaces}
use Rattle.kan_model.specs.Answers.Answer.{rank}
use Rattle.kan_model.proofs.Solving.SolveLaws.{solve_by-Solves}
use Rattle.kan_model.proofs.Solving.UnifierLaws.{Solves-general, answer_unifies}
use Rattle.kan_model.proofs.Solving.ReplacedLaws.{Gone, answer_clean, image-kept}
use Rattle.kan_model.proofs.Answering.SolvedForms.{Rising, Solves-rises, rank-one}
use Rattle.store_laws.specs.SolvedForms.{lower_first, RanksApart, SameUnifiers, SameImages, OneSolvedForm, OneNamedForm, SendsHigher, AnswerSendsHigher}

-- a number above the symbols of a term, and the symbols of a term lie below a number
abbrev symbols_above : Tm → ℕ
symbols_above (Tree.leaf v) = 0
symbols_above (Tree.sym s) = 1 + s
symbols_above (Tree.str s) = 0
symbols_above (Tree.num n) = 0
symbols_above (Tree.truth b) = 0
symbols_above Tree.nil = 0
symbols_above (Tree.pair a b) = max (symbols_above a) (symbols_above b)

-- a symbol of its own for each variable, from a number on; and the variables read back from their symbols
abbrev own_symbol : ℕ → ℕ → Gd
own_symbol n v = Tree.sym (n + v)

abbrev read_back : ℕ → Gd → Tm
read_back n (Tree.leaf none) = absurd none
read_back n (Tree.sym s) = if nat_lt s n then Tree.sym s else Tree.leaf (s - n)
read_back n (Tree.str s) = Tree.str s
read_back n (Tree.num m) = Tree.num m
read_back n (Tree.truth b) = Tree.truth b
read_back n Tree.nil = Tree.nil
read_back n (Tree.pair a b) = Tree.pair (read_back n a) (read_back n b)

read_own : (n : ℕ) (t : Tm) → symbols_above t ≤ n → read_back n (fill (own_symbol n) t) ≡ t
read_own n (Tree.leaf v) low = by (nat_lt (n + v) n) refl
  where
    by : (c : Bool) → nat_lt (n + v) n ≡ c → (if c then Tree.sym (n + v) else Tree.leaf ((n + v) - n)) ≡ Tree.leaf v
    by true h = absurd (omega (arith, ltb-true (n + v) n h))
    by false h = ap Tree.leaf (omega arith)
read_own n (Tree.sym s) low = by (nat_lt s n) refl
  where
    by : (c : Bool) → nat_lt s n ≡ c → (if c then Tree.sym s else Tree.leaf (s - n)) ≡ Tree.sym s
    by true h = refl
    by false h = absurd (omega (arith, ltb-false s n h))
read_own n (Tree.str s) low = refl
read_own n (Tree.num m) low = refl
read_own n (Tree.truth b) low = refl
read_own n Tree.nil low = refl
read_own n (Tree.pair a b) low = ap₂ Tree.pair (read_own n a (omega arith)) (read_own n b (omega arith))

-- terms that are the same with symbols for their variables are the same
separated : (n : ℕ) (a b : Tm) → symbols_above a ≤ n → symbols_above b ≤ n → fill (own_symbol n) a ≡ fill (own_symbol n) b → a ≡ b
separated n a b low also same = sym (read_own n a low) ∙ ap (read_back n) same ∙ read_own n b also

-- a valuation that separates the variables behind terms for variables
abbrev pub own_under : ℕ → (ℕ → Tm) → ℕ → Gd
own_under n g v = fill (own_symbol n) (g v)

own_under-fill : (n : ℕ) (g : ℕ → Tm) (t : Tm) → fill (own_under n g) t ≡ fill (own_symbol n) (fill g t)
own_under-fill n g t = sym (fill-fill (own_symbol n) g t)

pub own_unifies : (n : ℕ) (g : ℕ → Tm) (es : List Equation) → Unifies g es → Unifies (own_under n g) es
own_unifies n g [] u = tt
own_unifies n g (e ∷ es) (same, u) = (own_under-fill n g e.left ∙ ap (fill (own_symbol n)) same ∙ sym (own_under-fill n g e.right), own_unifies n g es u)

abbrev symbols_above_all : (ℕ → Tm) → List Equation → ℕ
symbols_above_all g [] = 0
symbols_above_all g (e ∷ es) = max (max (symbols_above (fill g e.left)) (symbols_above (fill g e.right))) (symbols_above_all g es)

unifies_own : (n : ℕ) (g : ℕ → Tm) (es : List Equation) → symbols_above_all g es ≤ n → Unifies (own_under n g) es → Unifies g es
unifies_own n g [] low u = tt
unifies_own n g (e ∷ es) low (same, u) =
    (separated n (fill g e.left) (fill g e.right) (omega arith) (omega arith) (sym (own_under-fill n g e.left) ∙ same ∙ own_under-fill n g e.right), unifies_own n g es (omega arith) u)

-- what makes equations hold makes those hold that follow from them by ground terms
pub unifies_other : (g : ℕ → Tm) (es fs : List Equation) → ((f : ℕ → Gd) → Unifies f es → Unifies f fs) → Unifies g es → Unifies g fs
unifies_other g es fs follow u =
    let n = symbols_above_all g fs in
    unifies_own n g fs (omega arith) (follow (own_under n g) (own_unifies n g es u))

-- a variable under a rising replacement is as high, or higher
image_rises : (r : ℕ → ℕ) (s : Replacement) → Rising r s → (y z : ℕ) → image s y ≡ Tree.leaf z → (y ≡ z) ⊎ (r y < r z)
image_rises r [] rising y z e = inl cc
image_rises r (p ∷ s) (first, rest) y z e = by (eqb p.var y) refl (image_rises r s rest y z) e
  where
    by : (c : Bool) → eqb p.var y ≡ c → (image s y ≡ Tree.leaf z → (y ≡ z) ⊎ (r y < r z)) → (if c then p.by else image s y) ≡ Tree.leaf z → (y ≡ z) ⊎ (r y < r z)
    by true same ih h = inr (subst (λ w. r w < r z) (eqb-true p.var y same) (first z h))
    by false other ih h = ih h

-- the answer in an order by ranks rises
pub answer_rises : (r : ℕ → ℕ) (es : List Equation) (s : Replacement) → RanksApart r → solve_by (lower_first r) es ≡ Some s → Rising r s
answer_rises r es s one h = by (solve_by (lower_first r) es) (solve_by-Solves (lower_first r) es) h
  where
    by : (q : Option Replacement) → Solves (lower_first r) es q → q ≡ Some s → Rising r s
    by None d h = cc
    by (Some s') d h = let same : s' ≡ s = cc in subst (Rising r) same (Solves-rises r one es (Some s') d)

pub answer_sends_higher : AnswerSendsHigher
answer_sends_higher r es s one h = image_rises r s (answer_rises r es s one h)

-- what becomes a variable was one
pub was_variable : (f : ℕ → Tm) (x : ℕ) (t : Tm) → fill f t ≡ Tree.leaf x → (y : ℕ) × (t ≡ Tree.leaf y) × (f y ≡ Tree.leaf x)
was_variable f x (Tree.leaf y) h = (y, refl, h)
was_variable f x (Tree.sym s) h = cc
was_variable f x (Tree.str s) h = cc
was_variable f x (Tree.num m) h = cc
was_variable f x (Tree.truth b) h = cc
was_variable f x Tree.nil h = cc
was_variable f x (Tree.pair a b) h = cc

-- two replacements that factor through one another, where both send variables higher
module _ (r : ℕ → ℕ) (s q : Replacement) (rises : SendsHigher r s) (rises_too : SendsHigher r q) (through : Factors (image s) q) (back : Factors (image q) s) where
  -- what the one keeps the other one keeps
  kept_too : (x : ℕ) → image s x ≡ Tree.leaf x → image q x ≡ Tree.leaf x
  kept_too x kept = by (was_variable (image s) x (image q x) (sym (through x) ∙ kept))
    where
      by : (y : ℕ) × (image q x ≡ Tree.leaf y) × (image s y ≡ Tree.leaf x) → image q x ≡ Tree.leaf x
      by (y, there, again) = elim (rises y x again) [
        | inl same ↦ there ∙ ap Tree.leaf same
        | inr higher ↦ elim (rises_too x y there) [
          | inl same ↦ there ∙ ap Tree.leaf (sym same)
          | inr lower ↦ absurd (omega arith)
        ]
      ]

  pub same_images : Gone s → (v : ℕ) → image s v ≡ image q v
  same_images gone v =
      sym (back v ∙ fill-same_occurs (image q) Tree.leaf (image s v) (λ y inside. kept_too y (image-kept s y (not_replaced y inside))) ∙ fill-leaf (image s v))
    where
      not_replaced : (y : ℕ) → occurs y (image s v) ≡ true → replaces s y ≡ false
      not_replaced y inside = false_from_ne_true (replaces s y) (λ is_replaced. both_ways (occurs y (image s v)) (gone y is_replaced v) inside)

-- a unifier of equations with an answer factors through it
pub through_answer : {V : Type 0} (left : ℕ → ℕ → Bool) (es : List Equation) (s : Replacement) (f : ℕ → Tree V) → solve_by left es ≡ Some s → Unifies f es → Factors f s
through_answer left es s f h u =
    let (q, found, factors) = Solves-general left es (solve_by left es) (solve_by-Solves left es) f u in
    let same : q ≡ s = cc in
    subst (Factors f) same factors

-- two answers make the same of each variable
answers_alike : (r : ℕ → ℕ) (es fs : List Equation) (s q : Replacement) → RanksApart r → SameUnifiers es fs →
    solve_by (lower_first r) es ≡ Some s → solve_by (lower_first r) fs ≡ Some q → (v : ℕ) → image s v ≡ image q v
answers_alike r es fs s q one same found found_too =
    same_images r s q (answer_sends_higher r es s one found) (answer_sends_higher r fs q one found_too)
    (through_answer (lower_first r) fs q (image s) found_too (unifies_other (image s) es fs (λ f. (same f).0) (answer_unifies (lower_first r) es s found)))
    (through_answer (lower_first r) es s (image q) found (unifies_other (image q) fs es (λ f. (same f).1) (answer_unifies (lower_first r) fs q found_too)))
    (answer_clean (lower_first r) es s found).2

-- equations with an answer have a unifier by ground terms, and so have the others, which have an answer then
pub also_answered : (left : ℕ → ℕ → Bool) (es fs : List Equation) (g : ℕ → Tm) → ((f : ℕ → Gd) → Unifies f es → Unifies f fs) → Unifies g es → solve_by left fs ≡ None → ⊥
also_answered left es fs g follow u none =
    let (q, found_too, factors) = Solves-general left fs (solve_by left fs) (solve_by-Solves left fs) (own_under 0 g) (follow (own_under 0 g) (own_unifies 0 g es u)) in
    cc

pub one_solved_form : OneSolvedForm
one_solved_form r es fs one same = by (solve_by (lower_first r) es) refl (solve_by (lower_first r) fs) refl
  where
    by : (p : Option Replacement) → solve_by (lower_first r) es ≡ p → (q : Option Replacement) → solve_by (lower_first r) fs ≡ q → SameImages p q
    by None h None k = tt
    by None h (Some q) k = absurd (also_answered (lower_first r) fs es (image q) (λ f. (same f).1) (answer_unifies (lower_first r) fs q k) h)
    by (Some s) h None k = absurd (also_answered (lower_first r) es fs (image s) (λ f. (same f).0) (answer_unifies (lower_first r) es s h) k)
    by (Some s) h (Some q) k = answers_alike r es fs s q one same h k

pub one_named_form : OneNamedForm
one_named_form vs es fs same = one_solved_form (rank vs) es fs (rank-one vs) same
