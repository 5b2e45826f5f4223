-- Solved forms: each replaced variable comes once, stands in no term, and is lower than a variable that replaces it.
use Rattle.std.proofs.Common.{◌≡◌, ◌≢◌, ℕ, ◌+◌, ◌<◌, ◌≤◌, Bool, true, false, eqb, nat_lt, List, [], ◌∷◌, map, length, Option, Some, None, option_map, sym, ap, subst, refl, arith, ◌∙◌, if◌then◌else◌}
use Rattle.std.proofs.lemmas.Bool.{eq-eqb, eqb-true, eqb-false, ne_eqb, ltb-true, ltb-false, or_left, or_right, both_ways, false_from_ne_true, true≢false}
use Rattle.kan_terms.specs.Tree.{Tree, Tm, occurs, term_eq}
use Rattle.kan_terms.proofs.TreeLaws.{eq-term_eq}
use Rattle.kan_model.specs.Stores.Store.{Equation}
use Rattle.kan_model.specs.Answers.Order.{place_of, stands_in}
use Rattle.kan_model.specs.Stores.Solve.{Replacement, Work, work, work_apart, unless_inside, image, apply, replace_sides, put_first, Solves}
use Rattle.kan_model.specs.Stores.Unifiers.{replaces}
use Rattle.kan_model.specs.Answers.Answer.{rank}
use Rattle.kan_model.proofs.Solving.WorkLaws.{work_explained}
use Rattle.kan_model.proofs.Solving.VariableCount.{stands, replaced_gone}
use Rattle.kan_model.proofs.Solving.ReplacedLaws.{Clean, Gone, Solves-clean}
use Rattle.kan_model.proofs.ListLaws.{EachTwo, Each-like, Each-both, Each-from_list_any_none}
use Rattle.kan_model.specs.Each.{Each}
use Rattle.kan_model.proofs.Answering.NameLaws.{place_below, place_of-one}

-- two variables of one rank are the same
pub rank-one : (vs : List ℕ) (x y : ℕ) → rank vs x ≡ rank vs y → x ≡ y
rank-one vs x y e = by (stands_in vs x) refl (stands_in vs y) refl e
  where
    by : (c : Bool) → stands_in vs x ≡ c → (d : Bool) → stands_in vs y ≡ d →
        (if c then place_of vs x else length vs + x) ≡ (if d then place_of vs y else length vs + y) → x ≡ y
    by true p true q e = place_of-one vs x y p e
    by true p false q e = absurd (omega (arith, place_below vs x p))
    by false p true q e = absurd (omega (arith, place_below vs y q))
    by false p false q e = omega arith

-- a variable is replaced by a higher one, or by no variable
abbrev pub Rises : (ℕ → ℕ) → ℕ → Tm → Type 0
Rises r x t = (z : ℕ) → t ≡ Tree.leaf z → r x < r z

abbrev pub Rising : (ℕ → ℕ) → Replacement → Type 0
Rising r = Each (λ p. Rises r p.var p.by)

-- the work on an equation, where the lower one of two variables is replaced
module _ (r : ℕ → ℕ) (one : (x y : ℕ) → r x ≡ r y → x ≡ y) where
  abbrev Lower : ℕ → ℕ → Bool
  Lower x y = nat_lt (r x) (r y)

  abbrev WorkRises : Work → Type 0
  WorkRises Work.identical = Unit {0}
  WorkRises (Work.parts first rest) = Unit {0}
  WorkRises (Work.substitute x t) = Rises r x t
  WorkRises Work.clash = Unit {0}

  inside_rises : (x : ℕ) (t : Tm) → ((z : ℕ) → t ≡ Tree.leaf z → ⊥) → WorkRises (unless_inside x t)
  inside_rises x t none = by (occurs x t)
    where
      by : (c : Bool) → WorkRises (if c then Work.clash else Work.substitute x t)
      by true = tt
      by false = λ z e. absurd (none z e)

  variables_rise : (x y : ℕ) → Tree.leaf x ≢ Tree.leaf y → (c : Bool) → nat_lt (r x) (r y) ≡ c → WorkRises (if c then Work.substitute x (Tree.leaf y) else Work.substitute y (Tree.leaf x))
  variables_rise x y apart true e = λ z h. let same : y ≡ z = cc in subst (λ w. r x < r w) same (ltb-true (r x) (r y) e)
  variables_rise x y apart false e = λ z h.
      let same : x ≡ z = cc in
      let other : r x ≡ r y → ⊥ = (λ q. apart (ap Tree.leaf (one x y q))) in
      let least : r y ≤ r x = ltb-false (r x) (r y) e in
      subst (λ w. r y < r w) same (below (r x) (r y) least other)
    where
      below : (a b : ℕ) → b ≤ a → (a ≡ b → ⊥) → b < a
      below a b l n = omega arith

  apart_rises : (a b : Tm) → a ≢ b → WorkRises (work_apart Lower a b)
  apart_rises (Tree.leaf x) (Tree.leaf y) apart = variables_rise x y apart (nat_lt (r x) (r y)) refl
  apart_rises (Tree.leaf x) t apart = inside_rises x t (λ z e. cc)
  apart_rises t (Tree.leaf x) apart = inside_rises x t (λ z e. cc)
  apart_rises (Tree.pair a b) (Tree.pair c d) apart = tt
  apart_rises a b apart = tt

  work_rises : (e : Equation) → WorkRises (work Lower e)
  work_rises e = by (term_eq e.left e.right) refl
    where
      by : (c : Bool) → term_eq e.left e.right ≡ c → WorkRises (if c then Work.identical else work_apart Lower e.left e.right)
      by true h = tt
      by false h = apart_rises e.left e.right (λ same. true≢false (sym (eq-term_eq e.left e.right same) ∙ h))

  -- a variable under a rising replacement is as high, or higher
  image_rises : (s : Replacement) → Rising r s → (y z : ℕ) → image s y ≡ Tree.leaf z → r y ≤ r z
  image_rises [] rising y z e = let same : y ≡ z = cc in subst (λ w. r y ≤ r w) same (omega arith)
  image_rises (p ∷ s) (first, rest) y z e = by (eqb p.var y) refl (image_rises s rest y z) e
    where
      by : (c : Bool) → eqb p.var y ≡ c → (image s y ≡ Tree.leaf z → r y ≤ r z) → (if c then p.by else image s y) ≡ Tree.leaf z → r y ≤ r z
      by true same ih h = subst (λ w. r w ≤ r z) (eqb-true p.var y same) (lower (r p.var) (r z) (first z h))
        where
          lower : (a b : ℕ) → a < b → a ≤ b
          lower a b l = omega arith
      by false other ih h = ih h

  applied_rises : (x : ℕ) (t : Tm) (s : Replacement) → Rises r x t → Rising r s → Rises r x (apply s t)
  applied_rises x (Tree.leaf y) s rises rising z e = trans (r x) (r y) (r z) (rises y refl) (image_rises s rising y z e)
    where
      trans : (a b c : ℕ) → a < b → b ≤ c → a < c
      trans a b c l m = omega arith
  applied_rises x t s rises rising z e = cc

  abbrev OnForm : Option Replacement → Type 0
  OnForm None = Unit {0}
  OnForm (Some s) = Rising r s

  pub Solves-rises : (es : List Equation) (q : Option Replacement) → Solves Lower es q → OnForm q
  Solves-rises es q Solves.no_equation = tt
  Solves-rises es q (Solves.identical {es = rest} h d) = Solves-rises rest q d
  Solves-rises es q (Solves.parted {first = first} {rest = last} {es = rest} h d) = Solves-rises (first ∷ last ∷ rest) q d
  Solves-rises es q (Solves.replaced {e = e} {x = x} {t = t} {es = rest} {r = a} h d) = by a (Solves-rises (map (replace_sides x t) rest) a d)
    where
      by : (a : Option Replacement) → OnForm a → OnForm (option_map (put_first x t) a)
      by None k = tt
      by (Some s) k = (applied_rises x t s (subst WorkRises h (work_rises e)) k, k)
  Solves-rises es q (Solves.no_answer h) = tt

-- each replaced variable comes once
abbrev pub Once : Replacement → Type 0
Once = EachTwo (λ p q. eqb p.var q.var ≡ false)

abbrev OnceIn : Option Replacement → Type 0
OnceIn None = Unit {0}
OnceIn (Some s) = Once s

pub Solves-once : (left : ℕ → ℕ → Bool) (es : List Equation) (q : Option Replacement) → Solves left es q → OnceIn q
Solves-once left es q Solves.no_equation = tt
Solves-once left es q (Solves.identical {es = rest} h d) = Solves-once left rest q d
Solves-once left es q (Solves.parted {first = first} {rest = last} {es = rest} h d) = Solves-once left (first ∷ last ∷ rest) q d
Solves-once left es q (Solves.replaced {e = e} {x = x} {t = t} {es = rest} {r = a} h d) =
    by a (Solves-once left (map (replace_sides x t) rest) a d) (Solves-clean left (map (replace_sides x t) rest) a d)
  where
    turned : (s : Replacement) → Each (λ p. eqb p.var x ≡ false) s → Each (λ p. eqb x p.var ≡ false) s
    turned s k = Each-like (λ p. eqb p.var x ≡ false) (λ p. eqb x p.var ≡ false) (λ p e. ne_eqb x p.var (λ same. eqb-false p.var x e (sym same))) s k

    by : (a : Option Replacement) → OnceIn a → Clean (map (replace_sides x t) rest) a → OnceIn (option_map (put_first x t) a)
    by None k c = tt
    by (Some s) k (from, theirs, gone) =
        let (one, out) = work_explained ⊥ left e (Work.substitute x t) h in
        let not_again : replaces s x ≡ false = false_from_ne_true (replaces s x) (λ again. both_ways (stands x (map (replace_sides x t) rest)) (replaced_gone x t rest out) (theirs x again)) in
        (turned s (Each-from_list_any_none (λ p. eqb p.var x) s not_again), k)
Solves-once left es q (Solves.no_answer h) = tt

-- where each comes once, what stands for a replaced variable is what replaces it
image_entries : (s : Replacement) → Once s → Each (λ p. image s p.var ≡ p.by) s
image_entries [] once = tt
image_entries (p ∷ s) (first, rest) = (
  rw (eq-eqb p.var p.var refl) refl,
  Each-like (λ q. (eqb p.var q.var ≡ false) × (image s q.var ≡ q.by)) (λ q. image (p ∷ s) q.var ≡ q.by) (λ q (other, h). rw other h) s
      (Each-both (λ q. eqb p.var q.var ≡ false) (λ q. image s q.var ≡ q.by) s first (image_entries s rest)),
)

replaces_entries : (s : Replacement) → Each (λ p. replaces s p.var ≡ true) s
replaces_entries [] = tt
replaces_entries (p ∷ s) = (
  or_left (eqb p.var p.var) (replaces s p.var) (eq-eqb p.var p.var refl),
  Each-like (λ q. replaces s q.var ≡ true) (λ q. replaces (p ∷ s) q.var ≡ true) (λ q. or_right (eqb p.var q.var) (replaces s q.var)) s (replaces_entries s),
)

-- each replaced variable stands in no term of the form
pub entries_gone : (s : Replacement) → Once s → Gone s → Each (λ p. Each (λ q. occurs p.var q.by ≡ false) s) s
entries_gone s once gone =
    Each-like (λ p. replaces s p.var ≡ true) (λ p. Each (λ q. occurs p.var q.by ≡ false) s)
    (λ p is_replaced. Each-like (λ q. image s q.var ≡ q.by) (λ q. occurs p.var q.by ≡ false) (λ q e. subst (λ t. occurs p.var t ≡ false) e (gone p.var is_replaced q.var)) s (image_entries s once))
    s (replaces_entries s)
