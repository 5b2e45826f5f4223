-- How much there is to do to unify equations, which falls at each step.
use Rattle.std.proofs.Common.{◌≡◌, ◌≢◌, ℕ, suc, ◌+◌, ◌<◌, Bool, true, false, List, [], ◌∷◌, map, Option, inl, inr, sym, ap, ap₂, subst, refl, ◌∙◌, arith, if◌then◌else◌}
use Rattle.kan_terms.specs.Tree.{Tree, Tm, occurs, term_eq, size}
use Rattle.kan_terms.proofs.TreeLaws.{term_eq-true, eq-term_eq, size-positive}
use Rattle.kan_model.specs.Stores.Store.{Equation}
use Rattle.kan_model.specs.Stores.Solve.{Replacement, Work, Solves, work, work_apart, replace_sides, left_first}
use Rattle.kan_model.proofs.Solving.SolveLaws.{solve_by-Solves}
use Rattle.kan_model.proofs.Solving.WorkLaws.{OneIs}
use Rattle.unify_core.specs.Walking.{Pairs, walk, full}
use Rattle.unify_core.specs.Solutions.{equation}
use Rattle.unify_core.specs.Unifying.{Meeting, asked_by}
use Rattle.unify_core.proofs.GrowthLaws.{Grown, full-newest, ends-unbound}
use Rattle.unify_core.proofs.WalkLaws.{full-walk}
use Rattle.unify_core.proofs.Relation.MeetingLaws.{met_says}
use Rattle.unify_core.proofs.Relation.UnifyingLaws.{full-apart, one_ends}

-- how many steps an answer took, where identical sides count for their nodes
abbrev load : {left : ℕ → ℕ → Bool} {es : List Equation} {r : Option Replacement} → Solves left es r → ℕ
load Solves.no_equation = 0
load (Solves.identical {e = e} h d) = size e.left + size e.right + load d
load (Solves.parted h d) = suc (load d)
load (Solves.replaced h d) = suc (load d)
load (Solves.no_answer h) = 1

-- what the load comes from, by the work on the first equation
abbrev LoadFrom : (ℕ → ℕ → Bool) → Equation → List Equation → ℕ → Work → Type 0
LoadFrom left e es n Work.identical = (r : Option Replacement) × (d : Solves left es r) × (n ≡ size e.left + size e.right + load d)
LoadFrom left e es n (Work.parts first rest) = (r : Option Replacement) × (d : Solves left (first ∷ rest ∷ es) r) × (n ≡ suc (load d))
LoadFrom left e es n (Work.substitute x t) = (r : Option Replacement) × (d : Solves left (map (replace_sides x t) es) r) × (n ≡ suc (load d))
LoadFrom left e es n Work.clash = n ≡ 1

load_from : (left : ℕ → ℕ → Bool) (e : Equation) (es : List Equation) (r : Option Replacement) (d : Solves left (e ∷ es) r) → LoadFrom left e es (load d) (work left e)
load_from left e es r (Solves.identical {r = q} h d) = rw h (q, d, refl)
load_from left e es r (Solves.parted {r = q} h d) = rw h (q, d, refl)
load_from left e es r (Solves.replaced {r = q} h d) = rw h (q, d, refl)
load_from left e es r (Solves.no_answer h) = rw h refl

no_load : (left : ℕ → ℕ → Bool) (r : Option Replacement) (d : Solves left [] r) → 0 ≡ load d
no_load left r Solves.no_equation = refl

-- all answers of equations have the same load
load_one : (left : ℕ → ℕ → Bool) (es : List Equation) (r q : Option Replacement) (d : Solves left es r) (other : Solves left es q) → load d ≡ load other
load_one left es r q Solves.no_equation other = no_load left q other
load_one left es r q (Solves.identical {e = e} {es = rest} h d) other =
    let (q', d', same) = subst (LoadFrom left e rest (load other)) h (load_from left e rest q other) in
    ap (λ n. size e.left + size e.right + n) (load_one left rest r q' d d') ∙ sym same
load_one left es r q (Solves.parted {e = e} {first = first} {rest = last} {es = rest} h d) other =
    let (q', d', same) = subst (LoadFrom left e rest (load other)) h (load_from left e rest q other) in
    ap suc (load_one left (first ∷ last ∷ rest) r q' d d') ∙ sym same
load_one left es r q (Solves.replaced {e = e} {x = x} {t = t} {es = rest} {r = r'} h d) other =
    let (q', d', same) = subst (LoadFrom left e rest (load other)) h (load_from left e rest q other) in
    ap suc (load_one left (map (replace_sides x t) rest) r' q' d d') ∙ sym same
load_one left es r q (Solves.no_answer {e = e} {es = rest} h) other = sym (subst (LoadFrom left e rest (load other)) h (load_from left e rest q other))

-- how much there is to do with equations
pub loads : List Equation → ℕ
loads es = load (solve_by-Solves left_first es)

loads_identical : (e : Equation) (es : List Equation) → work left_first e ≡ Work.identical → loads (e ∷ es) ≡ size e.left + size e.right + loads es
unfolding loads
loads_identical e es h = load_one left_first (e ∷ es) _ _ (solve_by-Solves left_first (e ∷ es)) (Solves.identical h (solve_by-Solves left_first es))

loads_parts : (e first rest : Equation) (es : List Equation) → work left_first e ≡ Work.parts first rest → loads (e ∷ es) ≡ suc (loads (first ∷ rest ∷ es))
unfolding loads
loads_parts e first rest es h = load_one left_first (e ∷ es) _ _ (solve_by-Solves left_first (e ∷ es)) (Solves.parted h (solve_by-Solves left_first (first ∷ rest ∷ es)))

loads_substitute : (e : Equation) (x : ℕ) (t : Tm) (es : List Equation) → work left_first e ≡ Work.substitute x t → loads (e ∷ es) ≡ suc (loads (map (replace_sides x t) es))
unfolding loads
loads_substitute e x t es h = load_one left_first (e ∷ es) _ _ (solve_by-Solves left_first (e ∷ es)) (Solves.replaced h (solve_by-Solves left_first (map (replace_sides x t) es)))

-- the work on the same terms, on different pairs, and on a variable and another term
work_same : (a b : Tm) → a ≡ b → work left_first (equation a b) ≡ Work.identical
work_same a b same = ap (λ c. if c then Work.identical else work_apart left_first a b) (eq-term_eq a b same)

work_pairs : (a b c d : Tm) → term_eq (Tree.pair a b) (Tree.pair c d) ≡ false → work left_first (equation (Tree.pair a b) (Tree.pair c d)) ≡ Work.parts (equation a c) (equation b d)
work_pairs a b c d other = ap (λ c'. if c' then Work.identical else Work.parts (equation a c) (equation b d)) other

unless : (x : ℕ) (t : Tm) → occurs x t ≡ false → (if occurs x t then Work.clash else Work.substitute x t) ≡ Work.substitute x t
unless x t out = ap (λ c. if c then Work.clash else Work.substitute x t) out

work_left : (x : ℕ) (t : Tm) → t ≢ Tree.leaf x → occurs x t ≡ false → work left_first (equation (Tree.leaf x) t) ≡ Work.substitute x t
work_left x (Tree.leaf y) other out = ap (λ c. if c then Work.identical else Work.substitute x (Tree.leaf y)) out
work_left x (Tree.sym s) other out = refl
work_left x (Tree.str s) other out = refl
work_left x (Tree.num n) other out = refl
work_left x (Tree.truth b) other out = refl
work_left x Tree.nil other out = refl
work_left x (Tree.pair a b) other out = unless x (Tree.pair a b) out

work_right : (x : ℕ) (t : Tm) → ((y : ℕ) → t ≢ Tree.leaf y) → occurs x t ≡ false → work left_first (equation t (Tree.leaf x)) ≡ Work.substitute x t
work_right x (Tree.leaf y) other out = absurd (other y refl)
work_right x (Tree.sym s) other out = refl
work_right x (Tree.str s) other out = refl
work_right x (Tree.num n) other out = refl
work_right x (Tree.truth b) other out = refl
work_right x Tree.nil other out = refl
work_right x (Tree.pair a b) other out = unless x (Tree.pair a b) out

-- the same sides, and the parts of pairs, are less to do
less_same : (a b : Tm) (es : List Equation) → a ≡ b → loads es < loads (equation a b ∷ es)
less_same a b es same = omega (arith, loads_identical (equation a b) es (work_same a b same), size-positive a)

less_parts : (a b c d : Tm) (es : List Equation) → loads (equation a c ∷ equation b d ∷ es) < loads (equation (Tree.pair a b) (Tree.pair c d) ∷ es)
less_parts a b c d es = by (term_eq (Tree.pair a b) (Tree.pair c d)) refl
  where
    by : (c' : Bool) → term_eq (Tree.pair a b) (Tree.pair c d) ≡ c' → loads (equation a c ∷ equation b d ∷ es) < loads (equation (Tree.pair a b) (Tree.pair c d) ∷ es)
    by true e =
        let same : Tree.pair a b ≡ Tree.pair c d = term_eq-true (Tree.pair a b) (Tree.pair c d) e in
        let first : a ≡ c = cc in
        let rest : b ≡ d = cc in
        omega (
          arith,
          loads_identical (equation (Tree.pair a b) (Tree.pair c d)) es (work_same (Tree.pair a b) (Tree.pair c d) same),
          loads_identical (equation a c) (equation b d ∷ es) (work_same a c first),
          loads_identical (equation b d) es (work_same b d rest),
        )
    by false e = omega (arith, loads_parts (equation (Tree.pair a b) (Tree.pair c d)) (equation a c) (equation b d) es (work_pairs a b c d e))

-- an equation of full values
abbrev pub full_sides : Pairs → Equation → Equation
full_sides bound e = equation (full bound e.left) (full bound e.right)

-- how much there is to do with equations under bindings
abbrev pub left_over : Pairs → List Equation → ℕ
left_over bound es = loads (map (full_sides bound) es)

-- a variable replaced in full values gives those under one pair more
replaced_sides : (x : ℕ) (t : Tm) (bound : Pairs) (es : List Equation) → map (replace_sides x (full bound t)) (map (full_sides bound) es) ≡ map (full_sides ((x, t) ∷ bound)) es
replaced_sides x t bound [] = refl
replaced_sides x t bound (e ∷ es) =
    ap₂ (λ d ds. d ∷ ds) (ap₂ equation (sym (full-newest (x, t) bound e.left)) (sym (full-newest (x, t) bound e.right))) (replaced_sides x t bound es)

less_bound : (x : ℕ) (t : Tm) (bound : Pairs) (e : Equation) (es : List Equation) → work left_first (full_sides bound e) ≡ Work.substitute x (full bound t) →
    left_over ((x, t) ∷ bound) es < left_over bound (e ∷ es)
less_bound x t bound e es h =
    omega (arith, loads_substitute (full_sides bound e) x (full bound t) (map (full_sides bound) es) h, ap loads (replaced_sides x t bound es))

-- the full value of a term that walks to itself and is no variable is none
full-term : (bound : Pairs) (t : Tm) → ((y : ℕ) → t ≢ Tree.leaf y) → (y : ℕ) → full bound t ≢ Tree.leaf y
full-term bound (Tree.leaf v) other y e = other v refl
full-term bound (Tree.sym s) other y e = cc
full-term bound (Tree.str s) other y e = cc
full-term bound (Tree.num n) other y e = cc
full-term bound (Tree.truth b) other y e = cc
full-term bound Tree.nil other y e = cc
full-term bound (Tree.pair a b) other y e = cc

module _ (bound : Pairs) (g : Grown bound) (e : Equation) (es : List Equation) where
  pub falls_same : asked_by bound e ≡ Meeting.nothing → left_over bound es < left_over bound (e ∷ es)
  falls_same h = less_same (full bound e.left) (full bound e.right) (map (full_sides bound) es)
      (sym (full-walk bound g e.left) ∙ ap (full bound) (met_says ⊥ bound e Meeting.nothing h) ∙ full-walk bound g e.right)

  pub falls_parts : (first rest : Equation) → asked_by bound e ≡ Meeting.parts first rest → left_over bound (first ∷ rest ∷ es) < left_over bound (e ∷ es)
  falls_parts first rest h =
      let (l, r) = met_says ⊥ bound e (Meeting.parts first rest) h in
      let whole : full_sides bound e ≡ equation (Tree.pair (full bound first.left) (full bound rest.left)) (Tree.pair (full bound first.right) (full bound rest.right)) =
      ap₂ equation (sym (full-walk bound g e.left) ∙ ap (full bound) l) (sym (full-walk bound g e.right) ∙ ap (full bound) r) in
      omega (
        arith,
        less_parts (full bound first.left) (full bound rest.left) (full bound first.right) (full bound rest.right) (map (full_sides bound) es),
        ap (λ d. loads (d ∷ map (full_sides bound) es)) whole,
      )

  -- the solver replaces the variable that is bound by the full value of its term
  work_binding : (x : ℕ) (t : Tm) → asked_by bound e ≡ Meeting.binding x t → occurs x (full bound t) ≡ false → work left_first (full_sides bound e) ≡ Work.substitute x (full bound t)
  work_binding x t h out = by (met_says ⊥ bound e (Meeting.binding x t) h)
    where
      by : OneIs x t (walk bound e.left) (walk bound e.right) × (t ≢ Tree.leaf x) × ((y : ℕ) → walk bound e.left ≡ Tree.leaf y → y ≡ x) →
          work left_first (full_sides bound e) ≡ Work.substitute x (full bound t)
      by (inl (l, r), other, leftmost) =
          let (unbound, walks) = one_ends bound g e.left e.right x t (inl (l, r)) in
          ap (work left_first) (ap₂ equation (sym (full-walk bound g e.left) ∙ ap (full bound) l ∙ ends-unbound bound x unbound) (sym (full-walk bound g e.right) ∙ ap (full bound) r))
          ∙ work_left x (full bound t) (full-apart bound g x t walks other) out
      by (inr (l, r), other, leftmost) =
          let (unbound, walks) = one_ends bound g e.left e.right x t (inr (l, r)) in
          ap (work left_first) (ap₂ equation (sym (full-walk bound g e.left) ∙ ap (full bound) l) (sym (full-walk bound g e.right) ∙ ap (full bound) r ∙ ends-unbound bound x unbound))
          ∙ work_right x (full bound t) (full-term bound t (λ y same. other (same ∙ ap Tree.leaf (leftmost y (l ∙ same))))) out

  pub falls_binding : (x : ℕ) (t : Tm) → asked_by bound e ≡ Meeting.binding x t → occurs x (full bound t) ≡ false → left_over ((x, t) ∷ bound) es < left_over bound (e ∷ es)
  falls_binding x t h out = less_bound x t bound e es (work_binding x t h out)
