-- The equations have exactly the answer that the solver computes, and so the solver's five cases hold of all equations.
use Rattle.std.proofs.Common.{◌≡◌, ℕ, zero, suc, ◌<◌, ◌≤◌, Bool, true, false, ◌||◌, List, [], ◌∷◌, map, Option, Some, None, option_map, inl, inr, sym, ap, subst, refl, arith, ◌∙◌, le_trans}
use Rattle.std.proofs.lemmas.Bool.{or_left, or_right, eq-eqb}
use Rattle.kan_terms.specs.Tree.{Tree, Tm, occurs}
use Rattle.kan_terms.proofs.TreeLaws.{size-positive}
use Rattle.kan_model.specs.Stores.Store.{Equation}
use Rattle.kan_model.specs.Stores.Solve.{Replacement, Work, work, replace_sides, put_first, Solves, sizes, above_all, steps, rounds, solve_by}
use Rattle.kan_model.proofs.Solving.WorkLaws.{OneIs, work_explained}
use Rattle.kan_model.proofs.Solving.VariableCount.{stands_in_sides, stands, count, Below, count_bounded, count_le, count_lt, above_stands, stands_replaced, replaced_gone}

-- what stands in fewer equations lies below the same bound
pub below_less : (b : ℕ) (es fs : List Equation) → ((v : ℕ) → stands v es ≡ true → stands v fs ≡ true) → Below b fs → Below b es
below_less b es fs h below v s = below v (h v s)

-- the parts of pairs have the pairs' variables, and are smaller
pub parts_stand : (e first rest : Equation) (es : List Equation) → e.left ≡ Tree.pair first.left rest.left → e.right ≡ Tree.pair first.right rest.right →
    (v : ℕ) → stands v (first ∷ rest ∷ es) ≡ true → stands v (e ∷ es) ≡ true
parts_stand e first rest es l r v = rw (l, r) (four (occurs v first.left) (occurs v first.right) (occurs v rest.left) (occurs v rest.right) (stands v es))
  where
    four : (a b c d f : Bool) → ((a || b) || ((c || d) || f)) ≡ true → (((a || c) || (b || d)) || f) ≡ true
    four true b c d f h = refl
    four false true true d f h = refl
    four false true false d f h = refl
    four false false true d f h = refl
    four false false false true f h = refl
    four false false false false f h = h

parts_smaller : (e first rest : Equation) (es : List Equation) → e.left ≡ Tree.pair first.left rest.left → e.right ≡ Tree.pair first.right rest.right →
    sizes (first ∷ rest ∷ es) < sizes (e ∷ es)
parts_smaller e first rest es l r = rw (l, r) (omega arith)

sizes_rest : (e : Equation) (es : List Equation) → sizes es < sizes (e ∷ es)
sizes_rest e es = omega (arith, size-positive e.left)

-- the variable that is replaced stands in the equation, and so does what stands in its term
is_inside : (x : ℕ) (a : Tm) → a ≡ Tree.leaf x → occurs x a ≡ true
is_inside x a h = rw h (eq-eqb x x refl)

pub replaced_stands : (e : Equation) (es : List Equation) (x : ℕ) (t : Tm) → OneIs x t e.left e.right → stands x (e ∷ es) ≡ true
replaced_stands e es x t (inl (l, r)) = or_left (stands_in_sides x e) (stands x es) (or_left (occurs x e.left) (occurs x e.right) (is_inside x e.left l))
replaced_stands e es x t (inr (l, r)) = or_left (stands_in_sides x e) (stands x es) (or_right (occurs x e.left) (occurs x e.right) (is_inside x e.right r))

pub term_stands : (e : Equation) (es : List Equation) (x : ℕ) (t : Tm) → OneIs x t e.left e.right → (v : ℕ) → occurs v t ≡ true → stands v (e ∷ es) ≡ true
term_stands e es x t (inl (l, r)) v h = or_left (stands_in_sides v e) (stands v es) (or_right (occurs v e.left) (occurs v e.right) (rw r h))
term_stands e es x t (inr (l, r)) v h = or_left (stands_in_sides v e) (stands v es) (or_left (occurs v e.left) (occurs v e.right) (rw l h))

pub after_stand : (e : Equation) (es : List Equation) (x : ℕ) (t : Tm) → OneIs x t e.left e.right →
    (v : ℕ) → stands v (map (replace_sides x t) es) ≡ true → stands v (e ∷ es) ≡ true
after_stand e es x t one v h = elim (stands_replaced v x t es h) [
  | inl (there, other) ↦ or_right (stands_in_sides v e) (stands v es) there
  | inr in_t ↦ term_stands e es x t one v in_t
]

-- a replacement leaves fewer variables
fewer_after : (b : ℕ) (e : Equation) (es : List Equation) (x : ℕ) (t : Tm) → OneIs x t e.left e.right → occurs x t ≡ false → Below b (e ∷ es) →
    count b (map (replace_sides x t) es) < count b (e ∷ es)
fewer_after b e es x t one out below =
    count_lt b x (map (replace_sides x t) es) (e ∷ es) (after_stand e es x t one) (below x (replaced_stands e es x t one)) (replaced_gone x t es out) (replaced_stands e es x t one)

-- the steps answer, where what follows them answers for equations with fewer variables
steps_solve : (left : ℕ → ℕ → Bool) (follow : List Equation → Option Replacement) (b k : ℕ) →
    ((es : List Equation) → Below b es → suc (count b es) ≤ k → Solves left es (follow es)) →
    (n : ℕ) (es : List Equation) → sizes es < n → Below b es → count b es ≤ k → Solves left es (steps left follow n es)
unfolding steps
steps_solve left follow b k followed zero es small below few = absurd (omega arith)
steps_solve left follow b k followed (suc n) [] small below few = Solves.no_equation
steps_solve left follow b k followed (suc n) (e ∷ es) small below few =
    by (work left e) refl (λ fs less same. steps_solve left follow b k followed n fs (omega arith) (below_less b fs (e ∷ es) same below) (le_trans (count_le b fs (e ∷ es) same) few))
  where
    by : (w : Work) → work left e ≡ w →
        ((fs : List Equation) → sizes fs < sizes (e ∷ es) → ((v : ℕ) → stands v fs ≡ true → stands v (e ∷ es) ≡ true) → Solves left fs (steps left follow n fs)) →
        Solves left (e ∷ es) (steps left follow (suc n) (e ∷ es))
    by Work.identical h ih = rw (h, steps) (Solves.identical h (ih es (sizes_rest e es) (λ v. or_right (stands_in_sides v e) (stands v es))))
    by (Work.parts first rest) h ih =
        let (l, r) = work_explained ⊥ left e (Work.parts first rest) h in
        rw (h, steps) (Solves.parted h (ih (first ∷ rest ∷ es) (parts_smaller e first rest es l r) (parts_stand e first rest es l r)))
    by (Work.substitute x t) h ih =
        let (one, out) = work_explained ⊥ left e (Work.substitute x t) h in
        rw (h, steps) (Solves.replaced h (followed (map (replace_sides x t) es)
        (below_less b (map (replace_sides x t) es) (e ∷ es) (after_stand e es x t one) below)
        (omega (arith, fewer_after b e es x t one out below))))
    by Work.clash h ih = rw (h, steps) (Solves.no_answer h)

-- as many rounds as there are variables suffice
rounds_solve : (left : ℕ → ℕ → Bool) (b k : ℕ) (es : List Equation) → Below b es → count b es ≤ k → Solves left es (rounds left (suc k) es)
unfolding rounds
rounds_solve left b zero es below few =
    steps_solve left (rounds left zero) b zero (λ fs l c. absurd (omega arith)) (suc (sizes es)) es (omega arith) below few
rounds_solve left b (suc k) es below few =
    steps_solve left (rounds left (suc k)) b (suc k) (λ fs l c. rounds_solve left b k fs l (omega arith)) (suc (sizes es)) es (omega arith) below few

-- what is computed is the answer of the equations
pub solve_by-Solves : (left : ℕ → ℕ → Bool) (es : List Equation) → Solves left es (solve_by left es)
unfolding solve_by
solve_by-Solves left es = rounds_solve left (above_all es) (above_all es) es (above_stands es) (count_bounded (above_all es) es)

-- what an answer comes from, by the work on the first equation
abbrev pub ComesFrom : (ℕ → ℕ → Bool) → List Equation → Option Replacement → Work → Type 0
ComesFrom left es r Work.identical = Solves left es r
ComesFrom left es r (Work.parts first rest) = Solves left (first ∷ rest ∷ es) r
ComesFrom left es r (Work.substitute x t) = (q : Option Replacement) × Solves left (map (replace_sides x t) es) q × (r ≡ option_map (put_first x t) q)
ComesFrom left es r Work.clash = r ≡ None

pub comes_from : (left : ℕ → ℕ → Bool) (e : Equation) (es : List Equation) (r : Option Replacement) → Solves left (e ∷ es) r → ComesFrom left es r (work left e)
comes_from left e es r (Solves.identical h d) = rw h d
comes_from left e es r (Solves.parted h d) = rw h d
comes_from left e es r (Solves.replaced {r = q} h d) = rw h (q, d, refl)
comes_from left e es r (Solves.no_answer h) = rw h refl

nothing_left : (left : ℕ → ℕ → Bool) (r : Option Replacement) → Solves left [] r → Some [] ≡ r
nothing_left left r Solves.no_equation = refl

-- equations have one answer
pub Solves-one_answer : (left : ℕ → ℕ → Bool) (es : List Equation) (r q : Option Replacement) → Solves left es r → Solves left es q → r ≡ q
Solves-one_answer left es r q Solves.no_equation other = nothing_left left q other
Solves-one_answer left es r q (Solves.identical {e = e} {es = rest} h d) other =
    Solves-one_answer left rest r q d (subst (ComesFrom left rest q) h (comes_from left e rest q other))
Solves-one_answer left es r q (Solves.parted {e = e} {first = first} {rest = last} {es = rest} h d) other =
    Solves-one_answer left (first ∷ last ∷ rest) r q d (subst (ComesFrom left rest q) h (comes_from left e rest q other))
Solves-one_answer left es r q (Solves.replaced {e = e} {x = x} {t = t} {es = rest} {r = r'} h d) other =
    let (q', d', same) = subst (ComesFrom left rest q) h (comes_from left e rest q other) in
    ap (option_map (put_first x t)) (Solves-one_answer left (map (replace_sides x t) rest) r' q' d d') ∙ sym same
Solves-one_answer left es r q (Solves.no_answer {e = e} {es = rest} h) other = sym (subst (ComesFrom left rest q) h (comes_from left e rest q other))

-- the five cases of the solver
module _ (left : ℕ → ℕ → Bool) where
  pub solve_by-nothing : solve_by left [] ≡ Some []
  solve_by-nothing = Solves-one_answer left [] (solve_by left []) (Some []) (solve_by-Solves left []) Solves.no_equation

  pub solve_by-identical : (e : Equation) (es : List Equation) → work left e ≡ Work.identical → solve_by left (e ∷ es) ≡ solve_by left es
  solve_by-identical e es h =
      Solves-one_answer left (e ∷ es) (solve_by left (e ∷ es)) (solve_by left es) (solve_by-Solves left (e ∷ es)) (Solves.identical h (solve_by-Solves left es))

  pub solve_by-parts : (e first rest : Equation) (es : List Equation) → work left e ≡ Work.parts first rest →
      solve_by left (e ∷ es) ≡ solve_by left (first ∷ rest ∷ es)
  solve_by-parts e first rest es h =
      Solves-one_answer left (e ∷ es) (solve_by left (e ∷ es)) (solve_by left (first ∷ rest ∷ es)) (solve_by-Solves left (e ∷ es))
      (Solves.parted h (solve_by-Solves left (first ∷ rest ∷ es)))

  pub solve_by-substitute : (e : Equation) (x : ℕ) (t : Tm) (es : List Equation) → work left e ≡ Work.substitute x t →
      solve_by left (e ∷ es) ≡ option_map (put_first x t) (solve_by left (map (replace_sides x t) es))
  solve_by-substitute e x t es h =
      Solves-one_answer left (e ∷ es) (solve_by left (e ∷ es)) (option_map (put_first x t) (solve_by left (map (replace_sides x t) es)))
      (solve_by-Solves left (e ∷ es)) (Solves.replaced h (solve_by-Solves left (map (replace_sides x t) es)))

  pub solve_by-clash : (e : Equation) (es : List Equation) → work left e ≡ Work.clash → solve_by left (e ∷ es) ≡ None
  solve_by-clash e es h = Solves-one_answer left (e ∷ es) (solve_by left (e ∷ es)) None (solve_by-Solves left (e ∷ es)) (Solves.no_answer h)
