-- The solver goes along with unification over bindings: what it answers makes of each term its full value.
use Rattle.std.proofs.Common.{◌≡◌, ◌≢◌, ℕ, Bool, true, false, List, [], ◌∷◌, ◌++◌, map, Option, Some, None, option_map, inl, inr, sym, ap, ap₂, subst, refl, ◌∙◌, if◌then◌else◌}
use Rattle.kan_terms.specs.Tree.{Tree, Tm, fill, occurs, term_eq}
use Rattle.kan_terms.specs.Bound.{bound_to}
use Rattle.kan_terms.proofs.TreeLaws.{fill-fill, fill-leaf, term_eq-true, eq-term_eq}
use Rattle.kan_model.specs.Stores.Store.{Equation}
use Rattle.kan_model.specs.Stores.Solve.{Replacement, image, apply, replace_sides, put_first, Work, work, work_apart, left_first, solve}
use Rattle.kan_model.specs.Stores.Composition.{apply_sides, compose, go_on}
use Rattle.kan_model.proofs.Solving.WorkLaws.{OneIs}
use Rattle.kan_model.proofs.Solving.SolveLaws.{solve_by-nothing, solve_by-identical, solve_by-parts, solve_by-substitute}
use Rattle.kan_model.proofs.Solving.UnifierLaws.{answer_unifies, apply-put_first}
use Rattle.kan_model.proofs.Solving.CompositionLaws.{compose_is_both, solver_goes_on}
use Rattle.unify_core.specs.Walking.{Pairs, walk, ends, full}
use Rattle.unify_core.specs.Solutions.{AddedTo}
use Rattle.unify_core.specs.Unifying.{Meeting, asked_by, Unifying}
use Rattle.unify_core.proofs.GrowthLaws.{Grown, full-newest, ends-unbound}
use Rattle.unify_core.proofs.WalkLaws.{full-walk, walk-end}
use Rattle.unify_core.proofs.SolutionLaws.{solution_of}
use Rattle.unify_core.proofs.Relation.MeetingLaws.{met_says}
use Rattle.unify_core.proofs.Relation.UnifyingLaws.{full-apart, one_ends, unifying_makes, binding_grows}

-- an equation of full values
abbrev pub full_sides : Pairs → Equation → Equation
full_sides bound e = record { left = full bound e.left; right = full bound e.right }

-- the solver's work on a variable and another term
substituted : (a b t : Tm) (x : ℕ) → OneIs x t a b → t ≢ Tree.leaf x → ((y : ℕ) → a ≡ Tree.leaf y → y ≡ x) → occurs x t ≡ false →
    work left_first (record { left = a; right = b }) ≡ Work.substitute x t
substituted a b t x (inl (l, r)) apart turn out = rw (l, r) (by t apart out)
  where
    by : (t : Tm) → t ≢ Tree.leaf x → occurs x t ≡ false → work left_first (record { left = Tree.leaf x; right = t }) ≡ Work.substitute x t
    by (Tree.leaf y) apart out = ap (λ c. if c then Work.identical else Work.substitute x (Tree.leaf y)) out
    by (Tree.sym s) apart out = refl
    by (Tree.str s) apart out = refl
    by (Tree.num n) apart out = refl
    by (Tree.truth c) apart out = refl
    by Tree.nil apart out = refl
    by (Tree.pair c d) apart out = ap (λ i. if i then Work.clash else Work.substitute x (Tree.pair c d)) out
substituted a b t x (inr (l, r)) apart turn out = rw (l, r) (by t apart out (λ y e. turn y (l ∙ e)))
  where
    by : (t : Tm) → t ≢ Tree.leaf x → occurs x t ≡ false → ((y : ℕ) → t ≡ Tree.leaf y → y ≡ x) → work left_first (record { left = t; right = Tree.leaf x }) ≡ Work.substitute x t
    by (Tree.leaf y) apart out turn = absurd (apart (ap Tree.leaf (turn y refl)))
    by (Tree.sym s) apart out turn = refl
    by (Tree.str s) apart out turn = refl
    by (Tree.num n) apart out turn = refl
    by (Tree.truth c) apart out turn = refl
    by Tree.nil apart out turn = refl
    by (Tree.pair c d) apart out turn = ap (λ i. if i then Work.clash else Work.substitute x (Tree.pair c d)) out

-- pairs that are taken apart: also identical ones may be
parted_alike : (a b c d : Tm) (es : List Equation) → solve (record { left = Tree.pair a b; right = Tree.pair c d } ∷ es) ≡ solve (record { left = a; right = c } ∷ record { left = b; right = d } ∷ es)
parted_alike a b c d es = by (term_eq (Tree.pair a b) (Tree.pair c d)) refl
  where
    same : (u w : Tm) (more : List Equation) → u ≡ w → solve (record { left = u; right = w } ∷ more) ≡ solve more
    same u w more e = solve_by-identical left_first (record { left = u; right = w }) more (ap (λ t. if t then Work.identical else work_apart left_first u w) (eq-term_eq u w e))

    by : (t : Bool) → term_eq (Tree.pair a b) (Tree.pair c d) ≡ t →
        solve (record { left = Tree.pair a b; right = Tree.pair c d } ∷ es) ≡ solve (record { left = a; right = c } ∷ record { left = b; right = d } ∷ es)
    by true h =
        let one = term_eq-true (Tree.pair a b) (Tree.pair c d) h in
        let first : a ≡ c = cc in
        let second : b ≡ d = cc in
        same (Tree.pair a b) (Tree.pair c d) es one ∙ sym (same a c (record { left = b; right = d } ∷ es) first ∙ same b d es second)
    by false h = solve_by-parts left_first (record { left = Tree.pair a b; right = Tree.pair c d }) (record { left = a; right = c }) (record { left = b; right = d }) es
        (ap (λ t. if t then Work.identical else work_apart left_first (Tree.pair a b) (Tree.pair c d)) h)

-- the answer for full values makes of them the full values under what was added
abbrev pub Along : Pairs → List (Tm × Tm) → Option Replacement → Type 0
Along bound added r = (q : Replacement) × (r ≡ Some q) × ((new : Pairs) → AddedTo bound added new → (t : Tm) → full new t ≡ apply q (full bound t))

-- full values with one binding more
sides_newest : (bound : Pairs) (x : ℕ) (t : Tm) (es : List Equation) → map (replace_sides x (full bound t)) (map (full_sides bound) es) ≡ map (full_sides ((x, t) ∷ bound)) es
sides_newest bound x t [] = refl
sides_newest bound x t (e ∷ es) =
    ap₂ (λ (f : Equation) fs. f ∷ fs) (ap₂ (λ a b. record { left = a; right = b }) (sym (full-newest (x, t) bound e.left)) (sym (full-newest (x, t) bound e.right))) (sides_newest bound x t es)

-- a binding in front of what is along with it
along_binding : (bound : Pairs) → Grown bound → (e : Equation) (rest : List Equation) (x : ℕ) (t : Tm) (others : List (Tm × Tm)) → asked_by bound e ≡ Meeting.binding x t → occurs x (full bound t) ≡ false →
    Along ((x, t) ∷ bound) others (solve (map (full_sides ((x, t) ∷ bound)) rest)) → Along bound ((Tree.leaf x, t) ∷ others) (solve (map (full_sides bound) (e ∷ rest)))
along_binding bound g e rest x t others h out (q, found, makes) = (put_first x (full bound t) q, solved, after)
  where
    says : OneIs x t (walk bound e.left) (walk bound e.right) × (t ≢ Tree.leaf x) × ((y : ℕ) → walk bound e.left ≡ Tree.leaf y → y ≡ x)
    says = met_says ⊥ bound e (Meeting.binding x t) h

    stands : (bound_to x bound ≡ None) × (walk bound t ≡ t)
    stands = one_ends bound g e.left e.right x t says.0

    variable : full bound (Tree.leaf x) ≡ Tree.leaf x
    variable = ends-unbound bound x stands.0

    one_full : OneIs x t (walk bound e.left) (walk bound e.right) → OneIs x (full bound t) (full bound e.left) (full bound e.right)
    one_full (inl (l, m)) = inl (sym (full-walk bound g e.left) ∙ ap (full bound) l ∙ variable, sym (full-walk bound g e.right) ∙ ap (full bound) m)
    one_full (inr (l, m)) = inr (sym (full-walk bound g e.left) ∙ ap (full bound) l, sym (full-walk bound g e.right) ∙ ap (full bound) m ∙ variable)

    turn : (y : ℕ) → full bound e.left ≡ Tree.leaf y → y ≡ x
    turn y full_is = by (walk bound e.left) refl
      where
        by : (w : Tm) → walk bound e.left ≡ w → y ≡ x
        by (Tree.leaf z) k =
            let z_is : full bound e.left ≡ Tree.leaf z = sym (full-walk bound g e.left) ∙ ap (full bound) k ∙ ends-unbound bound z (walk-end bound g e.left z k) in
            let one : Tree.leaf y ≡ Tree.leaf z = sym full_is ∙ z_is in
            let y_is : y ≡ z = cc in
            y_is ∙ says.2 z k
        by (Tree.sym s) k = let bad : Tree.sym s ≡ Tree.leaf y = sym (ap (full bound) k) ∙ full-walk bound g e.left ∙ full_is in cc
        by (Tree.str s) k = let bad : Tree.str s ≡ Tree.leaf y = sym (ap (full bound) k) ∙ full-walk bound g e.left ∙ full_is in cc
        by (Tree.num n) k = let bad : Tree.num n ≡ Tree.leaf y = sym (ap (full bound) k) ∙ full-walk bound g e.left ∙ full_is in cc
        by (Tree.truth c) k = let bad : Tree.truth c ≡ Tree.leaf y = sym (ap (full bound) k) ∙ full-walk bound g e.left ∙ full_is in cc
        by Tree.nil k = let bad : Tree.nil ≡ Tree.leaf y = sym (ap (full bound) k) ∙ full-walk bound g e.left ∙ full_is in cc
        by (Tree.pair c d) k = let bad : Tree.pair (full bound c) (full bound d) ≡ Tree.leaf y = sym (ap (full bound) k) ∙ full-walk bound g e.left ∙ full_is in cc

    does : work left_first (full_sides bound e) ≡ Work.substitute x (full bound t)
    does = substituted (full bound e.left) (full bound e.right) (full bound t) x (one_full says.0) (full-apart bound g x t stands.1 says.1) turn out

    solved : solve (map (full_sides bound) (e ∷ rest)) ≡ Some (put_first x (full bound t) q)
    solved =
        solve_by-substitute left_first (full_sides bound e) x (full bound t) (map (full_sides bound) rest) does
        ∙ ap (λ fs. option_map (put_first x (full bound t)) (solve fs)) (sides_newest bound x t rest) ∙ ap (option_map (put_first x (full bound t))) found

    after : (new : Pairs) → AddedTo bound ((Tree.leaf x, t) ∷ others) new → (u : Tm) → full new u ≡ apply (put_first x (full bound t) q) (full bound u)
    after new (y, at, _, _, put) u =
        let same : x ≡ y = cc in
        makes new (subst (λ z. AddedTo ((z, t) ∷ bound) others new) (sym same) put) u ∙ ap (apply q) (full-newest (x, t) bound u) ∙ sym (apply-put_first x (full bound t) q (full bound u))

pub along : (bound : Pairs) (es : List Equation) (r : Option (List (Tm × Tm))) → Unifying bound es r → Grown bound → (added : List (Tm × Tm)) → r ≡ Some added → Along bound added (solve (map (full_sides bound) es))
along bound es r Unifying.no_equation g added is =
    let none : [] ≡ added = cc in
    ([], solve_by-nothing left_first, λ new put t. nothing_new new (subst (λ a. AddedTo bound a new) (sym none) put) t)
  where
    nothing_new : (new : Pairs) → AddedTo bound [] new → (t : Tm) → full new t ≡ apply [] (full bound t)
    nothing_new new put t = ap (λ b. full b t) put ∙ sym (fill-leaf (full bound t))
along bound es r (Unifying.same {e = e} {es = rest} h d) g added is =
    let same : walk bound e.left ≡ walk bound e.right = met_says ⊥ bound e Meeting.nothing h in
    let full_same : full bound e.left ≡ full bound e.right = sym (full-walk bound g e.left) ∙ ap (full bound) same ∙ full-walk bound g e.right in
    let (q, found, makes) = along bound rest r d g added is in (
      q,
      solve_by-identical left_first (full_sides bound e) (map (full_sides bound) rest)
          (ap (λ c. if c then Work.identical else work_apart left_first (full bound e.left) (full bound e.right)) (eq-term_eq (full bound e.left) (full bound e.right) full_same)) ∙ found,
      makes,
    )
along bound es r (Unifying.parted {e = e} {first = first} {rest = last} {es = rest} h d) g added is =
    let (l, m) = met_says ⊥ bound e (Meeting.parts first last) h in
    let left_is : full bound e.left ≡ Tree.pair (full bound first.left) (full bound last.left) = sym (full-walk bound g e.left) ∙ ap (full bound) l in
    let right_is : full bound e.right ≡ Tree.pair (full bound first.right) (full bound last.right) = sym (full-walk bound g e.right) ∙ ap (full bound) m in
    let (q, found, makes) = along bound (first ∷ last ∷ rest) r d g added is in (
      q,
      ap₂ (λ a b. solve (record { left = a; right = b } ∷ map (full_sides bound) rest)) left_is right_is
          ∙ parted_alike (full bound first.left) (full bound last.left) (full bound first.right) (full bound last.right) (map (full_sides bound) rest) ∙ found,
      makes,
    )
along bound es r (Unifying.bound_one {e = e} {x = x} {t = t} {es = rest} {added = None} h out d) g added is = cc
along bound es r (Unifying.bound_one {e = e} {x = x} {t = t} {es = rest} {added = Some others} h out d) g added is =
    let split : (Tree.leaf x, t) ∷ others ≡ added = cc in
    subst (λ a. Along bound a (solve (map (full_sides bound) (e ∷ rest)))) split
    (along_binding bound g e rest x t others h out (along ((x, t) ∷ bound) rest (Some others) d (binding_grows ⊥ bound g e x t h out) others refl))
along bound es r (Unifying.inside h inside) g added is = cc
along bound es r (Unifying.apart h) g added is = cc

-- So for an equation behind others: where what they answer makes of each term its full value, it does so with what is added.
pub goes_along : (bound : Pairs) → Grown bound → (es : List Equation) (s : Replacement) → solve es ≡ Some s → ((t : Tm) → full bound t ≡ apply s t) →
    (e : Equation) (added : List (Tm × Tm)) (new : Pairs) → Unifying bound (e ∷ []) (Some added) → AddedTo bound added new →
    (r : Replacement) × (solve (es ++ e ∷ []) ≡ Some r) × ((t : Tm) → full new t ≡ apply r t)
goes_along bound g es s h makes e added new d put =
    let (q, found, onward) = along bound (e ∷ []) (Some added) d g added refl in
    let side : full_sides bound e ≡ apply_sides s e = ap₂ (λ a b. record { left = a; right = b }) (makes e.left) (makes e.right) in (
      compose s q,
      solver_goes_on left_first es (e ∷ []) ∙ ap (go_on left_first (e ∷ [])) h ∙ ap (λ f. option_map (compose s) (solve (f ∷ []))) (sym side) ∙ ap (option_map (compose s)) found,
      λ t. onward new put t ∙ ap (apply q) (makes t) ∙ sym (compose_is_both s q t),
    )

-- and where there is no unifier, the solver has no answer
pub ends_along : (bound : Pairs) → Grown bound → (es : List Equation) (s : Replacement) → solve es ≡ Some s → ((t : Tm) → full bound t ≡ apply s t) →
    (e : Equation) → Unifying bound (e ∷ []) None → solve (es ++ e ∷ []) ≡ None
ends_along bound g es s h makes e d = by (solve (apply_sides s e ∷ [])) refl
  where
    goes : solve (es ++ e ∷ []) ≡ option_map (compose s) (solve (apply_sides s e ∷ []))
    goes = solver_goes_on left_first es (e ∷ []) ∙ ap (go_on left_first (e ∷ [])) h

    by : (r : Option Replacement) → solve (apply_sides s e ∷ []) ≡ r → solve (es ++ e ∷ []) ≡ None
    by None k = goes ∙ ap (option_map (compose s)) k
    by (Some q) k =
        let (u, _) = answer_unifies left_first (apply_sides s e ∷ []) q k in
        absurd (unifying_makes ℕ bound (e ∷ []) None d g (λ v. fill (image q) (ends bound v)) (solution_of bound g (image q)) (side e.left ∙ u ∙ sym (side e.right), tt))
      where
        side : (t : Tm) → fill (λ v. fill (image q) (ends bound v)) t ≡ apply q (apply s t)
        side t = sym (fill-fill (image q) (ends bound) t) ∙ ap (apply q) (makes t)
