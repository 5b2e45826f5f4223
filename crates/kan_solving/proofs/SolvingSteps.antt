-- How many steps solving takes, and what each step leaves.
use Rattle.std.proofs.Common.{◌≡◌, ℕ, suc, Bool, ◌<◌, List, [], ◌∷◌, ◌++◌, map, reverse, refl, sym, ◌∙◌, ap, subst, Option, Some, None, option_map, arith, true, false, true≢false}
use Rattle.std.proofs.lemmas.List.{map_push, map-append, reverse-append}
use Rattle.kan_terms.specs.Tree.{Tm}
use Rattle.kan_terms.specs.declared.terms.TermPair.{TermPair}
use Rattle.kan_model.specs.Stores.Store.{Equation}
use Rattle.kan_model.specs.Stores.Solve.{Replacement, Work, Solves, work, put_first, replace_sides, solve_by}
use Rattle.kan_solving.specs.Solving.{on_stack, put_all_first, StepTo}
use Rattle.kan_model.specs.Stores.Composition.{apply_sides}
use Rattle.kan_model.specs.Stores.Prims.{equation}
use Rattle.kan_model.proofs.Solving.SolveLaws.{solve_by-Solves, solve_by-identical, solve_by-parts, solve_by-substitute, solve_by-clash, solve_by-nothing}
use Rattle.kan_solving.proofs.SolvingLaws.{finished-push}

-- how many steps an answer took
abbrev pub cost : {left : ℕ → ℕ → Bool} {es : List Equation} {r : Option Replacement} → Solves left es r → ℕ
cost Solves.no_equation = 0
cost (Solves.identical h d) = suc (cost d)
cost (Solves.parted h d) = suc (cost d)
cost (Solves.replaced h d) = suc (cost d)
cost (Solves.no_answer h) = 1

-- what the steps come from, by the work on the first equation
abbrev CostFrom : (ℕ → ℕ → Bool) → List Equation → ℕ → Work → Type 0
CostFrom left es n Work.identical = (r : Option Replacement) × (d : Solves left es r) × (n ≡ suc (cost d))
CostFrom left es n (Work.parts first rest) = (r : Option Replacement) × (d : Solves left (first ∷ rest ∷ es) r) × (n ≡ suc (cost d))
CostFrom left es n (Work.substitute x t) = (r : Option Replacement) × (d : Solves left (map (replace_sides x t) es) r) × (n ≡ suc (cost d))
CostFrom left es n Work.clash = n ≡ 1

cost_from : (left : ℕ → ℕ → Bool) (e : Equation) (es : List Equation) (r : Option Replacement) (d : Solves left (e ∷ es) r) → CostFrom left es (cost d) (work left e)
cost_from left e es r (Solves.identical {r = q} h d) = rw h (q, d, refl)
cost_from left e es r (Solves.parted {r = q} h d) = rw h (q, d, refl)
cost_from left e es r (Solves.replaced {r = q} h d) = rw h (q, d, refl)
cost_from left e es r (Solves.no_answer h) = rw h refl

no_cost : (left : ℕ → ℕ → Bool) (r : Option Replacement) (d : Solves left [] r) → 0 ≡ cost d
no_cost left r Solves.no_equation = refl

-- all answers of equations take the same steps
cost_one : (left : ℕ → ℕ → Bool) (es : List Equation) (r q : Option Replacement) (d : Solves left es r) (other : Solves left es q) → cost d ≡ cost other
cost_one left es r q Solves.no_equation other = no_cost left q other
cost_one left es r q (Solves.identical {e = e} {es = rest} h d) other =
    let (q', d', same) = subst (CostFrom left rest (cost other)) h (cost_from left e rest q other) in
    ap suc (cost_one left rest r q' d d') ∙ sym same
cost_one left es r q (Solves.parted {e = e} {first = first} {rest = last} {es = rest} h d) other =
    let (q', d', same) = subst (CostFrom left rest (cost other)) h (cost_from left e rest q other) in
    ap suc (cost_one left (first ∷ last ∷ rest) r q' d d') ∙ sym same
cost_one left es r q (Solves.replaced {e = e} {x = x} {t = t} {es = rest} {r = r'} h d) other =
    let (q', d', same) = subst (CostFrom left rest (cost other)) h (cost_from left e rest q other) in
    ap suc (cost_one left (map (replace_sides x t) rest) r' q' d d') ∙ sym same
cost_one left es r q (Solves.no_answer {e = e} {es = rest} h) other = sym (subst (CostFrom left rest (cost other)) h (cost_from left e rest q other))

-- how many steps equations take
pub steps_for : (ℕ → ℕ → Bool) → List Equation → ℕ
steps_for left es = cost (solve_by-Solves left es)

pub steps_identical : (left : ℕ → ℕ → Bool) (e : Equation) (es : List Equation) → work left e ≡ Work.identical → steps_for left es < steps_for left (e ∷ es)
unfolding steps_for
steps_identical left e es h =
    let same = cost_one left (e ∷ es) _ _ (solve_by-Solves left (e ∷ es)) (Solves.identical h (solve_by-Solves left es)) in
    omega (arith, same)

pub steps_parts : (left : ℕ → ℕ → Bool) (e first rest : Equation) (es : List Equation) → work left e ≡ Work.parts first rest → steps_for left (first ∷ rest ∷ es) < steps_for left (e ∷ es)
unfolding steps_for
steps_parts left e first rest es h =
    let same = cost_one left (e ∷ es) _ _ (solve_by-Solves left (e ∷ es)) (Solves.parted h (solve_by-Solves left (first ∷ rest ∷ es))) in
    omega (arith, same)

pub steps_substitute : (left : ℕ → ℕ → Bool) (e : Equation) (x : ℕ) (t : Tm) (es : List Equation) → work left e ≡ Work.substitute x t → steps_for left (map (replace_sides x t) es) < steps_for left (e ∷ es)
unfolding steps_for
steps_substitute left e x t es h =
    let same = cost_one left (e ∷ es) _ _ (solve_by-Solves left (e ∷ es)) (Solves.replaced h (solve_by-Solves left (map (replace_sides x t) es))) in
    omega (arith, same)

-- the top of a stack comes first
pub stacked-push : (pending : List TermPair) (e : TermPair) → on_stack (pending ++ e ∷ []) ≡ equation e ∷ on_stack pending
stacked-push pending e = ap reverse (map_push equation pending e) ∙ reverse-append (map equation pending) (equation e ∷ [])

pub map-reverse : {X Y : Type 0} (f : X → Y) (xs : List X) → map f (reverse xs) ≡ reverse (map f xs)
map-reverse f [] = refl
map-reverse f (x ∷ xs) =
    ap (map f) (reverse-append (x ∷ []) xs) ∙ map-append f (reverse xs) (x ∷ []) ∙ ap (λ ys. ys ++ f x ∷ []) (map-reverse f xs) ∙ sym (reverse-append (f x ∷ []) (map f xs))

-- a step keeps the whole answer, and leaves fewer steps
pub step_keeps : (left : ℕ → ℕ → Bool) (e : Equation) (es es' : List Equation) (ms ms' : Replacement) (goes_on : Bool) →
    StepTo es ms goes_on es' ms' (work left e) → goes_on ≡ true →
    (put_all_first ms' (solve_by left es') ≡ put_all_first ms (solve_by left (e ∷ es))) × (steps_for left es' < steps_for left (e ∷ es))
step_keeps left e es es' ms ms' goes_on moved on = by (work left e) refl moved
  where
    by : (w : Work) → work left e ≡ w → StepTo es ms goes_on es' ms' w →
        (put_all_first ms' (solve_by left es') ≡ put_all_first ms (solve_by left (e ∷ es))) × (steps_for left es' < steps_for left (e ∷ es))
    by Work.identical h (_, after, made) = rw (after, made) (ap (put_all_first ms) (sym (solve_by-identical left e es h)), steps_identical left e es h)
    by (Work.parts first rest) h (_, after, made) = rw (after, made) (ap (put_all_first ms) (sym (solve_by-parts left e first rest es h)), steps_parts left e first rest es h)
    by (Work.substitute x t) h (_, after, made) =
        rw (after, made) (
          finished-push ms (record { var = x; by = t }) (solve_by left (map (replace_sides x t) es)) ∙ ap (put_all_first ms) (sym (solve_by-substitute left e x t es h)),
          steps_substitute left e x t es h,
        )
    by Work.clash h stopped = absurd (true≢false (sym on ∙ stopped))

-- a step that stops finds no answer
pub step_stops : (left : ℕ → ℕ → Bool) (e : Equation) (es es' : List Equation) (ms ms' : Replacement) (goes_on : Bool) →
    StepTo es ms goes_on es' ms' (work left e) → goes_on ≡ false → solve_by left (e ∷ es) ≡ None
step_stops left e es es' ms ms' goes_on moved off = by (work left e) refl moved
  where
    by : (w : Work) → work left e ≡ w → StepTo es ms goes_on es' ms' w → solve_by left (e ∷ es) ≡ None
    by Work.identical h (on, _, _) = absurd (true≢false (sym on ∙ off))
    by (Work.parts first rest) h (on, _, _) = absurd (true≢false (sym on ∙ off))
    by (Work.substitute x t) h (on, _, _) = absurd (true≢false (sym on ∙ off))
    by Work.clash h stopped = solve_by-clash left e es h

-- replacements in front of no answer
finished_none : (ms : Replacement) → put_all_first ms None ≡ None
finished_none [] = refl
finished_none (m ∷ ms) = ap (option_map (put_first m.var m.by)) (finished_none ms)

-- the loop of steps: what one of them does to the stack
pub loop_keeps : (left : ℕ → ℕ → Bool) (old rest new : List TermPair) (e : TermPair) (ms ms' : Replacement) (goes_on : Bool) (whole : Option Replacement) →
    old ≡ rest ++ e ∷ [] → StepTo (on_stack rest) ms goes_on (on_stack new) ms' (work left (equation e)) → goes_on ≡ true →
    put_all_first ms (solve_by left (on_stack old)) ≡ whole → put_all_first ms' (solve_by left (on_stack new)) ≡ whole
loop_keeps left old rest new e ms ms' goes_on whole split moved on kept =
    (step_keeps left (equation e) (on_stack rest) (on_stack new) ms ms' goes_on moved on).0 ∙ ap (λ es. put_all_first ms (solve_by left es)) (sym (stacked-push rest e) ∙ sym (ap on_stack split)) ∙ kept

pub loop_falls : (left : ℕ → ℕ → Bool) (old rest new : List TermPair) (e : TermPair) (ms ms' : Replacement) (goes_on : Bool) →
    old ≡ rest ++ e ∷ [] → StepTo (on_stack rest) ms goes_on (on_stack new) ms' (work left (equation e)) → goes_on ≡ true →
    steps_for left (on_stack new) < steps_for left (on_stack old)
loop_falls left old rest new e ms ms' goes_on split moved on =
    rw (split, stacked-push) (step_keeps left (equation e) (on_stack rest) (on_stack new) ms ms' goes_on moved on).1

pub loop_stops : (left : ℕ → ℕ → Bool) (old rest new : List TermPair) (e : TermPair) (ms ms' : Replacement) (goes_on : Bool) (whole : Option Replacement) →
    old ≡ rest ++ e ∷ [] → StepTo (on_stack rest) ms goes_on (on_stack new) ms' (work left (equation e)) → goes_on ≡ false →
    put_all_first ms (solve_by left (on_stack old)) ≡ whole → None ≡ whole
loop_stops left old rest new e ms ms' goes_on whole split moved off kept =
    let none : solve_by left (on_stack old) ≡ None = ap (solve_by left) (ap on_stack split ∙ stacked-push rest e) ∙ step_stops left (equation e) (on_stack rest) (on_stack new) ms ms' goes_on moved off in
    sym (finished_none ms) ∙ ap (put_all_first ms) (sym none) ∙ kept

pub loop_ends : (left : ℕ → ℕ → Bool) (old : List TermPair) (ms : Replacement) (r whole : Option Replacement) →
    old ≡ [] → r ≡ put_all_first ms (Some []) → put_all_first ms (solve_by left (on_stack old)) ≡ whole → r ≡ whole
loop_ends left old ms r whole none all kept =
    all ∙ ap (put_all_first ms) (sym (ap (λ pending. solve_by left (on_stack pending)) none ∙ solve_by-nothing left)) ∙ kept

-- a replacement that goes through a stack
pub stacked-apply : (x : ℕ) (t : Tm) (after pending : List TermPair) →
    map equation after ≡ map (apply_sides (record { var = x; by = t } ∷ [])) (map equation pending) → on_stack after ≡ map (replace_sides x t) (on_stack pending)
stacked-apply x t after pending h = ap reverse h ∙ sym (map-reverse (replace_sides x t) (map equation pending))

-- the two equations of a pair on the stack
pub parts_step : (old mid new : List TermPair) (first rest : TermPair) (ms : Replacement) (w : Work) →
    w ≡ Work.parts (equation first) (equation rest) → mid ≡ old ++ rest ∷ [] → new ≡ mid ++ first ∷ [] → StepTo (on_stack old) ms true (on_stack new) ms w
parts_step old mid new first rest ms w is_parts one two =
    rw is_parts (refl, ap on_stack two ∙ stacked-push mid first ∙ ap (λ es. equation first ∷ es) (ap on_stack one ∙ stacked-push old rest), refl)
