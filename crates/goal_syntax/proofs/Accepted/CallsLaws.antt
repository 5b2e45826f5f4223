-- Calls of goals without faults name relations that are there, with as many arguments as those take.
use Rattle.std.proofs.Common.{◌≡◌, ℕ, suc, List, [], ◌∷◌, ◌++◌, map, length, refl, sym, ◌∙◌, ap}
use Rattle.std.specs.Prelude.{Bool, true, false, ◌==◌, Option, Some, None, option_map, unwrap_or, slice_get, if◌then◌else◌}
use Rattle.std.specs.List.{list_all, flat_map}
use Rattle.std.proofs.lemmas.Bool.{eqb-true, eq-eqb, and_from, and_parts}
use Rattle.std.proofs.lemmas.Option.{slice_get-map}
use Rattle.kan_refusals.specs.declared.refusals.Refusal.{Refusal}
use Rattle.kan_model.specs.Programs.Goals.{Goal, Relation}
use Rattle.kan_grammar.specs.declared.dialect.Dialect.{Dialect}
use Rattle.kan_grammar.specs.declared.dialect.Dialect.TheVariants.{Book, All}
use Rattle.kan_grammar.specs.Data.Faults.{fault}
use Rattle.kan_model.specs.Programs.Scope.{takes, calls_there}
use Rattle.kan_grammar.specs.Texts.GoalForms.{GoalForm, GoalForms, none, more}
use Rattle.kan_grammar.specs.Texts.TopForms.{Defined}
use Rattle.kan_grammar.specs.Texts.Resolved.{Names, relation_number, arity, conjunction, disjunction, suspended_in, within, goal_in, goals_in, template_in}
use Rattle.kan_grammar.specs.Texts.TextFaults.{unless, term_faults, call_faults, goal_faults, goals_faults}
use Rattle.std.proofs.lemmas.List.{length-map}
use Rattle.goal_syntax.proofs.Accepted.InScopeLaws.{none_parts, both_none}

-- relations take what those that are defined take
abbrev pub TakeAs : List Defined → List Relation → Type 0
TakeAs ds rs = map (λ r. r.params) rs ≡ map (λ d. d.params) ds

-- a name that takes arguments has the number of a relation that takes as many
number_takes : (ds : List Defined) (s k : ℕ) → arity ds s ≡ Some k → (i : ℕ) × (relation_number ds s ≡ Some i) × (slice_get (map (λ d. d.params) ds) i ≡ Some k)
number_takes [] s k e = absurd cc
number_takes (d ∷ ds) s k e = by_test (s == d.name) (λ h. number_takes ds s k h) e
  where
    by_test : (b : Bool) → (arity ds s ≡ Some k → (i : ℕ) × (relation_number ds s ≡ Some i) × (slice_get (map (λ e. e.params) ds) i ≡ Some k)) →
        (if b then Some d.params else arity ds s) ≡ Some k →
        (i : ℕ) × ((if b then Some 0 else option_map (λ r. suc r) (relation_number ds s)) ≡ Some i) × (slice_get (map (λ e. e.params) (d ∷ ds)) i ≡ Some k)
    by_test true later h = (0, refl, h)
    by_test false later h = let found = later h in (suc found.0, ap (option_map (λ r. suc r)) found.1, found.2)

-- so the relation of that number takes as many
relation_takes : (ds : List Defined) (rs : List Relation) (s k : ℕ) → TakeAs ds rs → arity ds s ≡ Some k → takes (slice_get rs (unwrap_or (relation_number ds s) 0)) k ≡ true
relation_takes ds rs s k same e =
    let found = number_takes ds s k e in
    ap (λ r. takes (slice_get rs (unwrap_or r 0)) k) found.1
    ∙ by_relation (slice_get rs found.0) (sym (slice_get-map (λ r. r.params) rs found.0) ∙ ap (λ l. slice_get l found.0) same ∙ found.2)
  where
    by_relation : (r : Option Relation) → option_map (λ x. x.params) r ≡ Some k → takes r k ≡ true
    by_relation None h = absurd cc
    by_relation (Some x) h = let same : x.params ≡ k = cc in eq-eqb x.params k same

-- a call without faults has as many arguments as its name takes
call_takes : (r : Option ℕ) (at n : ℕ) → call_faults r at n ≡ [] → r ≡ Some n
call_takes None at n h = absurd cc
call_takes (Some k) at n h = ap Some (by_test (n == k) refl h)
  where
    by_test : (b : Bool) → (n == k) ≡ b → unless b (fault at Refusal.WrongCount) ≡ [] → k ≡ n
    by_test true e i = sym (eqb-true n k e)
    by_test false e i = absurd cc

-- goals that are joined have their calls there where each has
pub conjunction_there : (rs : List Relation) (gs : List Goal) → list_all (calls_there rs) gs ≡ true → calls_there rs (conjunction gs) ≡ true
conjunction_there rs [] h = refl
conjunction_there rs (g ∷ []) h = (and_parts (calls_there rs g) true h).0
conjunction_there rs (g ∷ i ∷ gs) h =
    let both = and_parts (calls_there rs g) (list_all (calls_there rs) (i ∷ gs)) h in
    and_from (calls_there rs g) (calls_there rs (conjunction (i ∷ gs))) both.0 (conjunction_there rs (i ∷ gs) both.1)

disjunction_there : (rs : List Relation) (gs : List Goal) → list_all (calls_there rs) gs ≡ true → calls_there rs (disjunction gs) ≡ true
disjunction_there rs [] h = refl
disjunction_there rs (g ∷ []) h = (and_parts (calls_there rs g) true h).0
disjunction_there rs (g ∷ i ∷ gs) h =
    let both = and_parts (calls_there rs g) (list_all (calls_there rs) (i ∷ gs)) h in
    and_from (calls_there rs g) (calls_there rs (disjunction (i ∷ gs))) both.0 (disjunction_there rs (i ∷ gs) both.1)

-- a goal that suspends has its calls there where it has
pub suspended_there : (dialect : Dialect) (rs : List Relation) (g : Goal) → calls_there rs g ≡ true → calls_there rs (suspended_in dialect g) ≡ true
suspended_there Book rs g h = h
suspended_there All rs g h = h

-- goals without faults
mutual
  pub goal_there : (dialect : Dialect) (ds : List Defined) (rs : List Relation) (ns : Names) (g : GoalForm) → TakeAs ds rs → goal_faults ds ns g ≡ [] → calls_there rs (goal_in dialect ds ns g) ≡ true
  goal_there dialect ds rs ns GoalForm.succeed same h = refl
  goal_there dialect ds rs ns GoalForm.fail same h = refl
  goal_there dialect ds rs ns (GoalForm.same u v) same h = refl
  goal_there dialect ds rs ns (GoalForm.differ u v) same h = refl
  goal_there dialect ds rs ns (GoalForm.symbol u) same h = refl
  goal_there dialect ds rs ns (GoalForm.number u) same h = refl
  goal_there dialect ds rs ns (GoalForm.text u) same h = refl
  goal_there dialect ds rs ns (GoalForm.absent tag u) same h = refl
  goal_there dialect ds rs ns (GoalForm.fresh b gs) same h =
      let bound = within ns b.value in
      let goals = goals_in dialect ds bound gs in
      suspended_there dialect rs (Goal.fresh (length b.value) (conjunction goals)) (conjunction_there rs goals (goals_there dialect ds rs bound gs same (none_parts b.faults (goals_faults ds bound gs) h).1))
  goal_there dialect ds rs ns (GoalForm.all_of gs) same h = conjunction_there rs (goals_in dialect ds ns gs) (goals_there dialect ds rs ns gs same h)
  goal_there dialect ds rs ns (GoalForm.one_of gs) same h = disjunction_there rs (goals_in dialect ds ns gs) (goals_there dialect ds rs ns gs same h)
  goal_there dialect ds rs ns (GoalForm.clauses gs) same h =
      suspended_there dialect rs (disjunction (goals_in dialect ds ns gs)) (disjunction_there rs (goals_in dialect ds ns gs) (goals_there dialect ds rs ns gs same h))
  goal_there dialect ds rs ns (GoalForm.call at s args) same h =
      let called = call_takes (arity ds s) at (length args) (none_parts (call_faults (arity ds s) at (length args)) (flat_map (term_faults ns) args) h).0 in
      ap (λ n. takes (slice_get rs (unwrap_or (relation_number ds s) 0)) n) (length-map args (template_in ns)) ∙ relation_takes ds rs s (length args) same called
  goal_there dialect ds rs ns (GoalForm.misshapen at) same h = refl

  pub goals_there : (dialect : Dialect) (ds : List Defined) (rs : List Relation) (ns : Names) (gs : GoalForms) → TakeAs ds rs → goals_faults ds ns gs ≡ [] → list_all (calls_there rs) (goals_in dialect ds ns gs) ≡ true
  goals_there dialect ds rs ns none same h = refl
  goals_there dialect ds rs ns (more g gs) same h =
      let both = none_parts (goal_faults ds ns g) (goals_faults ds ns gs) h in
      and_from (calls_there rs (goal_in dialect ds ns g)) (list_all (calls_there rs) (goals_in dialect ds ns gs)) (goal_there dialect ds rs ns g same both.0) (goals_there dialect ds rs ns gs same both.1)

-- what a name takes it takes where more relations are behind
arity_more : (ds later : List Defined) (s k : ℕ) → arity ds s ≡ Some k → arity (ds ++ later) s ≡ Some k
arity_more [] later s k e = absurd cc
arity_more (d ∷ ds) later s k e = by_test (s == d.name) (λ h. arity_more ds later s k h) e
  where
    by_test : (b : Bool) → (arity ds s ≡ Some k → arity (ds ++ later) s ≡ Some k) → (if b then Some d.params else arity ds s) ≡ Some k → (if b then Some d.params else arity (ds ++ later) s) ≡ Some k
    by_test true next h = h
    by_test false next h = next h

call_more : (ds later : List Defined) (s at n : ℕ) → call_faults (arity ds s) at n ≡ [] → call_faults (arity (ds ++ later) s) at n ≡ []
call_more ds later s at n h =
    let called = call_takes (arity ds s) at n h in
    ap (λ r. call_faults r at n) (arity_more ds later s n called ∙ sym called) ∙ h

-- goals without faults have none where more relations are behind
mutual
  pub goal_more : (ds later : List Defined) (ns : Names) (g : GoalForm) → goal_faults ds ns g ≡ [] → goal_faults (ds ++ later) ns g ≡ []
  goal_more ds later ns GoalForm.succeed h = refl
  goal_more ds later ns GoalForm.fail h = refl
  goal_more ds later ns (GoalForm.same u v) h = h
  goal_more ds later ns (GoalForm.differ u v) h = h
  goal_more ds later ns (GoalForm.symbol u) h = h
  goal_more ds later ns (GoalForm.number u) h = h
  goal_more ds later ns (GoalForm.text u) h = h
  goal_more ds later ns (GoalForm.absent tag u) h = h
  goal_more ds later ns (GoalForm.fresh b gs) h =
      let both = none_parts b.faults (goals_faults ds (within ns b.value) gs) h in
      both_none b.faults (goals_faults (ds ++ later) (within ns b.value) gs) both.0 (goals_more ds later (within ns b.value) gs both.1)
  goal_more ds later ns (GoalForm.all_of gs) h = goals_more ds later ns gs h
  goal_more ds later ns (GoalForm.one_of gs) h = goals_more ds later ns gs h
  goal_more ds later ns (GoalForm.clauses gs) h = goals_more ds later ns gs h
  goal_more ds later ns (GoalForm.call at s args) h =
      let both = none_parts (call_faults (arity ds s) at (length args)) (flat_map (term_faults ns) args) h in
      both_none (call_faults (arity (ds ++ later) s) at (length args)) (flat_map (term_faults ns) args) (call_more ds later s at (length args) both.0) both.1
  goal_more ds later ns (GoalForm.misshapen at) h = h

  pub goals_more : (ds later : List Defined) (ns : Names) (gs : GoalForms) → goals_faults ds ns gs ≡ [] → goals_faults (ds ++ later) ns gs ≡ []
  goals_more ds later ns none h = refl
  goals_more ds later ns (more g gs) h =
      let both = none_parts (goal_faults ds ns g) (goals_faults ds ns gs) h in
      both_none (goal_faults (ds ++ later) ns g) (goals_faults (ds ++ later) ns gs) (goal_more ds later ns g both.0) (goals_more ds later ns gs both.1)
