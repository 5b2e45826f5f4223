-- How building goals goes on from one piece of work to the next.
use Rattle.std.proofs.Common.{◌≡◌, ℕ, ◌+◌, ◌<◌, ◌≤◌, List, [], ◌∷◌, ◌++◌, length, map, reverse, refl, sym, ◌∙◌, ap, ap₂, append-nil, arith, Option, Some, None}
use Rattle.std.specs.Prelude.{Bool, true, false, ◌&&◌}
use Rattle.std.proofs.Math.Seq.{take-append_seam}
use Rattle.std.proofs.lemmas.List.{reverse-append}
use Rattle.kan_terms.specs.Table.{Table}
use Rattle.kan_grammar.specs.declared.dialect.Dialect.{Dialect}
use Rattle.kan_grammar.specs.Texts.Sited.{Sited, site, is_proper}
use Rattle.kan_model.specs.Programs.Goals.{Goal}
use Rattle.kan_grammar.specs.Texts.GoalForms.{GoalForm, all_of, misshapen, none, more, goal_forms, clause_forms}
use Rattle.kan_grammar.specs.Texts.TopForms.{Defined}
use Rattle.kan_grammar.specs.Texts.Binders.{binder}
use Rattle.kan_grammar.specs.Texts.Resolved.{Names, within, conjunction, disjunction, suspended_in, goal_in, goals_in}
use Rattle.goal_forms.specs.Parts.{site_at}
use Rattle.goal_forms.specs.Steps.TermSteps.{site_size}
use Rattle.goal_forms.specs.Steps.GoalSteps.{step_goal, step_goal_size}
use Rattle.goal_forms.specs.Steps.GoalSteps.{inner_names}
use Rattle.goal_syntax.specs.Building.GoalsBuilt.{Built, with_goal, with_maybe, own_goal}
use Rattle.goal_forms.specs.Shapes.{parts}
use Rattle.goal_syntax.specs.Building.CallsThere.{calls_named}
use Rattle.goal_syntax.specs.Building.GoalsLeft.{both_of, with_last_suspended, finish, first_form, first_work, inner_works, with_last_joined, other_works, row_forms, row_goal, row_size, work_size, works_size}
use Rattle.goal_syntax.proofs.Judging.GoalsLeftLaws.{clauses-none, goals-none, parts-is}
use Rattle.goal_syntax.proofs.Building.GoalsBuiltLaws.{built_from}
use Rattle.goal_forms.specs.declared.goal.Goal as opened
use Rattle.goal_forms.specs.declared.goal.Goal.TheVariants.{Succeed, Fail, Same, Differ, Symbol, Number, Text, Absent, Fresh, AllOf, OneOf, Clauses, Call, Misshapen}
use Rattle.kan_grammar.specs.declared.dialect.Dialect.TheVariants.{Book, All}
use Rattle.goal_syntax.specs.declared.join_goal.Row.{Row}
use Rattle.goal_syntax.specs.declared.join_goal.Row.TheVariants as rows
use Rattle.goal_syntax.specs.declared.build_goal.Work.{Work}
use Rattle.goal_syntax.specs.declared.build_goal.Work.TheVariants as works

-- what is put on a stack comes first
top-push : (ws : List Work) (w : Work) → reverse (ws ++ w ∷ []) ≡ w ∷ reverse ws
top-push ws w = reverse-append ws (w ∷ [])

size-push : (ds : List Sited) (ws vs : List Work) → works_size ds (ws ++ vs) ≡ works_size ds ws + works_size ds vs
size-push ds [] vs = omega arith
size-push ds (w ∷ ws) vs = rw (size-push ds ws vs) (omega arith)

-- the goal built last suspends
with_last_suspended-goal : (dialect : Dialect) (g : Goal) (b : Built) → with_last_suspended dialect (with_goal g b) ≡ with_goal (suspended_in dialect g) b
with_last_suspended-goal Book g b = refl
with_last_suspended-goal All g b = refl

-- a goal's own node and the work that it leaves give the goal
pub inner-finish : (dialect : Dialect) (rs : List Defined) (t : Table) (ds : List Sited) (ns : Names) (g : opened.Goal) (ws : List Work) (b : Built) →
    finish dialect rs t ds (inner_names t ds ns g) (reverse (ws ++ inner_works t ds ns g)) (with_maybe (own_goal dialect rs t ds ns g) b) ≡ finish dialect rs t ds ns (reverse ws) (with_goal (goal_in dialect rs ns (step_goal ds t g)) b)
inner-finish dialect rs t ds ns Succeed ws b = ap (λ l. finish dialect rs t ds ns (reverse l) (with_goal (goal_in dialect rs ns (step_goal ds t Succeed)) b)) (append-nil ws)
inner-finish dialect rs t ds ns Fail ws b = ap (λ l. finish dialect rs t ds ns (reverse l) (with_goal (goal_in dialect rs ns (step_goal ds t Fail)) b)) (append-nil ws)
inner-finish dialect rs t ds ns (Same a d) ws b = ap (λ l. finish dialect rs t ds ns (reverse l) (with_goal (goal_in dialect rs ns (step_goal ds t (Same a d))) b)) (append-nil ws)
inner-finish dialect rs t ds ns (Differ a d) ws b = ap (λ l. finish dialect rs t ds ns (reverse l) (with_goal (goal_in dialect rs ns (step_goal ds t (Differ a d))) b)) (append-nil ws)
inner-finish dialect rs t ds ns (Symbol a) ws b = ap (λ l. finish dialect rs t ds ns (reverse l) (with_goal (goal_in dialect rs ns (step_goal ds t (Symbol a))) b)) (append-nil ws)
inner-finish dialect rs t ds ns (Number a) ws b = ap (λ l. finish dialect rs t ds ns (reverse l) (with_goal (goal_in dialect rs ns (step_goal ds t (Number a))) b)) (append-nil ws)
inner-finish dialect rs t ds ns (Text a) ws b = ap (λ l. finish dialect rs t ds ns (reverse l) (with_goal (goal_in dialect rs ns (step_goal ds t (Text a))) b)) (append-nil ws)
inner-finish dialect rs t ds ns (Absent a d) ws b = ap (λ l. finish dialect rs t ds ns (reverse l) (with_goal (goal_in dialect rs ns (step_goal ds t (Absent a d))) b)) (append-nil ws)
inner-finish dialect rs t ds ns (Fresh p gs) ws b =
    let bound = binder t (site_at ds p) in
    let inner = conjunction (goals_in dialect rs (within ns bound.value) (goal_forms t (site_at ds gs))) in
    let fresh = Goal.fresh (length bound.value) inner in
    let left = works.Suspend ∷ works.Fresh (length bound.value) ∷ works.Leave (length ns) ∷ works.Row rows.All gs ∷ [] in
    ap (λ l. finish dialect rs t ds (within ns bound.value) l b) (reverse-append ws left)
    ∙ ap (λ (n : Names). finish dialect rs t ds n (reverse ws) (with_last_suspended dialect (with_goal fresh b))) (take-append_seam ns (map (λ s. Some s) bound.value))
    ∙ ap (finish dialect rs t ds ns (reverse ws)) (with_last_suspended-goal dialect fresh b)
inner-finish dialect rs t ds ns (AllOf gs) ws b = ap (λ l. finish dialect rs t ds ns l b) (top-push ws (works.Row rows.All gs))
inner-finish dialect rs t ds ns (OneOf gs) ws b = ap (λ l. finish dialect rs t ds ns l b) (top-push ws (works.Row rows.One gs))
inner-finish dialect rs t ds ns (Clauses cs) ws b =
    ap (λ l. finish dialect rs t ds ns l b) (reverse-append ws (works.Suspend ∷ works.Row rows.Clauses cs ∷ []))
    ∙ ap (finish dialect rs t ds ns (reverse ws)) (with_last_suspended-goal dialect (disjunction (goals_in dialect rs ns (clause_forms t (site_at ds cs)))) b)
inner-finish dialect rs t ds ns (Call at s args) ws b = ap (λ l. finish dialect rs t ds ns (reverse l) (with_goal (goal_in dialect rs ns (step_goal ds t (Call at s args))) b)) (append-nil ws)
inner-finish dialect rs t ds ns (Misshapen at) ws b = ap (λ l. finish dialect rs t ds ns (reverse l) (with_goal (goal_in dialect rs ns (step_goal ds t (Misshapen at))) b)) (append-nil ws)

-- a goal is built: its own node is added, and its goals wait in its scope
pub goal_built : (dialect : Dialect) (rs : List Defined) (t : Table) (ds : List Sited) (before ns inside : Names) (old new : List Work) (b after : Built) (g : opened.Goal) (form : GoalForm) →
    step_goal ds t g ≡ form → before ≡ ns → after ≡ with_maybe (own_goal dialect rs t ds before g) b → inside ≡ inner_names t ds ns g → new ≡ old ++ inner_works t ds ns g →
    finish dialect rs t ds inside (reverse new) after ≡ finish dialect rs t ds ns (reverse old) (with_goal (goal_in dialect rs ns form) b)
goal_built dialect rs t ds before ns inside old new b after g form opens same built scoped waits =
    ap (λ n. finish dialect rs t ds n (reverse new) after) scoped ∙ ap (λ l. finish dialect rs t ds (inner_names t ds ns g) (reverse l) after) waits
    ∙ ap (finish dialect rs t ds (inner_names t ds ns g) (reverse (old ++ inner_works t ds ns g))) (built ∙ ap (λ n. with_maybe (own_goal dialect rs t ds n g) b) same)
    ∙ inner-finish dialect rs t ds ns g old b ∙ ap (λ f. finish dialect rs t ds ns (reverse old) (with_goal (goal_in dialect rs ns f) b)) opens

inner-size : (t : Table) (ds : List Sited) (ns : Names) (g : opened.Goal) → works_size ds (inner_works t ds ns g) ≤ 1 + step_goal_size ds g + step_goal_size ds g + step_goal_size ds g
inner-size t ds ns Succeed = omega arith
inner-size t ds ns Fail = omega arith
inner-size t ds ns (Same a d) = omega arith
inner-size t ds ns (Differ a d) = omega arith
inner-size t ds ns (Symbol a) = omega arith
inner-size t ds ns (Number a) = omega arith
inner-size t ds ns (Text a) = omega arith
inner-size t ds ns (Absent a d) = omega arith
inner-size t ds ns (Fresh p gs) = omega arith
inner-size t ds ns (AllOf gs) = omega arith
inner-size t ds ns (OneOf gs) = omega arith
inner-size t ds ns (Clauses cs) = omega arith
inner-size t ds ns (Call at s args) = omega arith
inner-size t ds ns (Misshapen at) = omega arith

pub goal_falls : (t : Table) (ds : List Sited) (ns : Names) (s : Sited) (old new : List Work) (g : opened.Goal) → step_goal_size ds g < site_size s → new ≡ old ++ inner_works t ds ns g →
    works_size ds new < row_size s + works_size ds old
goal_falls t ds ns s old new g smaller waits =
    let grown : works_size ds new ≡ works_size ds old + works_size ds (inner_works t ds ns g) = ap (works_size ds) waits ∙ size-push ds old (inner_works t ds ns g) in
    let inner = inner-size t ds ns g in
    omega arith

-- a row with no first element is empty
pub row-none : (row : Row) (t : Table) (s : Sited) → None ≡ parts s → row_forms row t s ≡ none
row-none rows.All t s e = goals-none t s e
row-none rows.One t s e = goals-none t s e
row-none rows.Clauses t s e = clauses-none t s e

-- another has a first element and others
pub row-more : (row : Row) (t : Table) (s a d : Sited) → Some (a, d) ≡ parts s → row_forms row t s ≡ more (first_form row t a) (row_forms row t d)
row-more rows.All t s a d e = ap (goal_forms t) (parts-is s a d e).1
row-more rows.One t s a d e = ap (goal_forms t) (parts-is s a d e).1
row-more rows.Clauses t s a d e = ap (clause_forms t) (parts-is s a d e).1

row-single : (row : Row) (g : Goal) → row_goal row (g ∷ []) ≡ g
row-single rows.All g = refl
row-single rows.One g = refl
row-single rows.Clauses g = refl

row-joined : (row : Row) (g h : Goal) (gs : List Goal) → row_goal row (g ∷ h ∷ gs) ≡ both_of row g (row_goal row (h ∷ gs))
row-joined rows.All g h gs = refl
row-joined rows.One g h gs = refl
row-joined rows.Clauses g h gs = refl

first-finish : (dialect : Dialect) (rs : List Defined) (t : Table) (ds : List Sited) (ns : Names) (row : Row) (a : ℕ) (ws : List Work) (b : Built) →
    finish dialect rs t ds ns (first_work row a ∷ ws) b ≡ finish dialect rs t ds ns ws (with_goal (goal_in dialect rs ns (first_form row t (site_at ds a))) b)
first-finish dialect rs t ds ns rows.All a ws b = refl
first-finish dialect rs t ds ns rows.One a ws b = refl
first-finish dialect rs t ds ns rows.Clauses a ws b = refl

and-assoc : (x y z : Bool) → ((x && y) && z) ≡ (x && (y && z))
and-assoc true y z = refl
and-assoc false y z = refl

-- the goals of a first element and of the others are joined
with_last_joined-goal : (row : Row) (g h : Goal) (b : Built) → with_last_joined row (with_goal h (with_goal g b)) ≡ with_goal (both_of row g h) b
with_last_joined-goal rows.All g h b = λ i. built_from (Goal.both g h ∷ b.made) (λ rows. and-assoc (b.called rows) (calls_named rows g) (calls_named rows h) i)
with_last_joined-goal rows.One g h b = λ i. built_from (Goal.either g h ∷ b.made) (λ rows. and-assoc (b.called rows) (calls_named rows g) (calls_named rows h) i)
with_last_joined-goal rows.Clauses g h b = λ i. built_from (Goal.either g h ∷ b.made) (λ rows. and-assoc (b.called rows) (calls_named rows g) (calls_named rows h) i)

-- the first goal of a row, and what the others on the stack make of it
others_finish : (dialect : Dialect) (rs : List Defined) (t : Table) (ds : List Sited) (ns : Names) (row : Row) (d : ℕ) (g : Goal) (ws : List Work) (b : Built) (p : Option (Sited × Sited)) → p ≡ parts (site_at ds d) →
    finish dialect rs t ds ns (reverse (ws ++ other_works row d p)) (with_goal g b) ≡ finish dialect rs t ds ns (reverse ws) (with_goal (row_goal row (g ∷ goals_in dialect rs ns (row_forms row t (site_at ds d)))) b)
others_finish dialect rs t ds ns row d g ws b None e =
    ap (λ l. finish dialect rs t ds ns (reverse l) (with_goal g b)) (append-nil ws)
    ∙ sym (ap (λ gs. finish dialect rs t ds ns (reverse ws) (with_goal (row_goal row (g ∷ goals_in dialect rs ns gs)) b)) (row-none row t (site_at ds d) e)
    ∙ ap (λ x. finish dialect rs t ds ns (reverse ws) (with_goal x b)) (row-single row g))
others_finish dialect rs t ds ns row d g ws b (Some p) e =
    let top : reverse (ws ++ works.Join row ∷ works.Row row d ∷ []) ≡ works.Row row d ∷ works.Join row ∷ reverse ws = reverse-append ws (works.Join row ∷ works.Row row d ∷ []) in
    let split : row_forms row t (site_at ds d) ≡ more (first_form row t p.0) (row_forms row t p.1) = row-more row t (site_at ds d) p.0 p.1 e in
    let others : Goal = row_goal row (goals_in dialect rs ns (row_forms row t (site_at ds d))) in
    ap (λ l. finish dialect rs t ds ns l (with_goal g b)) top
    ∙ ap (finish dialect rs t ds ns (reverse ws)) (with_last_joined-goal row g others b)
    ∙ ap (λ x. finish dialect rs t ds ns (reverse ws) (with_goal x b))
    (ap (λ gs. both_of row g (row_goal row (goals_in dialect rs ns gs))) split
    ∙ sym (row-joined row g (goal_in dialect rs ns (first_form row t p.0)) (goals_in dialect rs ns (row_forms row t p.1)))
    ∙ sym (ap (λ gs. row_goal row (g ∷ goals_in dialect rs ns gs)) split))

-- the first element of a row waits, and the others
pub row_waits : (dialect : Dialect) (rs : List Defined) (t : Table) (ds : List Sited) (ns : Names) (row : Row) (place a d : ℕ) (ws mid new : List Work) (first : Work) (b : Built) → Some (site_at ds a, site_at ds d) ≡ parts (site_at ds place) →
    mid ≡ ws ++ other_works row d (parts (site_at ds d)) → first ≡ first_work row a → new ≡ mid ++ first ∷ [] →
    finish dialect rs t ds ns (reverse new) b ≡ finish dialect rs t ds ns (works.Row row place ∷ reverse ws) b
row_waits dialect rs t ds ns row place a d ws mid new first b e others is pushed =
    let top : reverse new ≡ first_work row a ∷ reverse (ws ++ other_works row d (parts (site_at ds d))) =
    ap reverse pushed ∙ top-push mid first ∙ ap₂ (λ w l. w ∷ reverse l) is others in
    ap (λ l. finish dialect rs t ds ns l b) top ∙ first-finish dialect rs t ds ns row a (reverse (ws ++ other_works row d (parts (site_at ds d)))) b
    ∙ others_finish dialect rs t ds ns row d (goal_in dialect rs ns (first_form row t (site_at ds a))) ws b (parts (site_at ds d)) refl
    ∙ sym (ap (λ gs. finish dialect rs t ds ns (reverse ws) (with_goal (row_goal row (goals_in dialect rs ns gs)) b)) (row-more row t (site_at ds place) (site_at ds a) (site_at ds d) e))

first-size : (ds : List Sited) (row : Row) (a : ℕ) → work_size ds (first_work row a) ≤ 1 + row_size (site_at ds a)
first-size ds rows.All a = omega arith
first-size ds rows.One a = omega arith
first-size ds rows.Clauses a = omega arith

others-size : (ds : List Sited) (row : Row) (d : ℕ) (p : Option (Sited × Sited)) → works_size ds (other_works row d p) ≤ 1 + row_size (site_at ds d)
others-size ds row d None = omega arith
others-size ds row d (Some p) = omega arith

pub row_falls : (ds : List Sited) (row : Row) (place a d : ℕ) (ws mid new : List Work) (first : Work) → Some (site_at ds a, site_at ds d) ≡ parts (site_at ds place) →
    mid ≡ ws ++ other_works row d (parts (site_at ds d)) → first ≡ first_work row a → new ≡ mid ++ first ∷ [] → works_size ds new < row_size (site_at ds place) + works_size ds ws
row_falls ds row place a d ws mid new first e others is pushed =
    let size : site_size (site_at ds place) ≡ 1 + site_size (site_at ds a) + site_size (site_at ds d) = ap site_size (parts-is (site_at ds place) (site_at ds a) (site_at ds d) e).1 in
    let grown : works_size ds new ≡ works_size ds mid + works_size ds (first ∷ []) = ap (works_size ds) pushed ∙ size-push ds mid (first ∷ []) in
    let before : works_size ds mid ≡ works_size ds ws + works_size ds (other_works row d (parts (site_at ds d))) = ap (works_size ds) others ∙ size-push ds ws (other_works row d (parts (site_at ds d))) in
    let one : work_size ds first ≡ work_size ds (first_work row a) = ap (work_size ds) is in
    let first_one = first-size ds row a in
    let other_ones = others-size ds row d (parts (site_at ds d)) in
    omega arith

-- the goals of a clause wait
pub clause_falls : (ds : List Sited) (clause : ℕ) (ws new : List Work) → new ≡ ws ++ works.Row rows.All clause ∷ [] → works_size ds new < 1 + row_size (site_at ds clause) + works_size ds ws
clause_falls ds clause ws new pushed =
    let grown : works_size ds new ≡ works_size ds ws + works_size ds (works.Row rows.All clause ∷ []) = ap (works_size ds) pushed ∙ size-push ds ws (works.Row rows.All clause ∷ []) in
    omega arith

-- the work on top is done
pub work_done : (dialect : Dialect) (rs : List Defined) (t : Table) (ds : List Sited) (ns inside : Names) (old popped new : List Work) (w : Work) (before after whole : Built) → old ≡ popped ++ w ∷ [] →
    finish dialect rs t ds inside (reverse new) after ≡ finish dialect rs t ds ns (w ∷ reverse popped) before → finish dialect rs t ds ns (reverse old) before ≡ whole → finish dialect rs t ds inside (reverse new) after ≡ whole
work_done dialect rs t ds ns inside old popped new w before after whole split done kept = done ∙ sym (ap (λ l. finish dialect rs t ds ns l before) (ap reverse split ∙ top-push popped w)) ∙ kept

pub work_falls : (ds : List Sited) (old popped new : List Work) (w : Work) → old ≡ popped ++ w ∷ [] → works_size ds new < work_size ds w + works_size ds popped → works_size ds new < works_size ds old
work_falls ds old popped new w split falls =
    let size : works_size ds old ≡ works_size ds popped + works_size ds (w ∷ []) = ap (works_size ds) split ∙ size-push ds popped (w ∷ []) in
    omega arith

-- a clause that is no list fails
pub clause_fails : (dialect : Dialect) (rs : List Defined) (t : Table) (ds : List Sited) (ns : Names) (clause : ℕ) (ws : List Work) (b after : Built) → is_proper (site_at ds clause) ≡ false → after ≡ with_goal Goal.fail b →
    finish dialect rs t ds ns (reverse ws) after ≡ finish dialect rs t ds ns (works.Clause clause ∷ reverse ws) b
clause_fails dialect rs t ds ns clause ws b after proper added =
    let form = λ (p : Bool). elim p as (λ x. GoalForm) [ true ↦ all_of (goal_forms t (site_at ds clause)) | false ↦ misshapen (site (site_at ds clause)) ] in
    ap (finish dialect rs t ds ns (reverse ws)) added ∙ sym (ap (λ p. finish dialect rs t ds ns (reverse ws) (with_goal (goal_in dialect rs ns (form p)) b)) proper)

-- where no work is left all is made
pub works_done : (dialect : Dialect) (rs : List Defined) (t : Table) (ds : List Sited) (ns : Names) (ws : List Work) (b whole : Built) → length ws ≡ 0 → finish dialect rs t ds ns (reverse ws) b ≡ whole → b ≡ whole
works_done dialect rs t ds ns [] b whole empty made = made
works_done dialect rs t ds ns (w ∷ ws) b whole empty made = absurd (omega (arith, empty))

-- a row that is empty
pub empty_row : (dialect : Dialect) (rs : List Defined) (t : Table) (ds : List Sited) (ns : Names) (row : Row) (place : ℕ) (ws : List Work) (b after : Built) → None ≡ parts (site_at ds place) → after ≡ with_goal (row_goal row []) b →
    finish dialect rs t ds ns (reverse ws) after ≡ finish dialect rs t ds ns (works.Row row place ∷ reverse ws) b
empty_row dialect rs t ds ns row place ws b after e made =
    ap (finish dialect rs t ds ns (reverse ws)) made ∙ sym (ap (λ gs. finish dialect rs t ds ns (reverse ws) (with_goal (row_goal row (goals_in dialect rs ns gs)) b)) (row-none row t (site_at ds place) e))
