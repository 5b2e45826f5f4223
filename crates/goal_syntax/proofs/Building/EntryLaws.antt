-- Tables have at most as many entries as what was built of forms, and no table is full.
use Rattle.std.proofs.Common.{◌≡◌, ℕ, ◌+◌, ◌<◌, ◌≤◌, ◌^◌, List, [], ◌∷◌, ◌++◌, length, map, refl, sym, ◌∙◌, ap, arith, length-append, Option, Some, None}
use Rattle.std.specs.Prelude.{Bool, true, false, unwrap_or}
use Rattle.std.proofs.lemmas.List.{length-map}
use Rattle.kan_terms.specs.Tree.{size}
use Rattle.kan_terms.specs.Table.{Table}
use Rattle.kan_grammar.specs.declared.dialect.Dialect.{Dialect}
use Rattle.kan_grammar.specs.Texts.Sited.{Sited, site, is_proper}
use Rattle.kan_grammar.specs.Texts.Binders.{binder}
use Rattle.kan_grammar.specs.Texts.TermForms.{term_form}
use Rattle.kan_grammar.specs.Texts.GoalForms.{GoalForm, goal_forms, term_forms}
use Rattle.kan_grammar.specs.Texts.Resolved.{Names}
use Rattle.kan_grammar.specs.Texts.TopForms.{Defined}
use Rattle.kan_model.specs.Programs.Tables.{TermEntry, GoalEntry, RelationEntry, Tables, with_term, with_argument, with_goal, with_relation}
use Rattle.kan_model.specs.declared.nodes.GoalNode.{GoalNode}
use Rattle.goal_forms.specs.Parts.{site_at}
use Rattle.goal_forms.specs.Shapes.{parts}
use Rattle.goal_forms.specs.Steps.TermSteps.{task_form}
use Rattle.goal_forms.specs.Steps.GoalSteps.{step_goal, inner_names}
use Rattle.goal_forms.specs.declared.term.Task.{Task}
use Rattle.goal_forms.specs.declared.goal.Goal as opened
use Rattle.goal_forms.specs.declared.goal.Goal.TheVariants.{Succeed, Fail, Same, Differ, Symbol, Number, Text, Absent, Fresh, AllOf, OneOf, Clauses, Call, Misshapen}
use Rattle.goal_syntax.specs.Building.GrownTables.{HasRoom}
use Rattle.goal_syntax.specs.Building.Entries.{entries, terms_size, sides_size, goal_size, goals_size, others_size}
use Rattle.goal_syntax.specs.Building.TermsLeft as terms
use Rattle.goal_syntax.specs.declared.build_term.Work as term_work
use Rattle.goal_syntax.specs.declared.build_term.Work.TheVariants.{Term, Pair}
use Rattle.goal_syntax.specs.Building.GoalsBuilt.{StandsFor, own_goal}
use Rattle.goal_syntax.specs.Building.GoalsLeft.{clause_form, first_work, first_form, inner_works, other_works, own_size, row_forms, work_entries, works_entries}
use Rattle.goal_syntax.specs.declared.join_goal.Row.{Row}
use Rattle.goal_syntax.specs.declared.join_goal.Row.TheVariants as rows
use Rattle.goal_syntax.specs.declared.build_goal.Work.{Work}
use Rattle.goal_syntax.proofs.Building.GoalsLeftLaws.{row-none, row-more}

longer : {A : Type 0} (xs : List A) (x : A) → length (xs ++ x ∷ []) ≡ length xs + 1
longer xs x = length-append xs (x ∷ []) ∙ omega arith

-- one entry more
pub term_adds : (ts us : Tables) (e : TermEntry) → us ≡ with_term ts e → entries us ≡ entries ts + 1
term_adds ts us e is = ap entries is ∙ omega (arith, longer ts.terms e)

pub argument_adds : (ts us : Tables) (a : ℕ) → us ≡ with_argument ts a → entries us ≡ entries ts + 1
argument_adds ts us a is = ap entries is ∙ omega (arith, longer ts.arguments a)

pub goal_adds : (ts us : Tables) (e : GoalEntry) → us ≡ with_goal ts e → entries us ≡ entries ts + 1
goal_adds ts us e is = ap entries is ∙ omega (arith, longer ts.goals e)

pub relation_adds : (ts us : Tables) (r : RelationEntry) → us ≡ with_relation ts r → entries us ≡ entries ts + 1
relation_adds ts us r is = ap entries is ∙ omega (arith, longer ts.relations r)

-- tables of few entries have room
pub room_left : (ts : Tables) → entries ts < 2 ^ 24 → HasRoom ts
room_left ts few = record { terms = omega (arith, few); arguments = omega (arith, few); goals = omega (arith, few); relations = omega (arith, few) }

-- work on terms that is put on a stack
terms-push : (ds : List Sited) (t : Table) (ws : List term_work.Work) (w : term_work.Work) → terms.works_entries ds t (ws ++ w ∷ []) ≡ terms.work_entries ds t w + terms.works_entries ds t ws
terms-push ds t [] w = refl
terms-push ds t (x ∷ ws) w = omega (arith, terms-push ds t ws w)

pub term_pushed : (ds : List Sited) (t : Table) (old new : List term_work.Work) (w : term_work.Work) → new ≡ old ++ w ∷ [] → terms.works_entries ds t new ≡ terms.work_entries ds t w + terms.works_entries ds t old
term_pushed ds t old new w e = ap (terms.works_entries ds t) e ∙ terms-push ds t old w

pub pair_entries : (ds : List Sited) (t : Table) (ws w1 w2 w3 : List term_work.Work) (a d : Task) → w1 ≡ ws ++ Pair ∷ [] → w2 ≡ w1 ++ Term d ∷ [] → w3 ≡ w2 ++ Term a ∷ [] →
    terms.works_entries ds t w3 ≡ 1 + size (task_form ds t a) + size (task_form ds t d) + terms.works_entries ds t ws
pair_entries ds t ws w1 w2 w3 a d e1 e2 e3 =
    omega (arith, term_pushed ds t w2 w3 (Term a) e3, term_pushed ds t w1 w2 (Term d) e2, term_pushed ds t ws w1 Pair e1)

-- the terms of a list, from its first
pub terms_more : (t : Table) (s a d : Sited) → Some (a, d) ≡ parts s → terms_size (term_forms t s) ≡ size (term_form t a) + terms_size (term_forms t d)
terms_more t (Sited.pair at x y) a d e =
    let both : (a, d) ≡ (x, y) = ap (λ o. unwrap_or o (a, d)) e in
    ap (λ p. size (term_form t p.0) + terms_size (term_forms t p.1)) (sym both)
terms_more t (Sited.name at s) a d e = cc
terms_more t (Sited.text at s) a d e = cc
terms_more t (Sited.num at s) a d e = cc
terms_more t (Sited.bool at s) a d e = cc
terms_more t (Sited.nil at) a d e = cc

-- work on goals that is put on a stack
pub goals_pushed : (t : Table) (ds : List Sited) (ws vs : List Work) → works_entries t ds (ws ++ vs) ≡ works_entries t ds ws + works_entries t ds vs
goals_pushed t ds [] vs = omega arith
goals_pushed t ds (w ∷ ws) vs = omega (arith, goals_pushed t ds ws vs)

pub one_pushed : (t : Table) (ds : List Sited) (old new : List Work) (w : Work) → new ≡ old ++ w ∷ [] → works_entries t ds new ≡ work_entries t ds w + works_entries t ds old
one_pushed t ds old new w e = ap (works_entries t ds) e ∙ goals_pushed t ds old (w ∷ []) ∙ omega arith

-- a goal's own node and the work that it leaves are no more than the goal
inner_entries : (t : Table) (ds : List Sited) (ns : Names) (g : opened.Goal) → own_size t ds g + works_entries t ds (inner_works t ds ns g) ≤ goal_size (step_goal ds t g)
inner_entries t ds ns Succeed = omega arith
inner_entries t ds ns Fail = omega arith
inner_entries t ds ns (Same a d) = omega arith
inner_entries t ds ns (Differ a d) = omega arith
inner_entries t ds ns (Symbol a) = omega arith
inner_entries t ds ns (Number a) = omega arith
inner_entries t ds ns (Text a) = omega arith
inner_entries t ds ns (Absent a d) = omega arith
inner_entries t ds ns (Fresh p gs) = omega arith
inner_entries t ds ns (AllOf gs) = omega arith
inner_entries t ds ns (OneOf gs) = omega arith
inner_entries t ds ns (Clauses cs) = omega arith
inner_entries t ds ns (Call at s args) = omega arith
inner_entries t ds ns (Misshapen at) = omega arith

pub own_few : (t : Table) (ds : List Sited) (g : opened.Goal) (f : GoalForm) → step_goal ds t g ≡ f → own_size t ds g ≤ goal_size f
own_few t ds g f is = omega (arith, inner_entries t ds [] g, ap goal_size is)

pub goal_entries : (t : Table) (ds : List Sited) (ns : Names) (g : opened.Goal) (f : GoalForm) (old new : List Work) → step_goal ds t g ≡ f → new ≡ old ++ inner_works t ds ns g →
    own_size t ds g + works_entries t ds new ≤ goal_size f + works_entries t ds old
goal_entries t ds ns g f old new is waits =
    omega (arith, inner_entries t ds ns g, ap (works_entries t ds) waits, goals_pushed t ds old (inner_works t ds ns g), ap goal_size is)

-- the names that it binds among them
inner_scope : (t : Table) (ds : List Sited) (ns : Names) (g : opened.Goal) → length (inner_names t ds ns g) + works_entries t ds (inner_works t ds ns g) ≤ length ns + goal_size (step_goal ds t g)
inner_scope t ds ns Succeed = omega arith
inner_scope t ds ns Fail = omega arith
inner_scope t ds ns (Same a d) = omega arith
inner_scope t ds ns (Differ a d) = omega arith
inner_scope t ds ns (Symbol a) = omega arith
inner_scope t ds ns (Number a) = omega arith
inner_scope t ds ns (Text a) = omega arith
inner_scope t ds ns (Absent a d) = omega arith
inner_scope t ds ns (Fresh p gs) = omega (arith, length-append ns (map (λ s. Some s) (binder t (site_at ds p)).value), length-map (binder t (site_at ds p)).value (λ s. Some s))
inner_scope t ds ns (AllOf gs) = omega arith
inner_scope t ds ns (OneOf gs) = omega arith
inner_scope t ds ns (Clauses cs) = omega arith
inner_scope t ds ns (Call at s args) = omega arith
inner_scope t ds ns (Misshapen at) = omega arith

pub goal_scope : (t : Table) (ds : List Sited) (ns inside : Names) (g : opened.Goal) (f : GoalForm) (old new : List Work) → step_goal ds t g ≡ f → inside ≡ inner_names t ds ns g → new ≡ old ++ inner_works t ds ns g →
    length inside + works_entries t ds new ≤ length ns + (goal_size f + works_entries t ds old)
goal_scope t ds ns inside g f old new is scoped waits =
    omega (arith, inner_scope t ds ns g, ap length scoped, ap (works_entries t ds) waits, goals_pushed t ds old (inner_works t ds ns g), ap goal_size is)

-- a node that is there has one entry beside those of its terms
pub own_node : (dialect : Dialect) (rs : List Defined) (t : Table) (ds : List Sited) (ns : Names) (ts : Tables) (o : Option GoalNode) (node : GoalNode) (g : opened.Goal) → o ≡ Some node →
    StandsFor ts o (own_goal dialect rs t ds ns g) → own_size t ds g ≡ 1 + sides_size (step_goal ds t g)
own_node dialect rs t ds ns ts o node g is stands = by_goal g (rw is at stands)
  where
    by_goal : (g : opened.Goal) → StandsFor ts (Some node) (own_goal dialect rs t ds ns g) → own_size t ds g ≡ 1 + sides_size (step_goal ds t g)
    by_goal Succeed s = refl
    by_goal Fail s = refl
    by_goal (Same a d) s = refl
    by_goal (Differ a d) s = refl
    by_goal (Symbol a) s = refl
    by_goal (Number a) s = refl
    by_goal (Text a) s = refl
    by_goal (Absent a d) s = refl
    by_goal (Fresh p gs) s = absurd s
    by_goal (AllOf gs) s = absurd s
    by_goal (OneOf gs) s = absurd s
    by_goal (Clauses cs) s = absurd s
    by_goal (Call at x args) s = refl
    by_goal (Misshapen at) s = refl

pub sides_few : (t : Table) (ds : List Sited) (g : opened.Goal) → sides_size (step_goal ds t g) ≤ own_size t ds g
sides_few t ds Succeed = omega arith
sides_few t ds Fail = omega arith
sides_few t ds (Same a d) = omega arith
sides_few t ds (Differ a d) = omega arith
sides_few t ds (Symbol a) = omega arith
sides_few t ds (Number a) = omega arith
sides_few t ds (Text a) = omega arith
sides_few t ds (Absent a d) = omega arith
sides_few t ds (Fresh p gs) = omega arith
sides_few t ds (AllOf gs) = omega arith
sides_few t ds (OneOf gs) = omega arith
sides_few t ds (Clauses cs) = omega arith
sides_few t ds (Call at s args) = omega arith
sides_few t ds (Misshapen at) = omega arith

-- the first element of a row, and the others
first_entries : (row : Row) (t : Table) (ds : List Sited) (p : ℕ) → work_entries t ds (first_work row p) ≡ goal_size (first_form row t (site_at ds p))
first_entries rows.All t ds p = refl
first_entries rows.One t ds p = refl
first_entries rows.Clauses t ds p = refl

other_entries : (row : Row) (t : Table) (ds : List Sited) (p : ℕ) (o : Option (Sited × Sited)) → o ≡ parts (site_at ds p) → works_entries t ds (other_works row p o) ≤ others_size (row_forms row t (site_at ds p))
other_entries row t ds p None e = omega arith
other_entries row t ds p (Some q) e =
    let forms = row-more row t (site_at ds p) q.0 q.1 e in
    omega (arith, ap goals_size forms, ap others_size forms)

pub row_entries : (t : Table) (ds : List Sited) (row : Row) (p first rest : ℕ) (works1 old new : List Work) (w : Work) → Some (site_at ds first, site_at ds rest) ≡ parts (site_at ds p) →
    works1 ≡ old ++ other_works row rest (parts (site_at ds rest)) → w ≡ first_work row first → new ≡ works1 ++ w ∷ [] →
    works_entries t ds new ≤ goals_size (row_forms row t (site_at ds p)) + works_entries t ds old
row_entries t ds row p first rest works1 old new w e waits top pushed =
    let forms = row-more row t (site_at ds p) (site_at ds first) (site_at ds rest) e in
    omega (
      arith,
      ap goals_size forms,
      first_entries row t ds first,
      ap (work_entries t ds) top,
      one_pushed t ds works1 new w pushed,
      ap (works_entries t ds) waits,
      goals_pushed t ds old (other_works row rest (parts (site_at ds rest))),
      other_entries row t ds rest (parts (site_at ds rest)) refl,
    )

pub empty_entries : (t : Table) (ds : List Sited) (row : Row) (p : ℕ) → None ≡ parts (site_at ds p) → goals_size (row_forms row t (site_at ds p)) ≡ 1
empty_entries t ds row p e = ap goals_size (row-none row t (site_at ds p) e)

-- a clause is its goals, or one that fails
pub clause_entries : (t : Table) (c : Sited) (proper : Bool) → proper ≡ is_proper c → goal_size (clause_form t c) ≡ goal_size (elim proper as (λ x. GoalForm) [ true ↦ GoalForm.all_of (goal_forms t c) | false ↦ GoalForm.misshapen (site c) ])
clause_entries t c proper e = rw e refl

pub proper_clause : (t : Table) (c : Sited) → true ≡ is_proper c → goal_size (clause_form t c) ≡ goals_size (goal_forms t c)
proper_clause t c e = clause_entries t c true e

pub other_clause : (t : Table) (c : Sited) → false ≡ is_proper c → goal_size (clause_form t c) ≡ 1
other_clause t c e = clause_entries t c false e
