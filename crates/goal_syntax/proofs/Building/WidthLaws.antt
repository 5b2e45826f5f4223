-- The goals of tables are at most as wide as those that were built of forms.
use Rattle.std.proofs.Common.{◌≡◌, ℕ, suc, zero, ◌+◌, ◌<◌, ◌≤◌, ◌^◌, max, List, [], ◌∷◌, ◌++◌, length, refl, ◌∙◌, ap, ap₂, arith, zero-add, Option, Some, None}
use Rattle.std.specs.Prelude.{Bool, true, false}
use Rattle.std.specs.List.{list_all}
use Rattle.std.proofs.lemmas.Bool.{and_from, lt-ltb}
use Rattle.std.proofs.lemmas.List.{length-map}
use Rattle.kan_terms.specs.Table.{Table}
use Rattle.kan_grammar.specs.declared.dialect.Dialect.{Dialect}
use Rattle.kan_grammar.specs.declared.dialect.Dialect.TheVariants.{Book, All}
use Rattle.kan_grammar.specs.Texts.Sited.{Sited, site, is_proper}
use Rattle.kan_grammar.specs.Texts.GoalForms.{GoalForm, GoalForms, none, more, goal_forms, term_forms}
use Rattle.kan_grammar.specs.Texts.Resolved.{Names, conjunction, disjunction, suspended_in, template_in, within, goal_in, goals_in}
use Rattle.kan_grammar.specs.Texts.TopForms.{Defined}
use Rattle.kan_model.specs.Programs.Goals.{Goal}
use Rattle.kan_model.specs.Programs.Scope.{width, is_narrow}
use Rattle.kan_model.specs.Programs.Tables.{GoalEntry, Tables, goal_at, goals_of, templates_of, with_goal}
use Rattle.kan_model.proofs.Programs.TableLaws.{goals-more, goals-length}
use Rattle.goal_forms.specs.Parts.{site_at}
use Rattle.goal_forms.specs.Shapes.{parts}
use Rattle.goal_forms.specs.Steps.GoalSteps.{step_goal}
use Rattle.goal_forms.specs.declared.goal.Goal as opened
use Rattle.goal_forms.specs.declared.goal.Goal.TheVariants.{Succeed, Fail, Same, Differ, Symbol, Number, Text, Absent, Fresh, AllOf, OneOf, Clauses, Call, Misshapen}
use Rattle.goal_syntax.specs.Building.GrownTables.{HasGoal, Grows}
use Rattle.goal_syntax.specs.Building.GoalsBuilt.{Built, entry_goal, own_goal, with_maybe}
use Rattle.goal_syntax.specs.Building.GoalsLeft.{clause_form, empty_entry, first_form, first_work, with_last_fresh, inner_works, join_last, with_last_joined, other_works, row_forms, with_last_suspended, work_width, works_width, both_of}
use Rattle.goal_syntax.specs.Building.Widths.{widest, widths, widest_in, made_width, goal_width, goals_width}
use Rattle.goal_syntax.specs.declared.join_goal.Row.{Row}
use Rattle.goal_syntax.specs.declared.join_goal.Row.TheVariants as rows
use Rattle.goal_syntax.specs.declared.build_goal.Work.{Work}
use Rattle.goal_syntax.proofs.Building.GoalsLeftLaws.{row-more}

-- one goal more
widest-push : (gs : List Goal) (g : Goal) → widest (gs ++ g ∷ []) ≡ max (widest gs) (width g)
widest-push [] g = omega arith
widest-push (h ∷ gs) g = omega (arith, widest-push gs g)

pub goal_widens : (ts us : Tables) (e : GoalEntry) → us ≡ with_goal ts e → widest_in us ≡ max (widest_in ts) (width (entry_goal ts e))
goal_widens ts us e is =
    ap widest_in is ∙ ap widest (goals-more (templates_of ts.terms) ts.arguments [] ts.goals e) ∙ widest-push (goals_of ts) (entry_goal ts e)

-- no goal of a table is wider than its widest one
pub at_most : (gs : List Goal) (p : ℕ) → width (goal_at gs p) ≤ widest gs
at_most [] p = omega arith
at_most (g ∷ gs) zero = omega arith
at_most (g ∷ gs) (suc p) = omega (arith, at_most gs p)

-- goals stay as they are where templates and arguments come
same_goals : (xs ys : List Goal) → length xs ≡ length ys → ((p : ℕ) → p < length ys → goal_at xs p ≡ goal_at ys p) → widest xs ≡ widest ys
same_goals [] [] size same = refl
same_goals [] (y ∷ ys) size same = absurd (omega (arith, size))
same_goals (x ∷ xs) [] size same = absurd (omega (arith, size))
same_goals (x ∷ xs) (y ∷ ys) size same =
    ap₂ (λ a b. max (width a) b) (same 0 (omega arith)) (same_goals xs ys (omega (arith, size)) (λ p below. same (suc p) (omega (arith, below))))

pub widest_kept : (ts us : Tables) → Grows ts us → us.goals ≡ ts.goals → widest_in us ≡ widest_in ts
widest_kept ts us grows same =
    let new : length (goals_of us) ≡ length us.goals = goals-length (templates_of us.terms) us.arguments [] us.goals ∙ zero-add (length us.goals) in
    let old : length (goals_of ts) ≡ length ts.goals = goals-length (templates_of ts.terms) ts.arguments [] ts.goals ∙ zero-add (length ts.goals) in
    same_goals (goals_of us) (goals_of ts) (omega (arith, new, old, ap length same))
    (λ p below. (grows.goals p (goal_at (goals_of ts) p) (record { there = omega (arith, below, old); is = refl })).is)

-- goals that are joined are as wide as they are together
pub joined_width : (row : Row) (b : Built) → made_width (with_last_joined row b) ≤ made_width b
joined_width row b = by_made row b.made
  where
    by_row : (row : Row) (g h : Goal) → width (both_of row g h) ≡ width g + width h
    by_row rows.All g h = refl
    by_row rows.One g h = refl
    by_row rows.Clauses g h = refl

    by_made : (row : Row) (gs : List Goal) → widths (join_last row gs) ≤ widths gs
    by_made row [] = omega arith
    by_made row (h ∷ []) = omega arith
    by_made row (h ∷ g ∷ made) = omega (arith, by_row row g h)

pub freshened_width : (k : ℕ) (b : Built) → made_width (with_last_fresh k b) ≤ k + made_width b
freshened_width k b = by_made b.made
  where
    by_made : (gs : List Goal) → made_width (with_last_fresh k (record { made = gs; called = b.called })) ≤ k + widths gs
    by_made [] = omega arith
    by_made (g ∷ made) = omega arith

pub suspended_width : (dialect : Dialect) (b : Built) → made_width (with_last_suspended dialect b) ≤ made_width b
suspended_width Book b = omega arith
suspended_width All b = by_made b.made
  where
    by_made : (gs : List Goal) → made_width (with_last_suspended All (record { made = gs; called = b.called })) ≤ widths gs
    by_made [] = omega arith
    by_made (g ∷ made) = omega arith

-- work that is put on a stack
widths-push : (t : Table) (ds : List Sited) (ws vs : List Work) → works_width t ds (ws ++ vs) ≡ works_width t ds ws + works_width t ds vs
widths-push t ds [] vs = omega arith
widths-push t ds (w ∷ ws) vs = omega (arith, widths-push t ds ws vs)

pub one_widens : (t : Table) (ds : List Sited) (old new : List Work) (w : Work) → new ≡ old ++ w ∷ [] → works_width t ds new ≡ work_width t ds w + works_width t ds old
one_widens t ds old new w e = ap (works_width t ds) e ∙ widths-push t ds old (w ∷ []) ∙ omega arith

-- a goal's own node and the work that it leaves are as wide as the goal
abbrev maybe_width : Option Goal → ℕ
maybe_width None = 0
maybe_width (Some g) = width g

maybe_made : (o : Option Goal) (b : Built) → made_width (with_maybe o b) ≡ maybe_width o + made_width b
maybe_made None b = omega arith
maybe_made (Some g) b = refl

inner_width : (dialect : Dialect) (rs : List Defined) (t : Table) (ds : List Sited) (ns : Names) (g : opened.Goal) →
    maybe_width (own_goal dialect rs t ds ns g) + works_width t ds (inner_works t ds ns g) ≤ goal_width (step_goal ds t g)
inner_width dialect rs t ds ns Succeed = omega arith
inner_width dialect rs t ds ns Fail = omega arith
inner_width dialect rs t ds ns (Same a d) = omega arith
inner_width dialect rs t ds ns (Differ a d) = omega arith
inner_width dialect rs t ds ns (Symbol a) = omega arith
inner_width dialect rs t ds ns (Number a) = omega arith
inner_width dialect rs t ds ns (Text a) = omega arith
inner_width dialect rs t ds ns (Absent a d) = omega arith
inner_width dialect rs t ds ns (Fresh p gs) = omega arith
inner_width dialect rs t ds ns (AllOf gs) = omega arith
inner_width dialect rs t ds ns (OneOf gs) = omega arith
inner_width dialect rs t ds ns (Clauses cs) = omega arith
inner_width dialect rs t ds ns (Call at s args) = omega (arith, length-map (term_forms t (site_at ds args)) (template_in ns))
inner_width dialect rs t ds ns (Misshapen at) = omega arith

pub goal_wide : (dialect : Dialect) (rs : List Defined) (t : Table) (ds : List Sited) (ns : Names) (g : opened.Goal) (f : GoalForm) (old new : List Work) (before after : Built) → step_goal ds t g ≡ f →
    after ≡ with_maybe (own_goal dialect rs t ds ns g) before → new ≡ old ++ inner_works t ds ns g →
    made_width after + works_width t ds new ≤ made_width before + (goal_width f + works_width t ds old)
goal_wide dialect rs t ds ns g f old new before after is own waits =
    omega (
      arith,
      inner_width dialect rs t ds ns g,
      ap made_width own,
      maybe_made (own_goal dialect rs t ds ns g) before,
      ap (works_width t ds) waits,
      widths-push t ds old (inner_works t ds ns g),
      ap goal_width is,
    )

-- the first element of a row, and the others
first_width : (row : Row) (t : Table) (ds : List Sited) (p : ℕ) → work_width t ds (first_work row p) ≡ goal_width (first_form row t (site_at ds p))
first_width rows.All t ds p = refl
first_width rows.One t ds p = refl
first_width rows.Clauses t ds p = refl

other_width : (row : Row) (t : Table) (ds : List Sited) (p : ℕ) (o : Option (Sited × Sited)) → works_width t ds (other_works row p o) ≤ goals_width (row_forms row t (site_at ds p))
other_width row t ds p None = omega arith
other_width row t ds p (Some q) = omega arith

pub row_wide : (t : Table) (ds : List Sited) (row : Row) (p first rest : ℕ) (works1 old new : List Work) (w : Work) → Some (site_at ds first, site_at ds rest) ≡ parts (site_at ds p) →
    works1 ≡ old ++ other_works row rest (parts (site_at ds rest)) → w ≡ first_work row first → new ≡ works1 ++ w ∷ [] →
    works_width t ds new ≤ goals_width (row_forms row t (site_at ds p)) + works_width t ds old
row_wide t ds row p first rest works1 old new w e waits top pushed =
    let forms = row-more row t (site_at ds p) (site_at ds first) (site_at ds rest) e in
    omega (
      arith,
      ap goals_width forms,
      first_width row t ds first,
      ap (work_width t ds) top,
      one_widens t ds works1 new w pushed,
      ap (works_width t ds) waits,
      widths-push t ds old (other_works row rest (parts (site_at ds rest))),
      other_width row t ds rest (parts (site_at ds rest)),
    )

-- a row that is empty
empty_width : (ts : Tables) (row : Row) → width (entry_goal ts (empty_entry row)) ≡ 0
empty_width ts rows.All = refl
empty_width ts rows.One = refl
empty_width ts rows.Clauses = refl

pub empty_wide : (ts : Tables) (row : Row) (e : GoalEntry) → e ≡ empty_entry row → width (entry_goal ts e) ≡ 0
empty_wide ts row e is = ap (λ x. width (entry_goal ts x)) is ∙ empty_width ts row

-- a clause that is proper
pub clause_wide : (t : Table) (c : Sited) → true ≡ is_proper c → goal_width (clause_form t c) ≡ goals_width (goal_forms t c)
clause_wide t c e = by_proper (is_proper c) e
  where
    by_proper : (b : Bool) → true ≡ b → goal_width (elim b as (λ x. GoalForm) [ true ↦ GoalForm.all_of (goal_forms t c) | false ↦ GoalForm.misshapen (site c) ]) ≡ goals_width (goal_forms t c)
    by_proper true e = refl
    by_proper false e = cc

-- goals in a row are at most as wide as they are written
conjunction_width : (gs : List Goal) → width (conjunction gs) ≡ widths gs
conjunction_width [] = refl
conjunction_width (g ∷ []) = omega arith
conjunction_width (g ∷ h ∷ gs) = omega (arith, conjunction_width (h ∷ gs))

disjunction_width : (gs : List Goal) → width (disjunction gs) ≡ widths gs
disjunction_width [] = refl
disjunction_width (g ∷ []) = omega arith
disjunction_width (g ∷ h ∷ gs) = omega (arith, disjunction_width (h ∷ gs))

suspended_in_width : (dialect : Dialect) (g : Goal) → width (suspended_in dialect g) ≡ width g
suspended_in_width Book g = refl
suspended_in_width All g = refl

mutual
  form_goal_width : (dialect : Dialect) (rs : List Defined) (ns : Names) (f : GoalForm) → width (goal_in dialect rs ns f) ≡ goal_width f
  form_goal_width dialect rs ns GoalForm.succeed = refl
  form_goal_width dialect rs ns GoalForm.fail = refl
  form_goal_width dialect rs ns (GoalForm.same u v) = refl
  form_goal_width dialect rs ns (GoalForm.differ u v) = refl
  form_goal_width dialect rs ns (GoalForm.symbol u) = refl
  form_goal_width dialect rs ns (GoalForm.number u) = refl
  form_goal_width dialect rs ns (GoalForm.text u) = refl
  form_goal_width dialect rs ns (GoalForm.absent tag u) = refl
  form_goal_width dialect rs ns (GoalForm.fresh b gs) =
      suspended_in_width dialect (Goal.fresh (length b.value) (conjunction (goals_in dialect rs (within ns b.value) gs)))
      ∙ omega (arith, conjunction_width (goals_in dialect rs (within ns b.value) gs), form_goals_width dialect rs (within ns b.value) gs)
  form_goal_width dialect rs ns (GoalForm.all_of gs) = conjunction_width (goals_in dialect rs ns gs) ∙ form_goals_width dialect rs ns gs
  form_goal_width dialect rs ns (GoalForm.one_of gs) = disjunction_width (goals_in dialect rs ns gs) ∙ form_goals_width dialect rs ns gs
  form_goal_width dialect rs ns (GoalForm.clauses gs) =
      suspended_in_width dialect (disjunction (goals_in dialect rs ns gs)) ∙ disjunction_width (goals_in dialect rs ns gs) ∙ form_goals_width dialect rs ns gs
  form_goal_width dialect rs ns (GoalForm.call at s args) = length-map args (template_in ns)
  form_goal_width dialect rs ns (GoalForm.misshapen at) = refl

  form_goals_width : (dialect : Dialect) (rs : List Defined) (ns : Names) (fs : GoalForms) → widths (goals_in dialect rs ns fs) ≡ goals_width fs
  form_goals_width dialect rs ns none = refl
  form_goals_width dialect rs ns (more f fs) = omega (arith, form_goal_width dialect rs ns f, form_goals_width dialect rs ns fs)

pub list_wide : (dialect : Dialect) (rs : List Defined) (ns : Names) (fs : GoalForms) → width (conjunction (goals_in dialect rs ns fs)) ≡ goals_width fs
list_wide dialect rs ns fs = conjunction_width (goals_in dialect rs ns fs) ∙ form_goals_width dialect rs ns fs

-- a goal behind which others are joined
pub behind_wide : (ts us : Tables) (first rest : ℕ) (g : Goal) → first < length ts.goals → Grows ts us → HasGoal us rest g →
    width (entry_goal us (GoalEntry.both first rest)) ≡ width (goal_at (goals_of ts) first) + width g
behind_wide ts us first rest g there grows has =
    ap₂ (λ a b. width a + width b) (grows.goals first (goal_at (goals_of ts) first) (record { there = there; is = refl })).is has.is

pub goal_behind_wide : (dialect : Dialect) (rs : List Defined) (ns : Names) (first : Goal) (fs : GoalForms) → width (conjunction (first ∷ goals_in dialect rs ns fs)) ≡ width first + goals_width fs
goal_behind_wide dialect rs ns first fs = conjunction_width (first ∷ goals_in dialect rs ns fs) ∙ omega (arith, form_goals_width dialect rs ns fs)

pub fresh_wide : (ts : Tables) (k p : ℕ) (g : Goal) → HasGoal ts p g → width (entry_goal ts (GoalEntry.fresh k p)) ≡ k + width g
fresh_wide ts k p g has = ap (λ x. k + width x) has.is

-- a program whose widest goal is narrow is small
pub all_narrow : (gs : List Goal) → widest gs < 2 ^ 21 → list_all is_narrow gs ≡ true
all_narrow [] few = refl
all_narrow (g ∷ gs) few = and_from (is_narrow g) (list_all is_narrow gs) (lt-ltb (width g) (2 ^ 21) (omega (arith, few))) (all_narrow gs (omega (arith, few)))
