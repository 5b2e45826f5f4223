-- What is made of the goals that are left to be built.
use Rattle.std.specs.Prelude.{ℕ, ◌+◌, true, false, List, [], ◌∷◌, length, take, Option, Some, None}
use Rattle.kan_terms.specs.Table.{Table}
use Rattle.kan_grammar.specs.declared.dialect.Dialect.{Dialect}
use Rattle.kan_grammar.specs.Texts.Sited.{Sited, site, is_proper}
use Rattle.kan_model.specs.Programs.Goals.{Goal}
use Rattle.kan_grammar.specs.Texts.Binders.{binder}
use Rattle.kan_grammar.specs.Texts.GoalForms.{GoalForm, GoalForms, all_of, misshapen, goal_form}
use Rattle.kan_grammar.specs.Texts.GoalForms.{goal_forms, clause_forms}
use Rattle.kan_grammar.specs.Texts.TopForms.{Defined}
use Rattle.kan_grammar.specs.Texts.Resolved.{Names, conjunction, disjunction, goal_in, goals_in}
use Rattle.kan_model.specs.Programs.Tables.{GoalEntry}
use Rattle.goal_forms.specs.Parts.{site_at}
use Rattle.goal_forms.specs.Steps.TermSteps.{site_size}
use Rattle.goal_syntax.specs.Building.GoalsBuilt.{Built, with_goal}
use Rattle.goal_forms.specs.Steps.GoalSteps.{step_goal}
use Rattle.goal_syntax.specs.Building.Widths.{goal_width, goals_width}
use Rattle.goal_syntax.specs.Building.Entries.{goal_size, goals_size, sides_size}
use Rattle.goal_forms.specs.declared.goal.Goal as opened
use Rattle.goal_forms.specs.declared.goal.Goal.TheVariants.{Fresh, AllOf, OneOf, Clauses}
use Rattle.kan_grammar.specs.declared.dialect.Dialect.TheVariants.{Book, All}
use Rattle.goal_syntax.specs.declared.join_goal.Row.{Row}
use Rattle.goal_syntax.specs.declared.join_goal.Row.TheVariants as rows
use Rattle.goal_syntax.specs.declared.build_goal.Work.{Work}
use Rattle.goal_syntax.specs.declared.build_goal.Work.TheVariants as works

-- a clause is a proper list of goals that hold together
abbrev pub clause_form : Table → Sited → GoalForm
clause_form t c = elim (is_proper c) [ true ↦ all_of (goal_forms t c) | false ↦ misshapen (site c) ]

-- the goals of a row, and what they are joined to
abbrev pub row_forms : Row → Table → Sited → GoalForms
row_forms rows.All t s = goal_forms t s
row_forms rows.One t s = goal_forms t s
row_forms rows.Clauses t s = clause_forms t s

abbrev pub row_goal : Row → List Goal → Goal
row_goal rows.All gs = conjunction gs
row_goal rows.One gs = disjunction gs
row_goal rows.Clauses gs = disjunction gs

-- the first goal of a row
abbrev pub first_form : Row → Table → Sited → GoalForm
first_form rows.All t s = goal_form t s
first_form rows.One t s = goal_form t s
first_form rows.Clauses t s = clause_form t s

-- two goals joined as those of a row
abbrev pub both_of : Row → Goal → Goal → Goal
both_of rows.All g h = Goal.both g h
both_of rows.One g h = Goal.either g h
both_of rows.Clauses g h = Goal.either g h

-- the two goals made last are joined
abbrev pub join_last : Row → List Goal → List Goal
join_last row [] = []
join_last row (h ∷ []) = []
join_last row (h ∷ g ∷ made) = both_of row g h ∷ made

-- the goal made last gets slots of its own
abbrev pub fresh_last : ℕ → List Goal → List Goal
fresh_last k [] = []
fresh_last k (g ∷ made) = Goal.fresh k g ∷ made

-- the goal made last suspends
abbrev pub later_last : List Goal → List Goal
later_last [] = []
later_last (g ∷ made) = Goal.later g ∷ made

-- so for what was built
abbrev pub with_last_joined : Row → Built → Built
with_last_joined row b = record b { made = join_last row b.made }

abbrev pub with_last_fresh : ℕ → Built → Built
with_last_fresh k b = record b { made = fresh_last k b.made }

-- the goal built last suspends, in the dialect in which fresh and conde do
abbrev pub with_last_suspended : Dialect → Built → Built
with_last_suspended Book b = b
with_last_suspended All b = record b { made = later_last b.made }

-- the work on the first element of a row, and on the others, where there are any; the entries of an
-- empty row, and of two goals that are joined
abbrev pub first_work : Row → ℕ → Work
first_work rows.All p = works.Goal p
first_work rows.One p = works.Goal p
first_work rows.Clauses p = works.Clause p

abbrev pub other_works : Row → ℕ → Option (Sited × Sited) → List Work
other_works row rest None = []
other_works row rest (Some p) = works.Join row ∷ works.Row row rest ∷ []

abbrev pub empty_entry : Row → GoalEntry
empty_entry rows.All = GoalEntry.succeed
empty_entry rows.One = GoalEntry.fail
empty_entry rows.Clauses = GoalEntry.fail

abbrev pub join_entry : Row → ℕ → ℕ → GoalEntry
join_entry rows.All g h = GoalEntry.both g h
join_entry rows.One g h = GoalEntry.either g h
join_entry rows.Clauses g h = GoalEntry.either g h

-- what is made once all work on a stack is done, the top first
abbrev pub finish : Dialect → List Defined → Table → List Sited → Names → List Work → Built → Built
finish dialect rs t ds ns [] b = b
finish dialect rs t ds ns (works.Goal p ∷ ws) b =
    finish dialect rs t ds ns ws (with_goal (goal_in dialect rs ns (goal_form t (site_at ds p))) b)
finish dialect rs t ds ns (works.Clause p ∷ ws) b =
    finish dialect rs t ds ns ws
    (with_goal (goal_in dialect rs ns (clause_form t (site_at ds p))) b)
finish dialect rs t ds ns (works.Row row p ∷ ws) b =
    finish dialect rs t ds ns ws
    (with_goal (row_goal row (goals_in dialect rs ns (row_forms row t (site_at ds p)))) b)
finish dialect rs t ds ns (works.Join row ∷ ws) b =
    finish dialect rs t ds ns ws (with_last_joined row b)
finish dialect rs t ds ns (works.Fresh k ∷ ws) b =
    finish dialect rs t ds ns ws (with_last_fresh k b)
finish dialect rs t ds ns (works.Suspend ∷ ws) b =
    finish dialect rs t ds ns ws (with_last_suspended dialect b)
finish dialect rs t ds ns (works.Leave n ∷ ws) b = finish dialect rs t ds (take n ns) ws b

-- how much work a row is, a goal and a clause
abbrev pub row_size : Sited → ℕ
row_size s = site_size s + site_size s + site_size s

abbrev pub work_size : List Sited → Work → ℕ
work_size ds (works.Goal p) = row_size (site_at ds p)
work_size ds (works.Clause p) = 1 + row_size (site_at ds p)
work_size ds (works.Row row p) = row_size (site_at ds p)
work_size ds w = 1

abbrev pub works_size : List Sited → List Work → ℕ
works_size ds [] = 0
works_size ds (w ∷ ws) = work_size ds w + works_size ds ws

-- how many entries at most are made of a piece of work, with the names that it binds, and of all
-- that is left
abbrev pub work_entries : Table → List Sited → Work → ℕ
work_entries t ds (works.Goal p) = goal_size (goal_form t (site_at ds p))
work_entries t ds (works.Clause p) = goal_size (clause_form t (site_at ds p))
work_entries t ds (works.Row row p) = goals_size (row_forms row t (site_at ds p))
work_entries t ds (works.Leave n) = 0
work_entries t ds w = 1

abbrev pub works_entries : Table → List Sited → List Work → ℕ
works_entries t ds [] = 0
works_entries t ds (w ∷ ws) = work_entries t ds w + works_entries t ds ws

-- those of the node of a goal that has no goals in it, with its terms
abbrev pub own_size : Table → List Sited → opened.Goal → ℕ
own_size t ds (Fresh b gs) = 0
own_size t ds (AllOf gs) = 0
own_size t ds (OneOf gs) = 0
own_size t ds (Clauses cs) = 0
own_size t ds g = 1 + sides_size (step_goal ds t g)

-- how wide the goals of a piece of work are, and those of all that is left
abbrev pub work_width : Table → List Sited → Work → ℕ
work_width t ds (works.Goal p) = goal_width (goal_form t (site_at ds p))
work_width t ds (works.Clause p) = goal_width (clause_form t (site_at ds p))
work_width t ds (works.Row row p) = goals_width (row_forms row t (site_at ds p))
work_width t ds (works.Fresh k) = k
work_width t ds w = 0

abbrev pub works_width : Table → List Sited → List Work → ℕ
works_width t ds [] = 0
works_width t ds (w ∷ ws) = work_width t ds w + works_width t ds ws

-- the work that a goal leaves, the last on top
abbrev pub inner_works : Table → List Sited → Names → opened.Goal → List Work
inner_works t ds ns (Fresh b gs) =
    works.Suspend ∷ works.Fresh (length (binder t (site_at ds b)).value) ∷ works.Leave (length ns)
    ∷ works.Row rows.All gs ∷ []
inner_works t ds ns (AllOf gs) = works.Row rows.All gs ∷ []
inner_works t ds ns (OneOf gs) = works.Row rows.One gs ∷ []
inner_works t ds ns (Clauses cs) = works.Suspend ∷ works.Row rows.Clauses cs ∷ []
inner_works t ds ns g = []
