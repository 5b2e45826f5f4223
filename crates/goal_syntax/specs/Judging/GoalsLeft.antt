-- The faults of what waits to be judged.
use Rattle.std.specs.Prelude.{ℕ, ◌+◌, List, [], ◌∷◌, ◌++◌, length, take}
use Rattle.std.specs.List.{flat_map}
use Rattle.kan_refusals.specs.declared.refusals.Refusal.{Refusal}
use Rattle.kan_terms.specs.Table.{Table}
use Rattle.kan_grammar.specs.Texts.Sited.{Sited}
use Rattle.kan_grammar.specs.Data.Faults.{Fault, fault}
use Rattle.kan_grammar.specs.Texts.Binders.{binder, tag}
use Rattle.kan_grammar.specs.Texts.TermForms.{term_form}
use Rattle.kan_grammar.specs.Texts.GoalForms.{goal_form, goal_forms, clause_forms, term_forms}
use Rattle.kan_grammar.specs.Texts.TopForms.{Defined}
use Rattle.kan_grammar.specs.Texts.Resolved.{Names, arity, within}
use Rattle.kan_grammar.specs.Texts.TextFaults.{term_faults, call_faults, goal_faults, goals_faults}
use Rattle.goal_forms.specs.Parts.{site_at}
use Rattle.goal_forms.specs.Steps.TermSteps.{site_size}
use Rattle.goal_forms.specs.declared.goal.Goal as opened
use Rattle.goal_forms.specs.declared.goal.Goal.TheVariants.{Same, Differ, Symbol, Number, Text}
use Rattle.goal_forms.specs.declared.goal.Goal.TheVariants.{Absent, Fresh, AllOf, OneOf, Clauses}
use Rattle.goal_forms.specs.declared.goal.Goal.TheVariants.{Call, Misshapen}
use Rattle.goal_syntax.specs.declared.judge_goal.Waiting.{Waiting}
use Rattle.goal_syntax.specs.declared.judge_goal.Waiting.TheVariants as waiting

-- the faults of a goal's terms, of its head and of its shape
abbrev pub own_faults : List Defined → Table → List Sited → Names → opened.Goal → List Fault
own_faults rs t ds ns (Same a b) =
    term_faults ns (term_form t (site_at ds a)) ++ term_faults ns (term_form t (site_at ds b))
own_faults rs t ds ns (Differ a b) =
    term_faults ns (term_form t (site_at ds a)) ++ term_faults ns (term_form t (site_at ds b))
own_faults rs t ds ns (Symbol a) = term_faults ns (term_form t (site_at ds a))
own_faults rs t ds ns (Number a) = term_faults ns (term_form t (site_at ds a))
own_faults rs t ds ns (Text a) = term_faults ns (term_form t (site_at ds a))
own_faults rs t ds ns (Absent a b) =
    (tag t (site_at ds a)).faults ++ term_faults ns (term_form t (site_at ds b))
own_faults rs t ds ns (Call at s args) =
    call_faults (arity rs s) at (length (term_forms t (site_at ds args)))
    ++ flat_map (term_faults ns) (term_forms t (site_at ds args))
own_faults rs t ds ns (Misshapen at) = fault at Refusal.BadShape ∷ []
own_faults rs t ds ns g = []

-- the faults of its binder, and of its goals
abbrev pub inner_faults : List Defined → Table → List Sited → Names → opened.Goal → List Fault
inner_faults rs t ds ns (Fresh b gs) =
    (binder t (site_at ds b)).faults ++ goals_faults rs (within ns (binder t (site_at ds b)).value)
    (goal_forms t (site_at ds gs))
inner_faults rs t ds ns (AllOf gs) = goals_faults rs ns (goal_forms t (site_at ds gs))
inner_faults rs t ds ns (OneOf gs) = goals_faults rs ns (goal_forms t (site_at ds gs))
inner_faults rs t ds ns (Clauses cs) = goals_faults rs ns (clause_forms t (site_at ds cs))
inner_faults rs t ds ns g = []

-- the faults of what waits, the top first; a scope is left where that waits
abbrev pub stack_faults : List Defined → Table → List Sited → Names → List Waiting → List Fault
stack_faults rs t ds ns [] = []
stack_faults rs t ds ns (waiting.Goal g ∷ later) =
    goal_faults rs ns (goal_form t (site_at ds g)) ++ stack_faults rs t ds ns later
stack_faults rs t ds ns (waiting.Goals gs ∷ later) =
    goals_faults rs ns (goal_forms t (site_at ds gs)) ++ stack_faults rs t ds ns later
stack_faults rs t ds ns (waiting.Clauses cs ∷ later) =
    goals_faults rs ns (clause_forms t (site_at ds cs)) ++ stack_faults rs t ds ns later
stack_faults rs t ds ns (waiting.Leave n ∷ later) = stack_faults rs t ds (take n ns) later

-- how many parts what waits reads at most
abbrev pub waiting_parts : List Sited → Waiting → ℕ
waiting_parts ds (waiting.Goal g) = site_size (site_at ds g)
waiting_parts ds (waiting.Goals gs) = site_size (site_at ds gs)
waiting_parts ds (waiting.Clauses cs) = site_size (site_at ds cs)
waiting_parts ds (waiting.Leave n) = 1

abbrev pub stack_parts : List Sited → List Waiting → ℕ
stack_parts ds [] = 0
stack_parts ds (w ∷ ws) = waiting_parts ds w + stack_parts ds ws

-- what waits of a goal, the last on top; and the faults of its binder
abbrev pub inner_waiting : Names → opened.Goal → List Waiting
inner_waiting ns (Fresh b gs) = waiting.Leave (length ns) ∷ waiting.Goals gs ∷ []
inner_waiting ns (AllOf gs) = waiting.Goals gs ∷ []
inner_waiting ns (OneOf gs) = waiting.Goals gs ∷ []
inner_waiting ns (Clauses cs) = waiting.Clauses cs ∷ []
inner_waiting ns g = []

abbrev pub fresh_faults : Table → List Sited → opened.Goal → List Fault
fresh_faults t ds (Fresh b gs) = (binder t (site_at ds b)).faults
fresh_faults t ds g = []
