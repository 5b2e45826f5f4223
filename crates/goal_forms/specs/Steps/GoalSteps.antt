-- What the goals that the code opens stand for.
use Rattle.std.specs.Prelude.{ℕ, ◌+◌, List}
use Rattle.kan_terms.specs.Table.{Table}
use Rattle.kan_grammar.specs.Texts.Sited.{Sited}
use Rattle.kan_grammar.specs.Texts.Binders.{binder, tag}
use Rattle.kan_grammar.specs.Texts.TermForms.{term_form}
use Rattle.kan_grammar.specs.Texts.GoalForms.{GoalForm, goal_forms, clause_forms, term_forms}
use Rattle.kan_grammar.specs.Texts.Resolved.{Names, within}
use Rattle.goal_forms.specs.Parts.{site_at}
use Rattle.goal_forms.specs.Steps.TermSteps.{site_size}
use Rattle.goal_forms.specs.declared.goal.Goal.{Goal}
use Rattle.goal_forms.specs.declared.goal.Goal.TheVariants.{Succeed, Fail, Same, Differ, Symbol}
use Rattle.goal_forms.specs.declared.goal.Goal.TheVariants.{Number, Text, Absent, Fresh, AllOf}
use Rattle.goal_forms.specs.declared.goal.Goal.TheVariants.{OneOf, Clauses, Call, Misshapen}

-- the goal that begins with a step
abbrev pub step_goal : List Sited → Table → Goal → GoalForm
step_goal ds t Succeed = GoalForm.succeed
step_goal ds t Fail = GoalForm.fail
step_goal ds t (Same a b) = GoalForm.same (term_form t (site_at ds a)) (term_form t (site_at ds b))
step_goal ds t (Differ a b) =
    GoalForm.differ (term_form t (site_at ds a)) (term_form t (site_at ds b))
step_goal ds t (Symbol a) = GoalForm.symbol (term_form t (site_at ds a))
step_goal ds t (Number a) = GoalForm.number (term_form t (site_at ds a))
step_goal ds t (Text a) = GoalForm.text (term_form t (site_at ds a))
step_goal ds t (Absent a b) = GoalForm.absent (tag t (site_at ds a)) (term_form t (site_at ds b))
step_goal ds t (Fresh b gs) =
    GoalForm.fresh (binder t (site_at ds b)) (goal_forms t (site_at ds gs))
step_goal ds t (AllOf gs) = GoalForm.all_of (goal_forms t (site_at ds gs))
step_goal ds t (OneOf gs) = GoalForm.one_of (goal_forms t (site_at ds gs))
step_goal ds t (Clauses cs) = GoalForm.clauses (clause_forms t (site_at ds cs))
step_goal ds t (Call at s args) = GoalForm.call at s (term_forms t (site_at ds args))
step_goal ds t (Misshapen at) = GoalForm.misshapen at

-- how many parts its goals and clauses have, and one more where it binds
abbrev pub step_goal_size : List Sited → Goal → ℕ
step_goal_size ds (Fresh b gs) = 1 + site_size (site_at ds gs)
step_goal_size ds (AllOf gs) = site_size (site_at ds gs)
step_goal_size ds (OneOf gs) = site_size (site_at ds gs)
step_goal_size ds (Clauses cs) = site_size (site_at ds cs)
step_goal_size ds g = 0

-- the names in scope of the goals in a goal
abbrev pub inner_names : Table → List Sited → Names → Goal → Names
inner_names t ds ns (Fresh b gs) = within ns (binder t (site_at ds b)).value
inner_names t ds ns g = ns
