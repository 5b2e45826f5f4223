-- What the terms that wait to be judged use.
use Rattle.std.specs.Prelude.{ℕ, ◌+◌, List, [], ◌∷◌, ◌++◌}
use Rattle.kan_terms.specs.Tree.{leaves}
use Rattle.kan_terms.specs.Table.{Table}
use Rattle.kan_grammar.specs.Texts.Sited.{Sited}
use Rattle.kan_grammar.specs.Texts.TermForms.{Use, variable, misshapen}
use Rattle.goal_forms.specs.Steps.TermSteps.{task_form, task_size}
use Rattle.goal_forms.specs.declared.term.Task.{Task}
use Rattle.goal_forms.specs.declared.term.Step.{Step}
use Rattle.goal_forms.specs.declared.term.Step.TheVariants.{Variable, Misshapen, Pair, Same}

-- what a step itself uses
abbrev pub own_uses : Step → List Use
own_uses (Variable at s) = variable at s ∷ []
own_uses (Misshapen at) = misshapen at ∷ []
own_uses s = []

-- what a task's term uses
abbrev pub task_uses : List Sited → Table → Task → List Use
task_uses ds t task = leaves (task_form ds t task)

-- what the terms of a step's tasks use
abbrev pub later_uses : List Sited → Table → Step → List Use
later_uses ds t (Pair a d) = task_uses ds t a ++ task_uses ds t d
later_uses ds t (Same a) = task_uses ds t a
later_uses ds t s = []

-- what the terms of the tasks on a stack use, the top first
abbrev pub waiting_uses : List Sited → Table → List Task → List Use
waiting_uses ds t [] = []
waiting_uses ds t (task ∷ tasks) = waiting_uses ds t tasks ++ task_uses ds t task

-- how many parts the tasks on a stack read at most
abbrev pub waiting_size : List Sited → List Task → ℕ
waiting_size ds [] = 0
waiting_size ds (task ∷ tasks) = waiting_size ds tasks + task_size ds task
