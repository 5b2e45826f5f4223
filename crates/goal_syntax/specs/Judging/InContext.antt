-- The faults of what waits in a context.
use Rattle.std.specs.Prelude.{List}
use Rattle.kan_grammar.specs.Data.Faults.{Fault}
use Rattle.kan_grammar.specs.Texts.Resolved.{Names}
use Rattle.goal_forms.specs.Contexts.{data_of, defined_in}
use Rattle.goal_forms.specs.declared.context.Context.{Context}
use Rattle.goal_forms.specs.declared.goal.Goal as opened
use Rattle.goal_syntax.specs.Judging.GoalsLeft.{own_faults, stack_faults}
use Rattle.goal_syntax.specs.declared.judge_goal.Waiting.{Waiting}

-- the faults of what waits, the top first, where these names are in scope
abbrev pub faults_left : Context → Names → List Waiting → List Fault
faults_left context scope waiting =
    stack_faults (defined_in context) context.names.now (data_of context) scope waiting

-- the faults of a goal's terms, of its head and of its shape
abbrev pub faults_alone : Context → Names → opened.Goal → List Fault
faults_alone context scope goal =
    own_faults (defined_in context) context.names.now (data_of context) scope goal
