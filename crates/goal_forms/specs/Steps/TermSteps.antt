-- What the tasks and steps by which terms are opened stand for.
use Rattle.std.specs.Prelude.{ℕ, ◌+◌, true, false, List}
use Rattle.kan_terms.specs.Tree.{Tree}
use Rattle.kan_terms.specs.Table.{Table}
use Rattle.kan_grammar.specs.Texts.Sited.{Sited, is_proper, constant}
use Rattle.kan_grammar.specs.Texts.TermForms.{Use, TermForm, bad_term, term_form, list_form}
use Rattle.kan_grammar.specs.Texts.TermForms.{template_form}
use Rattle.goal_forms.specs.Parts.{site_at}
use Rattle.goal_forms.specs.declared.term.Task.{Task}
use Rattle.goal_forms.specs.declared.term.Task.TheVariants.{Term, Terms, Template, Constant}
use Rattle.goal_forms.specs.declared.term.Step.{Step}
use Rattle.goal_forms.specs.declared.term.Step.TheVariants.{Variable, Misshapen, Symbol, Text}
use Rattle.goal_forms.specs.declared.term.Step.TheVariants.{Number, Truth, Nil, Pair, Same}

-- a list of terms, where the parts behind its head are a proper list
abbrev pub proper_list_form : Table → ℕ → Sited → TermForm
proper_list_form t at parts =
    elim (is_proper parts) [ true ↦ list_form t parts | false ↦ bad_term at ]

-- the term of a task
abbrev pub task_form : List Sited → Table → Task → TermForm
task_form ds t (Term place) = term_form t (site_at ds place)
task_form ds t (Terms place) = list_form t (site_at ds place)
task_form ds t (Template place) = template_form t (site_at ds place)
task_form ds t (Constant place) = constant (site_at ds place)

-- the term that begins with a step
abbrev pub step_form : List Sited → Table → Step → TermForm
step_form ds t (Variable at s) = Tree.leaf (Use.variable at s)
step_form ds t (Misshapen at) = bad_term at
step_form ds t (Symbol s) = Tree.sym s
step_form ds t (Text s) = Tree.str s
step_form ds t (Number n) = Tree.num n
step_form ds t (Truth b) = Tree.truth b
step_form ds t Nil = Tree.nil
step_form ds t (Pair a d) = Tree.pair (task_form ds t a) (task_form ds t d)
step_form ds t (Same a) = task_form ds t a

-- how many parts a datum has
abbrev pub site_size : Sited → ℕ
site_size (Sited.pair at a d) = 1 + site_size a + site_size d
site_size d = 1

-- how many parts a task reads at most, and those of a step
abbrev pub task_size : List Sited → Task → ℕ
task_size ds (Term place) = site_size (site_at ds place)
task_size ds (Terms place) = site_size (site_at ds place)
task_size ds (Template place) = site_size (site_at ds place)
task_size ds (Constant place) = site_size (site_at ds place)

abbrev pub step_size : List Sited → Step → ℕ
step_size ds (Pair a d) = task_size ds a + task_size ds d
step_size ds (Same a) = task_size ds a
step_size ds s = 0
