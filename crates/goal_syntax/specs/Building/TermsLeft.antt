-- What is made of the terms that are left to be built.
use Rattle.std.specs.Prelude.{◌≡◌, ℕ, ◌+◌, true, List, [], ◌∷◌, ◌++◌, length, map}
use Rattle.kan_terms.specs.Tree.{Tree, size}
use Rattle.kan_terms.specs.Table.{Table}
use Rattle.kan_model.specs.Programs.Goals.{Template}
use Rattle.kan_grammar.specs.Texts.Sited.{Sited}
use Rattle.kan_model.specs.Programs.Tables.{Tables, template_at, templates_of}
use Rattle.kan_grammar.specs.Texts.Resolved.{Names, template_in}
use Rattle.goal_syntax.specs.Building.GrownTables.{Grows}
use Rattle.goal_forms.specs.Places.{are_below}
use Rattle.goal_forms.specs.Steps.TermSteps.{task_form, task_size}
use Rattle.goal_syntax.specs.declared.build_term.Work.{Work}
use Rattle.goal_syntax.specs.declared.build_term.Work.TheVariants.{Term, Pair}

-- templates and arguments came to tables
pub record AddsTerms (ts us : Tables) : Type 0 where
  pub grows : Grows ts us
  pub same : us.goals ≡ ts.goals

-- the templates at places
pub record HasTemplates (ts : Tables) (ps : List ℕ) (us : List Template) : Type 0 where
  pub below : are_below (length ts.terms) ps ≡ true
  pub are : map (template_at (templates_of ts.terms)) ps ≡ us

-- tables with some arguments more
abbrev pub with_arguments : Tables → List ℕ → Tables
with_arguments ts ps = record ts { arguments = ts.arguments ++ ps }

-- the templates at the places on a stack, the top first
abbrev pub stack_templates : List Template → List ℕ → List Template
stack_templates ts [] = []
stack_templates ts (p ∷ ps) = stack_templates ts ps ++ template_at ts p ∷ []

-- the pair of the two templates built last
abbrev pub pair_of_last_two : List Template → List Template
pair_of_last_two [] = []
pair_of_last_two (d ∷ []) = []
pair_of_last_two (d ∷ a ∷ made) = Tree.pair a d ∷ made

-- what is built once all work on a stack is done, the top first, and the template built last
abbrev pub finish : List Sited → Table → Names → List Work → List Template → List Template
finish ds t ns [] made = made
finish ds t ns (Term task ∷ ws) made =
    finish ds t ns ws (template_in ns (task_form ds t task) ∷ made)
finish ds t ns (Pair ∷ ws) made = finish ds t ns ws (pair_of_last_two made)

-- how much work is left at most
abbrev pub work_size : List Sited → Work → ℕ
work_size ds (Term task) = task_size ds task + task_size ds task
work_size ds Pair = 1

abbrev pub works_size : List Sited → List Work → ℕ
works_size ds [] = 0
works_size ds (w ∷ ws) = work_size ds w + works_size ds ws

-- how many entries are made of a piece of work, and of all that is left
abbrev pub work_entries : List Sited → Table → Work → ℕ
work_entries ds t (Term task) = size (task_form ds t task)
work_entries ds t Pair = 1

abbrev pub works_entries : List Sited → Table → List Work → ℕ
works_entries ds t [] = 0
works_entries ds t (w ∷ ws) = work_entries ds t w + works_entries ds t ws
