-- That all templates which are left to be built, and all their parts, are low.
use Rattle.std.specs.Prelude.{◌≡◌, ℕ, Bool, true, ◌&&◌, List, [], ◌∷◌}
use Rattle.std.specs.List.{list_all}
use Rattle.kan_terms.specs.Table.{Table}
use Rattle.kan_model.specs.Programs.Goals.{Template}
use Rattle.kan_grammar.specs.Texts.Sited.{Sited}
use Rattle.kan_model.specs.Programs.Scope.{is_low}
use Rattle.kan_grammar.specs.Texts.Resolved.{Names, template_in}
use Rattle.goal_syntax.specs.Building.TermsLeft.{stack_templates, pair_of_last_two}
use Rattle.goal_forms.specs.Steps.TermSteps.{task_form}
use Rattle.goal_syntax.specs.declared.build_term.Work.{Work}
use Rattle.goal_syntax.specs.declared.build_term.Work.TheVariants.{Term, Pair}

-- all templates are low that are built while the work on a stack is done, the top first, and those
-- built before
abbrev pub all_low : List Sited → Table → Names → List Work → List Template → Bool
all_low ds t ns [] made = list_all is_low made
all_low ds t ns (Term task ∷ ws) made =
    all_low ds t ns ws (template_in ns (task_form ds t task) ∷ made)
all_low ds t ns (Pair ∷ ws) made =
    list_all is_low made && all_low ds t ns ws (pair_of_last_two made)

-- with those of a table
pub record WorksLow (ds : List Sited) (t : Table) (ns : Names) (ws : List Work) (ts : List Template)
    (places : List ℕ) : Type 0 where
  pub left : all_low ds t ns ws (stack_templates ts places) ≡ true
  pub there : list_all is_low ts ≡ true
