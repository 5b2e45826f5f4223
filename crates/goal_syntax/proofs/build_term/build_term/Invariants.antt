use Rattle.std.proofs.Common.{◌≡◌, ◌≤◌, ◌+◌, ◌∷◌, [], reverse, length, true}
use Rattle.kan_model.specs.Programs.Drafts.{tables, templates}
use Rattle.kan_grammar.specs.Texts.Resolved.{template_in}
use Rattle.goal_syntax.specs.Building.TermsLeft.{AddsTerms, stack_templates, finish, works_size, works_entries}
use Rattle.std.specs.List.{list_all}
use Rattle.kan_model.specs.Programs.Scope.{is_low}
use Rattle.goal_syntax.specs.Building.TermHeights.{WorksLow}
use Rattle.kan_terms.specs.Tree.{size}
use Rattle.goal_syntax.specs.Building.Entries.{entries}
use Rattle.goal_forms.specs.Heights.{AreLow}
use Rattle.goal_forms.specs.Parts.{sites}
use Rattle.goal_forms.specs.Steps.TermSteps.{task_form}
use Rattle.goal_forms.specs.Places.{are_below}
use Rattle.goal_syntax.specs.Building.Named.{Lacks, data_unnamed}
use Rattle.goal_syntax.proofs.build_term.build_term.Given as goal

-- what is built once all work is done is the task's template alone
abbrev pub invariant-loop-work : goal.invariant-loop-work
invariant-loop-work l = record {
  made : finish (sites l.context.flat.now) l.context.names.now l.scope (reverse l.works.items) (stack_templates (templates l.draft) l.places.items) ≡ template_in l.scope (task_form (sites l.context.flat.now) l.context.names.now l.fn.task) ∷ [];
  below : are_below (length (tables l.draft).terms) l.places.items ≡ true;
  named : Lacks l.context.names.now (data_unnamed l.context.names.now (sites l.context.flat.now)) (tables l.fn.draft) (tables l.draft);
  few : entries (tables l.draft) + works_entries (sites l.context.flat.now) l.context.names.now l.works.items ≤ entries (tables l.fn.draft) + size (task_form (sites l.context.flat.now) l.context.names.now l.fn.task);
  adds : AddsTerms (tables l.fn.draft) (tables l.draft);
  low : AreLow (sites l.context.flat.now) → list_all is_low (templates l.fn.draft) ≡ true →
      WorksLow (sites l.context.flat.now) l.context.names.now l.scope (reverse l.works.items) (templates l.draft) l.places.items;
}

abbrev pub decreases-loop-work : goal.decreases-loop-work
decreases-loop-work l = works_size (sites l.context.flat.now) l.works.items
