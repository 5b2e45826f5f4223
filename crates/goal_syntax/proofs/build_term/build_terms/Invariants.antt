use Rattle.std.proofs.Common.{◌≡◌, ◌≤◌, ◌+◌, ◌++◌, map, length, true}
use Rattle.kan_model.specs.Programs.Drafts.{tables, templates}
use Rattle.kan_model.specs.Programs.Tables.{template_at}
use Rattle.goal_forms.specs.Contexts.{terms_at}
use Rattle.goal_forms.specs.Places.{are_below}
use Rattle.goal_syntax.specs.Building.Entries.{entries, terms_size}
use Rattle.goal_syntax.specs.Building.InContext.{term_templates, KeepsLowIn, NamesIn}
use Rattle.goal_syntax.specs.Building.TermsLeft.{AddsTerms}
use Rattle.goal_syntax.proofs.build_term.build_terms.Given as goal

-- the templates so far and those of the terms that are left are all
abbrev pub invariant-loop-first : goal.invariant-loop-first
invariant-loop-first l = record {
  are : map (template_at (templates l.draft)) l.places.items
      ++ term_templates l.context l.scope l.place
      ≡ term_templates l.context l.scope l.fn.place;
  below : are_below (length (tables l.draft).terms) l.places.items ≡ true;
  named : NamesIn l.context l.fn.draft l.draft;
  few : entries (tables l.draft) + terms_size (terms_at l.context l.place)
      ≤ entries (tables l.fn.draft) + terms_size (terms_at l.context l.fn.place);
  adds : AddsTerms (tables l.fn.draft) (tables l.draft);
  low : KeepsLowIn l.context l.fn.draft l.draft;
}

abbrev pub decreases-loop-first : goal.decreases-loop-first
decreases-loop-first l = l.place
