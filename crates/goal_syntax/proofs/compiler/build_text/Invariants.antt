use Rattle.std.proofs.Common.{take}
use Rattle.kan_model.specs.Programs.Drafts.{tables}
use Rattle.goal_syntax.specs.Building.CallsThere.{all_named}
use Rattle.goal_syntax.specs.Building.Entries.{Adds}
use Rattle.goal_syntax.specs.Building.FormsBuilt.{AddsForms, AddsNames}
use Rattle.goal_syntax.specs.Building.InContext.{forms_relations, forms_queries, forms_names}
use Rattle.goal_syntax.specs.Building.InContext.{forms_entries, widest_form, KeepsClosedIn, NamesIn}
use Rattle.goal_syntax.specs.Building.Widths.{Widens}
use Rattle.goal_syntax.proofs.compiler.build_text.Given as goal

-- the relations and the runs of the forms so far were added
abbrev pub invariant-loop-place : goal.invariant-loop-place
invariant-loop-place l = record {
  means : AddsForms (tables l.fn.draft) (tables l.draft) l.fn.queries l.queries
      (forms_relations l.context (take l.place-index l.forms))
      (forms_queries l.context (take l.place-index l.forms));
  names : AddsNames (tables l.fn.draft) (tables l.draft)
      (forms_names l.context (take l.place-index l.forms));
  named : NamesIn l.context l.fn.draft l.draft;
  room : Adds (forms_entries l.context (take l.place-index l.forms))
      (tables l.fn.draft) (tables l.draft);
  narrow : Widens (widest_form l.context (take l.place-index l.forms))
      (tables l.fn.draft) (tables l.draft);
  closed : KeepsClosedIn l.context l.fn.draft l.draft
      (all_named (forms_relations l.context (take l.place-index l.forms))
      (forms_queries l.context (take l.place-index l.forms)));
}
