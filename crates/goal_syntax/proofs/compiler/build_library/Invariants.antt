use Rattle.std.proofs.Common.{take}
use Rattle.kan_model.specs.Programs.Drafts.{tables}
use Rattle.goal_syntax.specs.Building.CallsThere.{bodies_named}
use Rattle.goal_syntax.specs.Building.Entries.{Adds}
use Rattle.goal_syntax.specs.Building.FormsBuilt.{AddsNames, AddsRelations}
use Rattle.goal_syntax.specs.Building.InContext.{forms_relations, forms_names, forms_entries}
use Rattle.goal_syntax.specs.Building.InContext.{widest_form, KeepsClosedIn, NamesIn}
use Rattle.goal_syntax.specs.Building.Widths.{Widens}
use Rattle.goal_syntax.proofs.compiler.build_library.Given as goal

-- the relations of the forms so far were added
abbrev pub invariant-loop-place : goal.invariant-loop-place
invariant-loop-place l = record {
  means : AddsRelations (tables l.fn.draft) (tables l.draft)
      (forms_relations l.context (take l.place-index l.forms));
  names : AddsNames (tables l.fn.draft) (tables l.draft)
      (forms_names l.context (take l.place-index l.forms));
  named : NamesIn l.context l.fn.draft l.draft;
  room : Adds (forms_entries l.context (take l.place-index l.forms))
      (tables l.fn.draft) (tables l.draft);
  narrow : Widens (widest_form l.context (take l.place-index l.forms))
      (tables l.fn.draft) (tables l.draft);
  closed : KeepsClosedIn l.context l.fn.draft l.draft
      (bodies_named (forms_relations l.context (take l.place-index l.forms)));
}
