use Rattle.std.proofs.Common.{◌≡◌, true, ◌+◌, ◌≤◌, drop, length}
use Rattle.kan_model.specs.Programs.Drafts.{tables, templates}
use Rattle.kan_model.specs.Programs.Scope.{is_low}
use Rattle.std.specs.List.{list_all}
use Rattle.kan_grammar.specs.Texts.ProgramText.{slot_list}
use Rattle.goal_syntax.specs.Building.TermsLeft.{AddsTerms}
use Rattle.goal_syntax.specs.Building.Entries.{entries}
use Rattle.goal_syntax.specs.Building.GrownTables.{HasTemplate}
use Rattle.goal_syntax.specs.Building.Named.{Lacks}
use Rattle.kan_terms.specs.Table.{Table}
use Rattle.goal_syntax.proofs.build_term.build_slots.Given as goal

-- the list so far has the slots behind this one
abbrev pub invariant-loop-slot : goal.invariant-loop-slot
invariant-loop-slot l = record {
  within : l.slot ≤ length l.bound;
  made : HasTemplate (tables l.draft) l.list (slot_list (l.slot + 1) (drop l.slot l.bound));
  named : (names : Table) → Lacks names 0 (tables l.fn.draft) (tables l.draft);
  few : entries (tables l.draft) + l.slot + l.slot ≤ entries (tables l.fn.draft) + (1 + length l.bound + length l.bound);
  adds : AddsTerms (tables l.fn.draft) (tables l.draft);
  low : length l.bound ≤ 2048 → list_all is_low (templates l.fn.draft) ≡ true → list_all is_low (templates l.draft) ≡ true;
}

abbrev pub decreases-loop-slot : goal.decreases-loop-slot
decreases-loop-slot l = l.slot
