use Rattle.std.proofs.Common.{◌≡◌, ◌≤◌, ◌+◌, take}
use Rattle.kan_model.specs.Programs.Drafts.{tables}
use Rattle.goal_syntax.specs.Building.TermsLeft.{AddsTerms, with_arguments}
use Rattle.goal_syntax.specs.Building.Entries.{entries}
use Rattle.goal_syntax.specs.Building.Named.{Lacks}
use Rattle.kan_terms.specs.Table.{Table}
use Rattle.goal_syntax.proofs.build_term.put_behind.Given as goal

-- the terms so far are behind the arguments that were there
abbrev pub invariant-loop-term : goal.invariant-loop-term
invariant-loop-term l = record {
  put : tables l.draft ≡ with_arguments (tables l.fn.draft) (take l.term-index l.terms);
  named : (names : Table) → Lacks names 0 (tables l.fn.draft) (tables l.draft);
  few : entries (tables l.draft) ≤ entries (tables l.fn.draft) + l.term-index;
  adds : AddsTerms (tables l.fn.draft) (tables l.draft);
}
