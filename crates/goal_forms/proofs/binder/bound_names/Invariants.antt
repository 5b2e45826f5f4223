use Rattle.std.proofs.Common.{◌≡◌, ◌≤◌, ◌+◌, ◌++◌, length}
use Rattle.kan_grammar.specs.Texts.Binders.{bound_names}
use Rattle.goal_forms.specs.Parts.{sites, site_at}
use Rattle.goal_forms.proofs.binder.bound_names.Given as goal

-- the names so far, and those of what is left, are all; there are at most as many as parts were passed
abbrev pub invariant-loop-first : goal.invariant-loop-first
invariant-loop-first l = record {
  names : l.bound.items ++ bound_names (site_at (sites l.flat) l.place) ≡ bound_names (site_at (sites l.flat) l.fn.place);
  few : length l.bound.items + l.place ≤ l.fn.place;
}

abbrev pub decreases-loop-first : goal.decreases-loop-first
decreases-loop-first l = l.place
