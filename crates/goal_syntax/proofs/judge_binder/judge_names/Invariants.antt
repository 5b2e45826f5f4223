use Rattle.std.proofs.Common.{◌≡◌, ◌++◌, []}
use Rattle.kan_grammar.specs.Texts.Binders.{names_faults}
use Rattle.goal_syntax.specs.Judging.FaultLists.{fault_list}
use Rattle.goal_forms.specs.Parts.{sites, site_at}
use Rattle.goal_syntax.proofs.judge_binder.judge_names.Given as goal

-- the faults so far, and those of what is left, are all
abbrev pub invariant-loop-first : goal.invariant-loop-first
invariant-loop-first l = fault_list l.faults.items ++ names_faults l.names l.before.items (site_at (sites l.flat) l.place)
    ≡ fault_list l.fn.faults.items ++ names_faults l.names [] (site_at (sites l.flat) l.fn.place)

abbrev pub decreases-loop-first : goal.decreases-loop-first
decreases-loop-first l = l.place
