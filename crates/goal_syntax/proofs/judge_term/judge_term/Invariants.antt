use Rattle.std.proofs.Common.{◌≡◌, ◌++◌}
use Rattle.std.specs.List.{flat_map}
use Rattle.kan_grammar.specs.Texts.TextFaults.{use_faults, term_faults}
use Rattle.goal_syntax.specs.Judging.FaultLists.{fault_list}
use Rattle.goal_forms.specs.Parts.{sites}
use Rattle.goal_forms.specs.Steps.TermSteps.{task_form}
use Rattle.goal_syntax.specs.Judging.TermsLeft.{waiting_uses, waiting_size}
use Rattle.goal_syntax.proofs.judge_term.judge_term.Given as goal

-- the faults that were noted and those of what waits are all faults
abbrev pub invariant-loop-next : goal.invariant-loop-next
invariant-loop-next l =
    fault_list l.faults.items ++ flat_map (use_faults l.scope) (waiting_uses (sites l.flat) l.names l.waiting.items)
    ≡ fault_list l.fn.faults.items ++ term_faults l.scope (task_form (sites l.flat) l.names l.fn.task)

abbrev pub decreases-loop-next : goal.decreases-loop-next
decreases-loop-next l = waiting_size (sites l.flat) l.waiting.items
