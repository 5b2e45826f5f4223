use Rattle.std.proofs.Common.{ap, ◌∙◌}
use Rattle.kan_model.specs.Programs.Goals.{Goal}
use Rattle.goal_syntax.proofs.Building.CallsThereLaws.{and_true}
use Rattle.std.proofs.Common.{arith}
use Rattle.goal_syntax.proofs.Building.WidthLaws.{at_most}
use Rattle.kan_model.specs.Programs.Drafts.{goals}
use Rattle.goal_syntax.proofs.build_run.suspend_at.Goals as goal

pub returns-in_ok-later-in-All-clause-made : goal.returns-in_ok-later-in-All-clause-made
returns-in_ok-later-in-All-clause-made c = λ g has.
    rw c.in-All.is (record { there = c.in_ok-later-in-All.ensures.made.there; is = c.in_ok-later-in-All.ensures.made.is ∙ ap Goal.later has.is })

pub returns-in_ok-later-in-All-clause-called : goal.returns-in_ok-later-in-All-clause-called
returns-in_ok-later-in-All-clause-called c = λ rows. c.in_ok-later-in-All.ensures.called rows ∙ and_true _

pub returns-in_ok-later-in-All-clause-narrow : goal.returns-in_ok-later-in-All-clause-narrow
returns-in_ok-later-in-All-clause-narrow c = omega (arith, at_most (goals c.args.draft.now) c.args.goal, c.in_ok-later-in-All.ensures.narrow)
