use Rattle.std.proofs.Common.{sym, ◌∙◌, ap}
use Rattle.kan_solving.specs.Solving.{work_of}
use Rattle.kan_solving.proofs.SolvingSteps.{parts_step}
use Rattle.kan_solving.proofs.solving.step.Goals as goal

pub returns-in-Parts : goal.returns-in-Parts
returns-in-Parts g c =
    parts_step c.args.pending.now.items _ c.push-in-Parts.new.self.items c.in-Parts.first c.in-Parts.rest _ _ (sym c.in_ok-work_on.ensures ∙ ap work_of c.in-Parts.is)
    c.in_ok-push-in-Parts.ensures.items c.in_ok-push-in-Parts-2.ensures.items
