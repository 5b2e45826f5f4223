use Rattle.pull_budget.specs.Seats.{view}
use Rattle.crew.proofs.AskingLaws.{asked_stop}
use Rattle.crew.proofs.working.work.Goals as goal

pub loop-preserved : goal.loop-preserved
loop-preserved g c =
    let before = c.loop.invariant in
    record {
      seat = c.turn.ensures.seat;
      asked = c.turn.ensures.asked (view c.args.seat.now) (asked_stop _ _ _ _ _ c.stopped.ensures.view before.asked);
      home = c.turn.ensures.home;
      served = c.turn.ensures.served c.args.holder.now before.served;
    }
