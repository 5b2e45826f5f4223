use Rattle.pull_budget.specs.Seats.{view, IsSeatOf}
use Rattle.task_deques.specs.Holders.{IsHolderOf}
use Rattle.susp_cells.specs.Tables.{home_of}
use Rattle.susp_cells.specs.Tables.{program_of}
use Rattle.crew.specs.Asking.{HasAsked}
use Rattle.crew.specs.Working.{HasServed}
use Rattle.crew.proofs.working.work.Given as goal

-- what it has done so far
abbrev pub invariant-loop : goal.invariant-loop
invariant-loop g l = record {
  seat : IsSeatOf l.fn.budget l.seat;
  asked : HasAsked (view l.initial.seat) (view l.seat) l.tally.taken;
  home : IsHolderOf (home_of l.fn.table) l.holder;
  served : HasServed (program_of l.fn.table) l.initial.holder l.holder l.tally.taken l.tally.dropped;
}
