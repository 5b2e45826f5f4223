use Rattle.pull_budget.specs.Seats.{view, IsSeatOf}
use Rattle.crew.specs.Asking.{HasAsked}
use Rattle.crew.proofs.asking.ask.Given as goal

-- it has won nothing yet
abbrev pub invariant-loop : goal.invariant-loop
invariant-loop g l = IsSeatOf l.budget l.seat × HasAsked (view l.initial.seat) (view l.seat) 0
