use Rattle.std.proofs.Common.{◌≡◌, false}
use Rattle.pull_budget.specs.Seats.{view, IsSeatOf}
use Rattle.crew_tests.proofs.asking.ask.Given as goal

abbrev pub invariant-loop : goal.invariant-loop
invariant-loop g l = IsSeatOf l.budget l.seat × ((view l.seat).puller ≡ false)
