use Rattle.std.proofs.Common.{◌≡◌, true}
use Rattle.pull_budget.specs.Seats.{view, IsSeatOf}
use Rattle.crew_tests.proofs.asking.ask_on.Given as goal

abbrev pub invariant-loop : goal.invariant-loop
invariant-loop l = IsSeatOf l.budget l.seat × ((view l.seat).puller ≡ true)
