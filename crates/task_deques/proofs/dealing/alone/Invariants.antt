use Rattle.std.proofs.Common.{◌≡◌, length}
use Rattle.task_deques.specs.Whole.{Every}
use Rattle.task_deques.specs.Holders.{IsLoneHolder}
use Rattle.task_deques.proofs.dealing.alone.Given as goal

abbrev pub invariant-loop : goal.invariant-loop
invariant-loop g l = Every (IsLoneHolder l.home.numbers) l.holders.items × (length l.holders.items ≡ l.counter)
