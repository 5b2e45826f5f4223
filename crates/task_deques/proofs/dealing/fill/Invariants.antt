use Rattle.std.proofs.Common.{◌≡◌, ◌+◌, ◌-◌, ◌≤◌, [], length}
use Rattle.task_deques.specs.Holders.{parts_lent, AreReady}
use Rattle.task_deques.specs.InTurn.{AreGiven}
use Rattle.task_deques.proofs.dealing.fill.Given as goal

abbrev pub invariant-loop-step : goal.invariant-loop-step
invariant-loop-step g l = record {
  ready : AreReady l.home.numbers l.holders.items [];
  few : parts_lent l.holders.items ≤ parts_lent l.initial.holders.items + l.step;
  long : length l.holders.items ≡ length l.initial.holders.items;
  turns : AreGiven (length l.initial.holders.items) l.own (l.step - 1) l.holders.items;
}
