use Rattle.std.proofs.Common.{◌≡◌, ◌*◌, ◌≤◌, [], length}
use Rattle.task_deques.specs.Holders.{parts_lent, AreReady}
use Rattle.task_deques.specs.InTurn.{AreGiven}
use Rattle.task_deques.proofs.dealing.all_holders.Given as goal

abbrev pub invariant-loop-own : goal.invariant-loop-own
invariant-loop-own g l = record {
  ready : AreReady l.home.numbers l.all.items [];
  few : parts_lent l.all.items ≤ l.own * 65;
  long : length l.all.items ≡ l.count;
  turns : AreGiven l.count l.own 0 l.all.items;
}
