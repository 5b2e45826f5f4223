use Rattle.std.proofs.Common.{◌≡◌, ◌++◌, map, take}
use Rattle.kanren_run.specs.Writing.{answer_lines}
use Rattle.kanren_run.proofs.writing.print_answers.Given as goal

-- the lines of the answers so far are added
abbrev pub invariant-loop-store : goal.invariant-loop-store
invariant-loop-store g l = l.lines.items ≡ l.fn.lines.items ++ answer_lines l.names (map g.St.Store.meaning (take l.store-index l.answers))
