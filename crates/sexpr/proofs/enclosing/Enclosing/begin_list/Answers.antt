-- A list is opened inside what is unclosed.
use Rattle.std.proofs.Common.{◌+◌, refl}
use Rattle.sexpr.proofs.FrameLaws.{takes_opening}
use Rattle.sexpr.proofs.enclosing.Enclosing.begin_list.Goals as goal

pub returns-clause-taken : goal.returns-clause-taken
returns-clause-taken c = λ names. takes_opening names c.args.self.now
    (record c.args.self.now { frames = c.push.new.self; depth = c.args.self.now.depth + 1 })
    (record { at = c.args.at; shape = c.args.shape; items = c.new-items.result })
    c.args.at c.requires c.in_ok-may_begin.ensures.place c.in_ok-may_begin.ensures.depth c.new-items.ensures refl refl c.in_ok-push.ensures.items c.in_ok-may_begin.ensures.place
