-- A prefix is taken inside what is unclosed.
use Rattle.std.proofs.Common.{◌+◌, refl}
use Rattle.sexpr.proofs.FrameLaws.{takes_prefix}
use Rattle.sexpr.proofs.enclosing.Enclosing.begin_prefixed.Goals as goal

pub returns-clause-taken : goal.returns-clause-taken
returns-clause-taken c = λ names. takes_prefix names c.args.self.now
    (record c.args.self.now { frames = c.push.new.self; depth = c.args.self.now.depth + 2 })
    c.args.kind c.args.at c.requires c.in_ok-may_begin.ensures.place c.in_ok-may_begin.ensures.depth refl c.in_ok-push.ensures.items c.in_ok-may_begin.ensures.place
