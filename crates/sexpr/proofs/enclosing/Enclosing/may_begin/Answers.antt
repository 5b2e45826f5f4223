-- Below the greatest depth nothing may begin.
use Rattle.sexpr.proofs.FrameLaws.{refused_deep}
use Rattle.sexpr.proofs.enclosing.Enclosing.may_begin.Goals as goal

pub returns-then-self-gt-DEEPEST-clause-refused : goal.returns-then-self-gt-DEEPEST-clause-refused
returns-then-self-gt-DEEPEST-clause-refused c = λ t b names. refused_deep names c.args.self.now c.args.at c.requires c.in_default.is c.if-self-gt-DEEPEST.true t b
