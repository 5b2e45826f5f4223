use Rattle.std.proofs.Common.{sym, ◌∙◌}
use Rattle.reify.proofs.ShapeLaws.{spelled_whole}
use Rattle.reify.proofs.answers.Answer.term.Goals as goal

pub returns-clause-shapes : goal.returns-clause-shapes
returns-clause-shapes c = c.items.ensures ∙ sym (spelled_whole c.args.self.now.term c.args.self.now.one)
