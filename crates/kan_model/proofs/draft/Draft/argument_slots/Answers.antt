use Rattle.std.proofs.Common.{ap, ◌∙◌}
use Rattle.std.specs.Prelude.{max}
use Rattle.kan_model.specs.Programs.Drafts.{templates}
use Rattle.kan_model.proofs.Programs.NoteLaws.{slots-step}
use Rattle.kan_model.proofs.draft.Draft.argument_slots.Goals as goal

pub loop-term-preserved : goal.loop-term-preserved
loop-term-preserved c =
    c.max-most.ensures ∙ ap (λ n. max n c.loop-term.most) c.one_slots.ensures
    ∙ slots-step (templates c.args.self.now) _ c.loop-term.term-index c.loop-term.most c.loop-term.invariant c.loop-term-test.true
