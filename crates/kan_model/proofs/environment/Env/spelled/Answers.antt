use Rattle.kan_model.specs.Streams.Running.{instance}
use Rattle.kan_model.specs.Programs.Closed as programs
use Rattle.kan_model.specs.Programs.Environments.{terms_of}
use Rattle.kan_model.proofs.Programs.EnvironmentLaws.{spelled-step, fewer-wait}
use Rattle.kan_model.proofs.environment.Env.spelled.Goals as goal

pub loop-next-smaller : goal.loop-next-smaller
loop-next-smaller c =
    fewer-wait (λ at. instance (terms_of c.args.self.now) (programs.template c.args.program.now at)) _ _ c.wait_for_parts.new.waiting.items _ c.in-Some.ensures.items c.in_ok-wait_for_parts.ensures

pub loop-next-preserved : goal.loop-next-preserved
loop-next-preserved c =
    spelled-step (λ at. instance (terms_of c.args.self.now) (programs.template c.args.program.now at)) _ _ _ _ _ c.wait_for_parts.new.waiting.items _ _
    c.template_letter.ensures c.in_ok-push-2.ensures.items c.in-Some.ensures.items c.loop-next.invariant c.in_ok-wait_for_parts.ensures
