use Rattle.std.proofs.Common.{ap, ◌∙◌}
use Rattle.kan_model.specs.Streams.Running.{instance}
use Rattle.kan_model.specs.Programs.Tables.{template_of}
use Rattle.kan_model.specs.Programs.Nodes.{term_entry}
use Rattle.kan_model.specs.Programs.Closed as programs
use Rattle.kan_model.specs.Programs.Environments.{terms_of}
use Rattle.kan_model.proofs.Programs.EnvironmentLaws.{pair-waits, node-waits}
use Rattle.kan_model.proofs.environment.Env.wait_for_parts.Goals as goal

pub returns-in_ok-push-in-Pair-2 : goal.returns-in_ok-push-in-Pair-2
returns-in_ok-push-in-Pair-2 c =
    pair-waits (λ at. instance (terms_of c.args.self.now) (programs.template c.args.program.now at)) _ _ _ _ _ _ c.in_ok-push-in-Pair.ensures.items c.in_ok-push-in-Pair-2.ensures.items
    (ap (instance (terms_of c.args.self.now)) (c.template_node.ensures ∙ ap (λ n. template_of (programs.templates c.args.program.now) (term_entry n)) c.in-Pair.is))

pub returns-in_default : goal.returns-in_default
returns-in_default c =
    node-waits (terms_of c.args.self.now) (programs.templates c.args.program.now) c.template_node.result (programs.template c.args.program.now c.args.term) _
    c.args.self.now.flat c.in_default.not-Pair c.template_node.ensures
