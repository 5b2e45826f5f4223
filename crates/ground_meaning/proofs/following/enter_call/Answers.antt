use Rattle.std.proofs.Common.{ap, sym, refl, ◌∙◌}
use Rattle.std.specs.Prelude.{option_map}
use Rattle.std.specs.Option.{option_copied}
use Rattle.kan_model.specs.Programs.Nodes.{relation_entry}
use Rattle.ground_meaning.proofs.FollowingLaws.{call_follows}
use Rattle.ground_meaning.proofs.following.enter_call.Goals as goal

pub returns-in_ok-push-in-Some : goal.returns-in_ok-push-in-Some
returns-in_ok-push-in-Some c =
    call_follows c.args.program.now c.args.values.now c.in_ok-all-in-Some.all c.args.relation c.args.at c.args.count c.in-Some.found.now.body (relation_entry c.in-Some.found.now)
    c.arguments-arguments.result.now c.args.waiting.now.items c.push.new.self.items
    (ap (λ r. option_map relation_entry (option_copied r)) (sym c.in-Some.is) ∙ c.relation.ensures) refl c.arguments-arguments.ensures c.in_ok-all-in-Some.ensures c.in_ok-push-in-Some.ensures.items
