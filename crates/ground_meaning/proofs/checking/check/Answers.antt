use Rattle.std.proofs.Common.{ap, ◌∙◌, ◌++◌, ◌∷◌, []}
use Rattle.ground_meaning.specs.Following.{steps_in}
use Rattle.ground_meaning.proofs.FollowingLaws.{waiting_for}
use Rattle.ground_meaning.proofs.RunLaws.{shown_alone}
use Rattle.ground_meaning.proofs.checking.check.Goals as goal

pub returns : goal.returns
returns c =
    shown_alone c.follow_all.result c.args.program.now c.args.goal c.args.values.now c.in_ok-values.values (steps_in c.args.derivation.now) c.items.result.now c.push.new.self.items
    (c.in_ok-push.ensures.items ∙ ap (λ l. l ++ waiting_for c.args.goal c.in_ok-values.values ∷ []) c.new-waiting.ensures.items) c.in_ok-values.ensures (c.items.ensures ∙ c.steps.ensures) c.follow_all.ensures
