use Rattle.std.proofs.Common.{subst}
use Rattle.stream_core.specs.TableKinds.LinkedThunks.{thunk_of, IsEntered}
use Rattle.stream_core.proofs.linked_ids.enter_node.Goals as goal

pub returns-in-Some : goal.returns-in-Some
returns-in-Some g c goal =
    subst (λ w. IsEntered g.St.Store.meaning goal (thunk_of w) c.args.inside (thunk_of c.enter_own.new.own) c.enter_own.result) c.in-Some.ensures.value (c.enter_own.ensures goal)
