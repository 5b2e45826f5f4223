use Rattle.stream_core.proofs.TableKinds.LinkedLaws.{entered-bind, entered-swap}
use Rattle.stream_core.proofs.linked_ids.enter.Goals as goal

pub returns-in-Bind : goal.returns-in-Bind
returns-in-Bind g c goal = entered-bind g.St.Store.meaning goal c.in-Bind.goal c.in-Bind.env c.in-Bind.inner c.enter_bind.new.inner c.args.thunk.now c.args.inside c.enter_bind.result c.in-Bind.is c.enter_bind.ensures

pub returns-in-Swap : goal.returns-in-Swap
returns-in-Swap g c goal = entered-swap g.St.Store.meaning goal c.in-Swap.heads c.enter_swap.new.heads c.in-Swap.tail c.enter_swap.new.tail c.in-Swap.inner c.enter_swap.new.inner c.args.thunk.now c.args.inside c.enter_swap.result c.in-Swap.is c.enter_swap.ensures
