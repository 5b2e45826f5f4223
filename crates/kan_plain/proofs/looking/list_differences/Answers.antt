use Rattle.kan_model.specs.Stores.Prims.{prim as primitive}
use Rattle.kan_plain.specs.Looking.{difference_at}
use Rattle.kan_plain.proofs.EachLaws.{listed_more, all_listed}
use Rattle.kan_plain.proofs.looking.list_differences.Goals as goal

pub loop-prim-preserved : goal.loop-prim-preserved
loop-prim-preserved c =
    listed_more primitive difference_at _ _ c.prim-item.result _ _ c.loop-prim-test.true c.prim-item.is c.loop-prim.invariant c.in_ok-push_difference.ensures

pub returns : goal.returns
returns c = all_listed primitive difference_at _ _ _ c.loop-prim-test.false c.loop-prim.invariant
