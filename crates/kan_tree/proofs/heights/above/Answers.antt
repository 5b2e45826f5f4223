use Rattle.std.proofs.Common.{ap, ◌∙◌, suc}
use Rattle.std.specs.Arc.{arc_value}
use Rattle.kan_tree.specs.Nodes.{look}
use Rattle.kan_tree.proofs.DigitLaws.{value_above}
use Rattle.kan_tree.proofs.LookLaws.{look_up}
use Rattle.kan_tree.proofs.heights.above.Goals as goal

pub returns : goal.returns
returns g c level k =
    let m = g.T.Again.meaning in
    value_above m level (arc_value c.in_ok-new.field-0) (arc_value c.args.root) (λ k. ap (look m (suc level) k) c.in_ok-new.ensures.ok ∙ look_up m level k c.empty-slots.result c.put.new.self c.args.root c.empty-slots.ensures c.in_ok-put.ensures.ok) k
