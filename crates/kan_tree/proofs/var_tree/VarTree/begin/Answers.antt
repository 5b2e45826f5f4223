use Rattle.std.proofs.Common.{ap, ◌∙◌, eqb, ltb, Some, None, refl, ◌%◌}
use Rattle.std.specs.Prelude.{if◌then◌else◌}
use Rattle.std.specs.Arc.{arc_value}
use Rattle.kan_tree.specs.Whole.{key_limit}
use Rattle.kan_tree.specs.Nodes.{look}
use Rattle.kan_tree.proofs.DigitLaws.{value_put, none_if}
use Rattle.kan_tree.proofs.FrontLaws.{within_nodes}
use Rattle.kan_tree.proofs.var_tree.VarTree.begin.Goals as goal

pub returns-clause-ok : goal.returns-clause-ok
returns-clause-ok g c k =
    let m = g.T.Again.meaning in
    let level = c.args.self.now.height % 16 in
    within_nodes m c.args.self.now.waiting level k c.in_ok-new.field-0
    ∙ value_put m level c.args.key (m c.args.value) (arc_value c.in_ok-new.field-0) (λ _. None) c.requires.fits (λ k. ap (look m level k) c.in_ok-new.ensures.ok ∙ c.in_ok-node.ensures k) k
    ∙ ap (λ o. if eqb k c.args.key then Some (m c.args.value) else o) (none_if (ltb k (key_limit level)) None refl)
