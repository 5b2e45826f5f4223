use Rattle.std.proofs.Common.{ap, ◌∙◌, eqb, Some, sym, ◌%◌}
use Rattle.std.specs.Prelude.{if◌then◌else◌}
use Rattle.std.specs.Arc.{arc_value}
use Rattle.std.proofs.lemmas.Result.{on_ok_weaker}
use Rattle.kan_tree.specs.Nodes.{look}
use Rattle.kan_tree.proofs.DigitLaws.{value_put}
use Rattle.kan_tree.proofs.FrontLaws.{within_nodes, nodes_at}
use Rattle.kan_tree.proofs.var_tree.VarTree.put_in_nodes.Goals as goal

pub returns-in-Nodes-clause-ok : goal.returns-in-Nodes-clause-ok
returns-in-Nodes-clause-ok g c =
    let m = g.T.Again.meaning in
    let grown = c.grow.new.self in
    let level = grown.height % 16 in
    on_ok_weaker c.put_arc.result (λ h k.
    within_nodes m grown.waiting level k c.put_arc.new.node
    ∙ value_put m level c.args.key (m c.args.value) (arc_value c.put_arc.new.node) (λ k. look m level k (arc_value c.in-Nodes.root)) c.in_ok-grow.ensures.fits h k
    ∙ ap (λ o. if eqb k c.args.key then Some (m c.args.value) else o) (sym (nodes_at m grown.waiting level grown.front c.in-Nodes.root c.in-Nodes.is k) ∙ c.grow.ensures.same k)) c.put_arc.ensures.ok
