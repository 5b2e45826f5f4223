use Rattle.std.proofs.Common.{◌%◌, ◌∙◌}
use Rattle.kan_tree.specs.UnderKeys.{under_key}
use Rattle.kan_tree.proofs.FrontLaws.{put_settled, nodes_settled}
use Rattle.kan_tree.proofs.var_tree.+settled.Goals as goal

pub returns-in_ok-put_in_nodes-in-Link-clause-same : goal.returns-in_ok-put_in_nodes-in-Link-clause-same
returns-in_ok-put_in_nodes-in-Link-clause-same g t c =
    put_settled g.T.Again.meaning c.args.waiting (c.args.height % 16) c.args.front.now c.in-Link.link c.deref.result.now c.deref-in-Link.result.now c.deref-in-Link-2.result.now
    c.in_ok-again-in-Link.field-0 (under_key g.T.Again.meaning c.in_ok-made-in-Link.made) (under_key g.T.Again.meaning c.put_in_nodes.new.self) c.in-Link.is c.deref.ensures c.deref-in-Link.ensures c.deref-in-Link-2.ensures
    c.if-waiting-eq0.false c.in_ok-made-in-Link.ensures.same c.in_ok-again-in-Link.ensures c.in_ok-put_in_nodes-in-Link.ensures.ok

pub returns-in_ok-try_clone-in-Nodes-clause-same : goal.returns-in_ok-try_clone-in-Nodes-clause-same
returns-in_ok-try_clone-in-Nodes-clause-same g t c k =
    c.settled_tree-in-Nodes.ensures.same k
    ∙ nodes_settled g.T.Again.meaning c.args.waiting (c.args.height % 16) c.args.front.now c.in-Nodes.root c.in_ok-try_clone-in-Nodes.field-0 c.in-Nodes.is c.in_ok-try_clone-in-Nodes.ensures k
