use Rattle.kan_tree.proofs.FrontLaws.{nodes_same, link_same}
use Rattle.kan_tree.proofs.front.Front.again.Goals as goal

pub returns-in_ok-try_clone-in-Nodes : goal.returns-in_ok-try_clone-in-Nodes
returns-in_ok-try_clone-in-Nodes g c = rw c.in-Nodes.is (nodes_same g.T.Again.meaning c.in-Nodes.root c.in_ok-try_clone-in-Nodes.field-0 c.in_ok-try_clone-in-Nodes.ensures)

pub returns-in_ok-try_clone-in-Link : goal.returns-in_ok-try_clone-in-Link
returns-in_ok-try_clone-in-Link g c = rw c.in-Link.is (link_same g.T.Again.meaning c.in-Link.link c.in_ok-try_clone-in-Link.field-0 c.in_ok-try_clone-in-Link.ensures)
