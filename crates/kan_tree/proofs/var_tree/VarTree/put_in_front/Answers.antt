use Rattle.std.proofs.Common.{◌%◌}
use Rattle.kan_tree.proofs.FrontLaws.{put_link}
use Rattle.kan_tree.proofs.var_tree.VarTree.put_in_front.Goals as goal

pub returns-clause-ok : goal.returns-clause-ok
returns-clause-ok g c = put_link g.T.Again.meaning c.args.self.now.waiting (c.args.self.now.height % 16) c.args.key c.args.value c.args.self.now.front c.in_ok-older.older c.in_ok-new.field-0 c.in_ok-new.ensures.ok c.in_ok-older.ensures
