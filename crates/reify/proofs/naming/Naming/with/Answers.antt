use Rattle.std.proofs.Common.{rules}
use Rattle.kan_tree.specs.UnderKeys.{under_key}
use Rattle.reify.specs.Naming.{number_of}
use Rattle.reify.proofs.NamingLaws.{name_added}
use Rattle.reify.proofs.naming.Naming.with.Goals as goal

pub invariant_of-result : goal.invariant_of-result
invariant_of-result c =
    name_added c.self.inside.variables.items c.push.new.self.items c.args.var c.len-number.result (under_key number_of c.self.inside.names) (under_key number_of c.put.new.self)
    (search rules) (search rules) (search rules) c.self.invariant c.in_ok-put.ensures.ok
