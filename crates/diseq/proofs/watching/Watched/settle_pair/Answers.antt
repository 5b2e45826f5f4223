use Rattle.std.proofs.Common.{rules}
use Rattle.kan_terms.specs.Terms.{tree}
use Rattle.diseq.specs.Meaning.{watchers}
use Rattle.diseq.proofs.KeptLaws.{settled_both}
use Rattle.diseq.proofs.watching.Watched.settle_pair.Goals as goal

pub returns : goal.returns
returns g c =
    settled_both (g.B.Bindings.pairs c.args.bindings.now) (tree c.args.pair.now.first) (tree c.args.pair.now.rest) (watchers c.args.self.now) (watchers c.settle_left.new.self) (watchers c.settle_right.new.self)
    c.in_ok-left.left c.in_ok-settle_right.field-0 c.in_ok-left.ensures (search rules) c.in_ok-settle_right.ensures
