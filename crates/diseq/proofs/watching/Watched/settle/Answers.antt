use Rattle.std.proofs.Common.{arith, rules, map}
use Rattle.kan_terms.specs.Terms.{sides}
use Rattle.diseq.specs.Meaning.{watchers}
use Rattle.diseq.proofs.KeptLaws.{fining_on, fining_off, fining_done}
use Rattle.diseq.proofs.watching.Watched.settle.Goals as goal

pub loop-pair-preserved : goal.loop-pair-preserved
loop-pair-preserved g c =
    fining_on (g.B.Bindings.pairs c.args.bindings.now) (map sides c.args.added.now) c.args.added.now c.loop-pair.pair-index c.pair-item.result (watchers c.args.self.now) (watchers c.loop-pair.self) (watchers c.settle_pair.new.self)
    c.loop-pair-test.true c.pair-item.is c.loop-pair.invariant c.in_ok-differ.differ c.in_ok-differ.ensures (search rules)

pub returns-then-not-differ : goal.returns-then-not-differ
returns-then-not-differ g c =
    fining_off (g.B.Bindings.pairs c.args.bindings.now) (map sides c.args.added.now) c.args.added.now c.loop-pair.pair-index c.pair-item.result (watchers c.args.self.now) (watchers c.loop-pair.self) (watchers c.settle_pair.new.self)
    c.loop-pair-test.true c.pair-item.is c.loop-pair.invariant c.in_ok-differ.differ c.in_ok-differ.ensures (search rules)

pub returns : goal.returns
returns g c =
    fining_done (g.B.Bindings.pairs c.args.bindings.now) (map sides c.args.added.now) c.args.added.now c.loop-pair.pair-index (watchers c.args.self.now) (watchers c.loop-pair.self) (λ low. (let past = c.loop-pair-test.false in omega (arith, low, past))) c.loop-pair.invariant
