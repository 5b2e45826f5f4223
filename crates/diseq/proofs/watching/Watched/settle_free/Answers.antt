use Rattle.std.proofs.lemmas.Result.{IfOk-weaker}
use Rattle.diseq.specs.Chains.{forms}
use Rattle.diseq.specs.Meaning.{watchers}
use Rattle.diseq.proofs.KeptLaws.{taken_settles}
use Rattle.diseq.proofs.watching.Watched.settle_free.Goals as goal

pub returns : goal.returns
returns g c = IfOk-weaker c.solve_all.result _ _
    (λ differ looked. taken_settles (g.B.Bindings.pairs c.args.bindings.now) c.args.var (watchers c.args.self.now) (watchers c.take_from.new.self) c.in_ok-chain.ensures.taken
    (watchers c.solve_all.new.self) (forms c.in_ok-chain.chain) differ c.in_ok-chain.ensures.all looked) c.solve_all.ensures
