use Rattle.std.proofs.lemmas.Result.{IfOk-weaker}
use Rattle.diseq.specs.Chains.{forms}
use Rattle.diseq.specs.Meaning.{watchers}
use Rattle.diseq.proofs.KeptLaws.{taken_nothing, taken_settles}
use Rattle.diseq.proofs.watching.Watched.settle_bound.Goals as goal

pub returns : goal.returns
returns g c = IfOk-weaker c.solve_all.result _ _
    (λ differ looked. taken_settles (g.B.Bindings.pairs c.args.bindings.now) c.args.var (watchers c.args.self.now) (watchers c.args.self.now) (taken_nothing (watchers c.args.self.now) c.args.var)
    (watchers c.solve_all.new.self) (forms c.in_ok-once_watched.once_watched) differ c.in_ok-once_watched.ensures looked) c.solve_all.ensures
