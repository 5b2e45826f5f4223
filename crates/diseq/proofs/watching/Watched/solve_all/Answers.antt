use Rattle.std.proofs.Common.{◌≡◌, ◌++◌, ◌∷◌, [], rules, map}
use Rattle.kan_model.specs.Stores.Prims.{equation as pair_equation}
use Rattle.diseq.specs.Chains.{forms}
use Rattle.diseq.specs.Meaning.{watchers}
use Rattle.diseq.proofs.KeptLaws.{looking_off}
use Rattle.diseq.proofs.watching.Watched.solve_all.Goals as goal

pub returns-then-not-differs : goal.returns-then-not-differs
returns-then-not-differs g c =
    let bound = g.B.Bindings.pairs c.args.bindings.now in
    let newest = map pair_equation c.behind-link.inside.pairs in
    let split : forms c.loop-reached.reached.now ≡ forms c.behind-link.inside.older ++ newest ∷ [] = search rules in
    looking_off bound (forms c.args.chain.now) (forms c.loop-reached.reached.now) (forms c.behind-link.inside.older) newest
    (watchers c.args.self.now) (watchers c.loop-reached.self) (watchers c.solve_anew.new.self) split c.loop-reached.invariant (search rules)
