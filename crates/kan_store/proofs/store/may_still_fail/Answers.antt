use Rattle.std.proofs.Common.{◌≡◌, ◌++◌, ◌∷◌, [], rules}
use Rattle.kan_store.proofs.ResolvingLaws.{resolves_next, resolves_all}
use Rattle.kan_store.proofs.store.may_still_fail.Goals as goal

pub loop-pairs-preserved : goal.loop-pairs-preserved
loop-pairs-preserved g c =
    let last : c.loop-pairs.waiting.items ≡ c.pop.new.self.items ++ c.in-Some.pairs ∷ [] = search rules in
    resolves_next (g.B.Bindings.pairs c.args.bindings.now) c.args.waiting.now.items c.loop-pairs.waiting.items c.pop.new.self.items c.in-Some.pairs last
    c.loop-pairs.left c.keep_found.new.left c.in_ok-found.found c.items.result.now c.items.ensures c.in_ok-found.ensures c.in_ok-keep_found.ensures c.loop-pairs.invariant

pub returns : goal.returns
returns g c =
    let none : c.loop-pairs.waiting.items ≡ [] = search rules in
    resolves_all (g.B.Bindings.pairs c.args.bindings.now) c.args.waiting.now.items c.loop-pairs.waiting.items c.loop-pairs.left none c.loop-pairs.invariant
