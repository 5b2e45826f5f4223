use Rattle.std.proofs.Common.{rules, map}
use Rattle.kan_model.specs.Stores.Prims.{equation as pair_equation}
use Rattle.diseq.specs.Meaning.{watchers}
use Rattle.diseq.proofs.AddLaws.{solved_never, solved_identical, solved_some}
use Rattle.diseq.proofs.watching.Watched.solve_anew.Goals as goal

pub returns-then-adds_nothing : goal.returns-then-adds_nothing
returns-then-adds_nothing g c =
    solved_identical (g.B.Bindings.pairs c.args.bindings.now) c.requires (map pair_equation c.args.pairs.now) (watchers c.args.self.now) (watchers c.args.self.now) c.in-Some.added (search rules)
    (rw c.in-Some.is at c.in_ok-would_add_all.ensures)

pub returns-in-None : goal.returns-in-None
returns-in-None g c =
    solved_never (g.B.Bindings.pairs c.args.bindings.now) c.requires (map pair_equation c.args.pairs.now) (watchers c.args.self.now) (rw c.in-None.is at c.in_ok-would_add_all.ensures)

pub returns-in_ok-watch-in-Some : goal.returns-in_ok-watch-in-Some
returns-in_ok-watch-in-Some g c =
    solved_some (g.B.Bindings.pairs c.args.bindings.now) c.requires (map pair_equation c.args.pairs.now) (watchers c.args.self.now) (watchers c.watch.new.self) c.in-Some.added (search rules)
    (rw c.in-Some.is at c.in_ok-would_add_all.ensures) c.in_ok-watch-in-Some.ensures
