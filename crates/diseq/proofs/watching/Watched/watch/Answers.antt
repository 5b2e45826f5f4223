use Rattle.std.proofs.Common.{◌∙◌, map, sym, ap}
use Rattle.std.proofs.lemmas.Result.{on_ok_weaker}
use Rattle.kan_model.specs.Stores.Prims.{equation as pair_equation}
use Rattle.diseq.specs.Looking.{may_be_same}
use Rattle.diseq.specs.Meaning.{watchers}
use Rattle.diseq.specs.Watching.{is_watched_by}
use Rattle.diseq.proofs.KeptLaws.{put_given}
use Rattle.diseq.proofs.watching.Watched.watch.Goals as goal

pub returns-in-Some : goal.returns-in-Some
returns-in-Some c =
    on_ok_weaker c.give.result
    (λ put. put_given (watchers c.args.self.now) (watchers c.give.new.self) c.in-Some.var (map pair_equation c.args.pairs)
    (λ y. ap (λ ps. is_watched_by y (map pair_equation ps)) (sym c.items.ensures) ∙ c.watcher.ensures y ∙ ap (may_be_same y) c.in-Some.is) put)
    c.give.ensures
