use Rattle.std.proofs.Common.{ap, ap₂, sym, ◌∙◌, map, subst}
use Rattle.kan_model.specs.Streams.Stream as model
use Rattle.kan_model.specs.Streams.Bounds.{Fits}
use Rattle.kan_model.specs.Programs.Environments.{terms_of}
use Rattle.stream_core.specs.Suspensions.{goal_in}
use Rattle.stream_core.proofs.atomic_goals.paused.Goals as goal

pub suspend-requires-clause-fits : goal.suspend-requires-clause-fits
suspend-requires-clause-fits g c =
    subst (λ q. Fits q (model.Thunk.pause (goal_in q c.args.goal) (terms_of c.args.env) (g.St.Store.meaning c.args.store))) (sym c.requires.table.program)
    (c.requires.is.0, c.requires.is.1, c.requires.below)

pub returns-clause-made : goal.returns-clause-made
returns-clause-made g c =
    ap₂ model.Stream.goes_on (ap (map g.St.Store.meaning) c.new.ensures)
    (c.in_ok-tail.ensures.stands.1 ∙ ap (λ q. model.Thunk.pause (goal_in q c.args.goal) (terms_of c.args.env) (g.St.Store.meaning c.args.store)) c.requires.table.program)
