use Rattle.std.proofs.Common.{ap, sym, ◌∙◌}
use Rattle.std.specs.Prelude.{option_map}
use Rattle.std.specs.Option.{option_copied}
use Rattle.kan_model.specs.Programs.Nodes.{relation_entry}
use Rattle.kan_model.specs.Streams.Running as running
use Rattle.kan_model.specs.Programs.Environments.{terms_of}
use Rattle.kan_model.specs.Programs.Closed as programs
use Rattle.stream_core.proofs.ClosedLaws.{program-closed, goal-there}
use Rattle.stream_core.proofs.Paths.ForceLaws.{relation-found, body-placed, body-slots}
use Rattle.stream_core.proofs.forcing.enter_call.Goals as goal

pub run_with-requires-clause-is : goal.run_with-requires-clause-is
run_with-requires-clause-is g c =
    let p = c.args.program.now in
    let found = ap (λ r. option_map relation_entry (option_copied r)) (sym c.in-Some.is) ∙ c.relation.ensures in (
      goal-there (programs.goals p) _ (body-placed (programs.tables p) c.args.rel (relation_entry c.in-Some.relation.now) p.draft.grown found),
      body-slots (programs.meaning p) c.args.rel (terms_of c.args.args) (g.St.Store.meaning c.args.store) _ (program-closed p c.requires.table.small) c.requires.may.0
          (relation-found (programs.tables p) c.args.rel (relation_entry c.in-Some.relation.now) found),
    )

pub returns-in_ok-made-in-Some-clause-made : goal.returns-in_ok-made-in-Some-clause-made
returns-in_ok-made-in-Some-clause-made g c =
    let p = c.args.program.now in
    c.in_ok-made-in-Some.ensures.made
    ∙ ap (λ o. running.enter o (terms_of c.args.args) (g.St.Store.meaning c.args.store))
    (sym (relation-found (programs.tables p) c.args.rel (relation_entry c.in-Some.relation.now) (ap (λ r. option_map relation_entry (option_copied r)) (sym c.in-Some.is) ∙ c.relation.ensures)))
