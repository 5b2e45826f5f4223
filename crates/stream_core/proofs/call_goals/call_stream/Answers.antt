use Rattle.std.proofs.Common.{ap, ap₂, sym, ◌∙◌, map, subst}
use Rattle.kan_terms.specs.Terms.{tree}
use Rattle.kan_model.specs.Streams.Stream as model
use Rattle.kan_model.specs.Streams.Running.{instances}
use Rattle.kan_model.specs.Streams.Bounds.{Fits}
use Rattle.kan_model.specs.Programs.Environments.{terms_of}
use Rattle.kan_model.specs.Programs.Closed as programs
use Rattle.stream_core.specs.CallArguments.{NamesFirst, arguments_of}
use Rattle.stream_core.proofs.ArgumentLaws.{arguments-many, call-waits}
use Rattle.stream_core.proofs.FitLaws.{call-fits}
use Rattle.stream_core.proofs.call_goals.call_stream.Goals as goal

pub name_all-requires-clause-room : goal.name_all-requires-clause-room
name_all-requires-clause-room g c =
    let p = c.args.program.now in
    arguments-many (programs.templates p) _ (programs.tables p).arguments c.args.call.at c.args.call.count (g.St.Store.meaning c.args.store).counter c.arguments-arguments.ensures c.requires.room

pub suspend-requires-clause-fits : goal.suspend-requires-clause-fits
suspend-requires-clause-fits g c =
    let p = c.args.program.now in
    let before = g.St.Store.meaning c.args.store in
    let env = terms_of c.args.env.now in
    let named = subst (λ xs. NamesFirst before (instances env (map (programs.template p) xs)) (map tree c.in_ok-values.values.items) (g.St.Store.meaning c.in_ok-values.store)) c.arguments-arguments.ensures c.in_ok-values.ensures in
    subst (λ q. Fits q (model.Thunk.call c.args.call.rel (terms_of c.of-args.result) (g.St.Store.meaning c.in_ok-values.store))) (sym c.requires.table.program)
    (call-fits (programs.meaning p) c.args.call.rel before (g.St.Store.meaning c.in_ok-values.store) env (arguments_of p c.args.call.at c.args.call.count) _ _
    named c.of-args.ensures c.requires.below c.requires.there)

pub returns-clause-made : goal.returns-clause-made
returns-clause-made g c =
    let p = c.args.program.now in
    let before = g.St.Store.meaning c.args.store in
    let env = terms_of c.args.env.now in
    let named = subst (λ xs. NamesFirst before (instances env (map (programs.template p) xs)) (map tree c.in_ok-values.values.items) (g.St.Store.meaning c.in_ok-values.store)) c.arguments-arguments.ensures c.in_ok-values.ensures in
    ap₂ model.Stream.goes_on (ap (map g.St.Store.meaning) c.new.ensures) (c.in_ok-tail.ensures.stands.1 ∙ ap (λ vs. model.Thunk.call c.args.call.rel vs (g.St.Store.meaning c.in_ok-values.store)) c.of-args.ensures)
    ∙ call-waits c.args.call.rel before _ _ _ named
