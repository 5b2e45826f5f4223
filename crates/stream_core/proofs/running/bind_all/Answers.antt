use Rattle.std.proofs.Common.{ap, ◌∙◌, sym, refl, subst, map}
use Rattle.kan_model.specs.Streams.Running.{run}
use Rattle.kan_model.specs.Streams.Stream as model
use Rattle.kan_model.specs.Programs.Environments.{terms_of}
use Rattle.kan_model.specs.Programs.Closed as programs
use Rattle.stream_core.specs.Tables.{stream_in}
use Rattle.stream_core.specs.Tasks.{IsOf, AreBelow, AreBelowRest}
use Rattle.kan_model.specs.Each.{Each}
use Rattle.stream_core.proofs.ClosedLaws.{program-closed}
use Rattle.stream_core.proofs.FitLaws.{bind-fits, fits-moved}
use Rattle.stream_core.proofs.running.bind_all.Goals as goal

pub bind_with-requires-clause-is : goal.bind_with-requires-clause-is
bind_with-requires-clause-is g c =
    let p = c.args.program.now in subst (IsOf (programs.meaning p) (programs.goal p c.args.goal)) (sym c.in_ok-env.ensures) c.requires.is

pub bind_with-requires-clause-room : goal.bind_with-requires-clause-room
bind_with-requires-clause-room g c = subst (λ e. Each (AreBelow e) (map g.St.Store.meaning c.args.stream.heads)) (sym c.in_ok-env.ensures) c.requires.room

pub bind_with-requires-clause-below : goal.bind_with-requires-clause-below
bind_with-requires-clause-below g c =
    subst (λ e. AreBelowRest e (stream_in (g.N.Nodes.table c.args.nodes.now) g.St.Store.meaning c.args.stream)) (sym c.in_ok-env.ensures) c.requires.below

pub returns-clause-made : goal.returns-clause-made
returns-clause-made g c =
    let h = programs.goal c.args.program.now c.args.goal in
    c.in_ok-made.ensures.made ∙ ap (λ e. model.bind_all (run h e) h e (stream_in (g.N.Nodes.table c.args.nodes.now) g.St.Store.meaning c.args.stream)) c.in_ok-env.ensures

pub returns-clause-fits : goal.returns-clause-fits
returns-clause-fits g c low high below fits =
    let p = c.args.program.now in
    let stream = stream_in (g.N.Nodes.table c.args.nodes.now) g.St.Store.meaning c.args.stream in
    fits-moved (programs.meaning p) (programs.meaning p) _ _ _ _ refl (returns-clause-made g c)
    (bind-fits (programs.meaning p) low high (programs.goal p c.args.goal) (terms_of c.args.env.now) stream (program-closed p c.requires.table.small) c.requires.is.0 c.requires.is.1 below fits)
