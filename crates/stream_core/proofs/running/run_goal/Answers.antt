use Rattle.std.proofs.Common.{ap, ◌∙◌, ◌≡◌, true, sym, refl, subst}
use Rattle.std.specs.List.{list_all}
use Rattle.kan_model.specs.Streams.Running.{run}
use Rattle.kan_model.specs.Programs.Scope.{all_below}
use Rattle.kan_model.specs.Programs.Environments.{terms_of}
use Rattle.kan_model.specs.Programs.Closed as programs
use Rattle.stream_core.specs.Tasks.{IsOf}
use Rattle.stream_core.proofs.ClosedLaws.{program-closed, goal-there}
use Rattle.stream_core.proofs.SolutionLaws.{finds_solutions, gives_few}
use Rattle.stream_core.proofs.FitLaws.{run-fits, fits-moved}
use Rattle.stream_core.proofs.running.run_goal.Goals as goal

pub run_with-requires-clause-is : goal.run_with-requires-clause-is
run_with-requires-clause-is g c =
    let p = c.args.program.now in
    subst (IsOf (programs.meaning p) (programs.goal p c.args.goal)) (sym c.in_ok-env.ensures) (goal-there (programs.goals p) c.args.goal c.requires.there, c.requires.slots)

pub run_with-requires-clause-below : goal.run_with-requires-clause-below
run_with-requires-clause-below g c =
    subst (λ e. list_all (all_below (g.St.Store.meaning c.args.store).counter) e ≡ true) (sym c.in_ok-env.ensures) c.requires.below

pub returns-clause-made : goal.returns-clause-made
returns-clause-made g c =
    c.in_ok-made.ensures.made ∙ ap (λ e. run (programs.goal c.args.program.now c.args.goal) e (g.St.Store.meaning c.args.store)) c.in_ok-env.ensures

pub returns-clause-fits : goal.returns-clause-fits
returns-clause-fits g c =
    let p = c.args.program.now in
    fits-moved (programs.meaning p) (programs.meaning p) _ _ _ _ refl (returns-clause-made g c)
    (run-fits (programs.meaning p) (programs.goal p c.args.goal) (terms_of c.args.env.now) (g.St.Store.meaning c.args.store) (program-closed p c.requires.table.small)
    (goal-there (programs.goals p) c.args.goal c.requires.there) c.requires.slots c.requires.below)

pub returns-clause-finds : goal.returns-clause-finds
returns-clause-finds g c =
    let p = c.args.program.now in
    finds_solutions (programs.meaning p) (programs.goal p c.args.goal) (terms_of c.args.env.now) (g.St.Store.meaning c.args.store) _ (returns-clause-made g c)
    (g.met.St.Store.counted c.args.store) c.requires.below

pub returns-clause-few : goal.returns-clause-few
returns-clause-few g c =
    let p = c.args.program.now in
    gives_few (programs.meaning p) (programs.goal p c.args.goal) (terms_of c.args.env.now) (g.St.Store.meaning c.args.store) _ (returns-clause-made g c)
