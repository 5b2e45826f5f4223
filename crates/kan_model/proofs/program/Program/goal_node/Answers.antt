use Rattle.std.proofs.Common.{ap, sym, ◌∙◌}
use Rattle.std.specs.Prelude.{option_map}
use Rattle.std.specs.Option.{option_copied}
use Rattle.kan_model.specs.Programs.Nodes.{goal_entry}
use Rattle.kan_model.specs.Programs.Closed as programs
use Rattle.kan_model.proofs.Programs.EntryLaws.{goal-found, goal_found}
use Rattle.kan_model.proofs.Programs.TableLaws.{grown-parts}
use Rattle.kan_model.proofs.Programs.PlacedLaws.{goal-placed}
use Rattle.kan_model.proofs.program.Program.goal_node.Goals as goal

pub returns-in-Some-clause-is : goal.returns-in-Some-clause-is
returns-in-Some-clause-is c =
    let p = c.args.self.now in
    goal-found (programs.tables p) c.args.at _ p.draft.grown c.goal.ensures
    ∙ ap (λ r. goal_found (programs.templates p) (programs.tables p).arguments (programs.goals p) (option_map goal_entry (option_copied r))) c.in-Some.is

pub returns-in-Some-clause-placed : goal.returns-in-Some-clause-placed
returns-in-Some-clause-placed c =
    let p = c.args.self.now in
    goal-placed p 0 (programs.tables p).goals c.args.at _ (grown-parts (programs.tables p) p.draft.grown).goals (sym c.goal.ensures ∙ ap (λ r. option_map goal_entry (option_copied r)) c.in-Some.is)

pub returns-in-None-clause-is : goal.returns-in-None-clause-is
returns-in-None-clause-is c =
    let p = c.args.self.now in
    goal-found (programs.tables p) c.args.at _ p.draft.grown c.goal.ensures
    ∙ ap (λ r. goal_found (programs.templates p) (programs.tables p).arguments (programs.goals p) (option_map goal_entry (option_copied r))) c.in-None.is
