use Rattle.std.proofs.Common.{ap, sym, ◌∙◌}
use Rattle.std.specs.Prelude.{nat_le, nat_lt, ◌&&◌}
use Rattle.std.specs.Option.{option_copied}
use Rattle.std.proofs.lemmas.List.{length-map}
use Rattle.kan_model.specs.Programs.Scope.{in_scope}
use Rattle.kan_model.specs.Programs.Tables.{goal_at}
use Rattle.kan_model.specs.Programs.Nodes.{goal_entry}
use Rattle.kan_model.specs.Programs.Drafts as drafts
use Rattle.kan_model.proofs.Programs.ScopeLaws.{row-uses}
use Rattle.kan_model.proofs.draft.Draft.uses_only.Goals as goal

pub returns-in-Some : goal.returns-in-Some
returns-in-Some c =
    let d = c.args.self.now in
    ap (nat_le c.in-Some.row.now.slots) c.from.ensures
    ∙ row-uses (λ row. row.slots) d.goals.items (drafts.goals d) c.args.goal c.args.slots _ d.goal_slots c.goal_row.ensures c.in-Some.row.now (ap option_copied (sym c.in-Some.is))
    ∙ ap (λ n. nat_lt c.args.goal n && in_scope c.args.slots (goal_at (drafts.goals d) c.args.goal)) (sym (length-map d.goals.items (λ row. goal_entry row.node)))
