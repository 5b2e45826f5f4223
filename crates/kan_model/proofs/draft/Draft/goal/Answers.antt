use Rattle.std.specs.Prelude.{IsTrue}
use Rattle.kan_model.specs.Programs.Tables.{is_grown, goals_of}
use Rattle.kan_model.specs.Programs.Nodes.{tables_from}
use Rattle.kan_model.specs.Programs.Rows.{WidthsNoted, GoalSlotsNoted}
use Rattle.kan_model.proofs.Programs.RowLaws.{pushed, goal-grown, goal-widths, goal-needs}
use Rattle.kan_model.proofs.draft.Draft.goal.Goals as goal

pub invariant_of-self : goal.invariant_of-self
invariant_of-self c =
    let d = c.args.self.now in
    record {
      grown = pushed (λ rows. IsTrue (is_grown (tables_from d.terms.items d.arguments.items rows d.relations.items))) _ d.goals.items _ _ c.push.ensures.items d.grown
          (goal-grown d.terms.items d.arguments.items d.goals.items d.relations.items _ d.grown c.requires.there);
      heights = d.heights;
      slots = d.slots;
      widths = pushed (λ rows. WidthsNoted rows (goals_of (tables_from d.terms.items d.arguments.items rows d.relations.items))) _ d.goals.items _ _ c.push.ensures.items d.widths
          (goal-widths d.terms.items d.arguments.items d.goals.items d.relations.items _ d.widths c.noted_width-width.ensures);
      goal_slots = pushed (λ rows. GoalSlotsNoted rows (goals_of (tables_from d.terms.items d.arguments.items rows d.relations.items))) _ d.goals.items _ _ c.push.ensures.items d.goal_slots
          (goal-needs d.terms.items d.arguments.items d.goals.items d.relations.items _ d.goal_slots c.goal_slots-slots.ensures);
    }
