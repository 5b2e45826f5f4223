use Rattle.std.specs.Prelude.{IsTrue}
use Rattle.std.proofs.Common.{sym, subst}
use Rattle.kan_model.specs.Programs.Tables.{is_grown, goals_of, templates_of}
use Rattle.kan_model.specs.Programs.Nodes.{tables_from, term_entries}
use Rattle.kan_model.specs.Programs.Rows.{HeightsNoted, SlotsNoted, WidthsNoted, GoalSlotsNoted}
use Rattle.kan_model.proofs.Programs.RowLaws.{pushed, term-grown, term-heights, term-slots, term-goals}
use Rattle.kan_model.proofs.draft.Draft.term.Goals as goal

pub invariant_of-self : goal.invariant_of-self
invariant_of-self c =
    let d = c.args.self.now in
    let same = term-goals d.terms.items d.arguments.items d.goals.items d.relations.items _ d.grown in
    record {
      grown = pushed (λ rows. IsTrue (is_grown (tables_from rows d.arguments.items d.goals.items d.relations.items))) _ d.terms.items _ _ c.push.ensures.items d.grown
          (term-grown d.terms.items d.arguments.items d.goals.items d.relations.items _ d.grown c.requires.there);
      heights = pushed (λ rows. HeightsNoted rows (templates_of (term_entries rows))) _ d.terms.items _ _ c.push.ensures.items d.heights
          (term-heights d.terms.items d.arguments.items d.goals.items d.relations.items _ d.heights c.noted_height-height.ensures);
      slots = pushed (λ rows. SlotsNoted rows (templates_of (term_entries rows))) _ d.terms.items _ _ c.push.ensures.items d.slots
          (term-slots d.terms.items d.arguments.items d.goals.items d.relations.items _ d.slots c.term_slots-slots.ensures);
      widths = pushed (λ rows. WidthsNoted d.goals.items (goals_of (tables_from rows d.arguments.items d.goals.items d.relations.items))) _ d.terms.items _ _ c.push.ensures.items d.widths
          (subst (WidthsNoted d.goals.items) (sym same) d.widths);
      goal_slots = pushed (λ rows. GoalSlotsNoted d.goals.items (goals_of (tables_from rows d.arguments.items d.goals.items d.relations.items))) _ d.terms.items _ _ c.push.ensures.items d.goal_slots
          (subst (GoalSlotsNoted d.goals.items) (sym same) d.goal_slots);
    }
