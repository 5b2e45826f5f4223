use Rattle.std.specs.Prelude.{IsTrue}
use Rattle.kan_model.specs.Programs.Tables.{is_grown, goals_of}
use Rattle.kan_model.specs.Programs.Nodes.{tables_from}
use Rattle.kan_model.specs.Programs.Rows.{WidthsNoted, GoalSlotsNoted}
use Rattle.kan_model.specs.Programs.Drafts.{tables}
use Rattle.kan_model.proofs.Programs.TableLaws.{goals-with_argument, grown-with_argument}
use Rattle.std.proofs.Common.{sym, subst}
use Rattle.kan_model.proofs.Programs.RowLaws.{pushed}
use Rattle.kan_model.proofs.draft.Draft.argument.Goals as goal

pub invariant_of-self : goal.invariant_of-self
invariant_of-self c =
    let d = c.args.self.now in
    let same = goals-with_argument (tables d) c.args.term d.grown in
    record {
      grown = pushed (λ as'. IsTrue (is_grown (tables_from d.terms.items as' d.goals.items d.relations.items))) _ d.arguments.items _ _ c.push.ensures.items d.grown
          (grown-with_argument (tables d) c.args.term d.grown c.requires.there);
      heights = d.heights;
      slots = d.slots;
      widths = pushed (λ as'. WidthsNoted d.goals.items (goals_of (tables_from d.terms.items as' d.goals.items d.relations.items))) _ d.arguments.items _ _ c.push.ensures.items d.widths
          (subst (WidthsNoted d.goals.items) (sym same) d.widths);
      goal_slots = pushed (λ as'. GoalSlotsNoted d.goals.items (goals_of (tables_from d.terms.items as' d.goals.items d.relations.items))) _ d.arguments.items _ _ c.push.ensures.items d.goal_slots
          (subst (GoalSlotsNoted d.goals.items) (sym same) d.goal_slots);
    }
