use Rattle.std.proofs.Common.{arith}
use Rattle.kan_model.specs.Programs.Drafts.{tables}
use Rattle.goal_forms.specs.Parts.{sites}
use Rattle.goal_syntax.proofs.Building.TableLaws.{grows_on}
use Rattle.goal_syntax.proofs.Building.CallsThereLaws.{suspended_closed}
use Rattle.goal_syntax.proofs.build_run.build_list.Goals as goal

pub suspend_at-requires-clause-there : goal.suspend_at-requires-clause-there
suspend_at-requires-clause-there c = c.in_ok-fresh.ensures.made.there

pub returns : goal.returns
returns c = record {
  made = c.in_ok-goal.ensures.made _ c.in_ok-fresh.ensures.made;
  grows = grows_on _ _ _ c.in_ok-fresh.ensures.grows c.in_ok-goal.ensures.grows;
  room = omega (arith, c.in_ok-fresh.ensures.room, c.in_ok-goal.ensures.room);
  closed = suspended_closed c.args.context.now.dialect (sites c.args.context.now.flat.now) (tables c.args.draft.now) (tables c.build_fresh.new.draft) (tables c.suspend_at.new.draft) _
      c.in_ok-fresh.ensures.closed c.in_ok-goal.ensures.terms c.in_ok-goal.ensures.called;
  narrow = omega (arith, c.in_ok-fresh.ensures.narrow, c.in_ok-goal.ensures.narrow);
  named = omega (arith, c.in_ok-fresh.ensures.named, c.in_ok-goal.ensures.named c.args.context.now.names.now);
}
