use Rattle.goal_forms.specs.Parts.{sites}
use Rattle.goal_syntax.proofs.Building.TermsLeftLaws.{pair_falls, same_falls}
use Rattle.goal_syntax.proofs.Building.TermHeightLaws.{pair_low}
use Rattle.kan_model.specs.Programs.Drafts.{templates}
use Rattle.std.proofs.Common.{arith}
use Rattle.goal_syntax.proofs.Building.EntryLaws.{pair_entries, term_pushed}
use Rattle.goal_syntax.specs.declared.build_term.Work.TheVariants.{Term}
use Rattle.goal_syntax.proofs.build_term.build_step.Goals as goal

pub returns-in_ok-push-in-Pair-3-clause-falls : goal.returns-in_ok-push-in-Pair-3-clause-falls
returns-in_ok-push-in-Pair-3-clause-falls c =
    rw c.in-Pair.is (pair_falls (sites c.args.context.now.flat.now) c.args.works.now.items _ _ _ c.in-Pair.first c.in-Pair.rest c.in_ok-push-in-Pair.ensures.items c.in_ok-push-in-Pair-2.ensures.items c.in_ok-push-in-Pair-3.ensures.items)

pub returns-in_ok-push-in-Same-clause-falls : goal.returns-in_ok-push-in-Same-clause-falls
returns-in_ok-push-in-Same-clause-falls c =
    rw c.in-Same.is (same_falls (sites c.args.context.now.flat.now) c.args.works.now.items _ c.in-Same.task c.in_ok-push-in-Same.ensures.items)

pub returns-in_ok-push-in-Pair-3-clause-low : goal.returns-in_ok-push-in-Pair-3-clause-low
returns-in_ok-push-in-Pair-3-clause-low c = λ left there.
    pair_low (sites c.args.context.now.flat.now) c.args.context.now.names.now c.args.scope.now c.args.works.now.items _ _ c.push-in-Pair-2.new.self.items c.in-Pair.first c.in-Pair.rest
    (templates c.args.draft.now) c.args.places.now.items c.in_ok-push-in-Pair.ensures.items c.in_ok-push-in-Pair-2.ensures.items c.in_ok-push-in-Pair-3.ensures.items (rw c.in-Pair.is at left) there

pub returns-in_ok-push-in-Pair-3-clause-room : goal.returns-in_ok-push-in-Pair-3-clause-room
returns-in_ok-push-in-Pair-3-clause-room c =
    let same = pair_entries (sites c.args.context.now.flat.now) c.args.context.now.names.now c.args.works.now.items _ _ _ c.in-Pair.first c.in-Pair.rest c.in_ok-push-in-Pair.ensures.items c.in_ok-push-in-Pair-2.ensures.items c.in_ok-push-in-Pair-3.ensures.items in
    rw c.in-Pair.is (omega (arith, same))

pub returns-in_ok-push-in-Same-clause-room : goal.returns-in_ok-push-in-Same-clause-room
returns-in_ok-push-in-Same-clause-room c =
    let same = term_pushed (sites c.args.context.now.flat.now) c.args.context.now.names.now c.args.works.now.items _ (Term c.in-Same.task) c.in_ok-push-in-Same.ensures.items in
    rw c.in-Same.is (omega (arith, same))
