use Rattle.std.proofs.Common.{arith}
use Rattle.kan_model.specs.Programs.Drafts.{tables}
use Rattle.goal_forms.specs.Parts.{sites}
use Rattle.goal_syntax.proofs.Building.TermsLeftLaws.{adds_on, work_done, work_falls, last_built, all_done}
use Rattle.goal_syntax.proofs.Building.TermHeightLaws.{work_low}
use Rattle.std.proofs.Common.{[], ◌∷◌, ◌++◌, ap, ◌∙◌}
use Rattle.goal_syntax.proofs.Building.TermHeightLaws.{first_low, first_made, first_below}
use Rattle.goal_syntax.proofs.Building.TermsLeftLaws.{adds_none}
use Rattle.kan_model.specs.Programs.Drafts.{templates}
use Rattle.goal_syntax.specs.declared.build_term.Work.TheVariants.{Term}
use Rattle.goal_syntax.proofs.Building.EntryLaws.{term_pushed}
use Rattle.goal_syntax.specs.Building.TermsLeft as terms
use Rattle.goal_syntax.proofs.build_term.build_term.Goals as goal

pub loop-work-smaller : goal.loop-work-smaller
loop-work-smaller c = work_falls (sites c.args.context.now.flat.now) _ _ _ c.in-Some.work c.in-Some.ensures.items c.in_ok-build_work.ensures.falls

pub loop-work-preserved : goal.loop-work-preserved
loop-work-preserved c = record {
  made = work_done (sites c.args.context.now.flat.now) c.args.context.now.names.now c.args.scope.now _ _ c.build_work.new.works.items c.in-Some.work _ _ _ c.in-Some.ensures.items c.in_ok-build_work.ensures.made c.loop-work.invariant.made;
  below = c.in_ok-build_work.ensures.below;
  adds = adds_on (tables c.args.draft.now) (tables c.loop-work.draft) _ c.loop-work.invariant.adds c.in_ok-build_work.ensures.adds;
  named = omega (arith, c.in_ok-build_work.ensures.named, c.loop-work.invariant.named);
  few = omega (
    arith,
    term_pushed (sites c.args.context.now.flat.now) c.args.context.now.names.now _ c.loop-work.works.items c.in-Some.work c.in-Some.ensures.items,
    c.in_ok-build_work.ensures.room,
    c.loop-work.invariant.few,
  );
  low = λ data_low there.
      work_low (sites c.args.context.now.flat.now) c.args.context.now.names.now c.args.scope.now _ _ c.build_work.new.works.items c.in-Some.work _ _ _ _ c.in-Some.ensures.items c.in_ok-build_work.ensures.low
      (c.loop-work.invariant.low data_low there);
}

pub returns-clause-made : goal.returns-clause-made
returns-clause-made c =
    last_built (tables c.loop-work.draft) c.loop-work.places.items _ _ _ c.in-Some-pop.ensures.items c.loop-work.invariant.below
    (all_done (sites c.args.context.now.flat.now) c.args.context.now.names.now c.args.scope.now c.loop-work.works.items _ _ (omega (arith, c.in_default.ensures.cases)) c.loop-work.invariant.made)

pub loop-work-init : goal.loop-work-init
loop-work-init c =
    let ds = sites c.args.context.now.flat.now in
    let names = c.args.context.now.names.now in
    let started = c.in_ok-push.ensures.items ∙ ap (λ l. l ++ Term c.args.task ∷ []) c.new-works.ensures.items in
    record {
      made = first_made ds names c.args.scope.now c.args.task c.push.new.self.items (templates c.args.draft.now) c.new-places.result.items started c.new-places.ensures.items;
      below = first_below _ c.new-places.result.items c.new-places.ensures.items;
      adds = adds_none (tables c.args.draft.now);
      named = omega arith;
      few = omega (arith, term_pushed ds names c.new-works.result.items _ (Term c.args.task) c.in_ok-push.ensures.items, ap (terms.works_entries ds names) c.new-works.ensures.items);
      low = first_low ds names c.args.scope.now c.args.task c.push.new.self.items (templates c.args.draft.now) c.new-places.result.items started c.new-places.ensures.items;
    }

pub build_work-requires-clause-room : goal.build_work-requires-clause-room
build_work-requires-clause-room c =
    omega (
      arith,
      term_pushed (sites c.args.context.now.flat.now) c.args.context.now.names.now _ c.loop-work.works.items c.in-Some.work c.in-Some.ensures.items,
      c.loop-work.invariant.few,
      c.requires.room,
    )
