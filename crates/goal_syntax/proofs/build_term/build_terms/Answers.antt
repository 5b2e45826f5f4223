use Rattle.kan_model.specs.Programs.Drafts.{tables}
use Rattle.goal_syntax.specs.Building.TermsLeft.{AddsTerms}
use Rattle.goal_forms.specs.Parts.{sites, site_at}
use Rattle.goal_syntax.proofs.Building.TermsLeftLaws.{adds_on, put_below, terms_next, terms_of_pair}
use Rattle.goal_syntax.proofs.Building.TermHeightLaws.{low_on}
use Rattle.std.proofs.Common.{arith}
use Rattle.goal_syntax.proofs.Building.EntryLaws.{terms_more}
use Rattle.goal_syntax.proofs.build_term.build_terms.Goals as goal

pub loop-first-preserved : goal.loop-first-preserved
loop-first-preserved c =
    let made = c.in_ok-term.ensures in
    let more : AddsTerms (tables c.loop-first.draft) (tables c.build_term.new.draft) = record { grows = made.grows; same = made.same } in
    record {
      are = terms_next (tables c.loop-first.draft) (tables c.build_term.new.draft) c.loop-first.places.items _ _ _ _ _ _ c.in_ok-push.ensures.items made.made made.grows c.loop-first.invariant.below
          (terms_of_pair c.args.scope.now c.args.context.now.names.now (site_at (sites c.args.context.now.flat.now) c.loop-first.place) _ _ c.in-Some.ensures.parts) c.loop-first.invariant.are;
      below = put_below (tables c.loop-first.draft) (tables c.build_term.new.draft) c.loop-first.places.items _ _ _ c.in_ok-push.ensures.items made.made made.grows c.loop-first.invariant.below;
      adds = adds_on (tables c.args.draft.now) (tables c.loop-first.draft) _ c.loop-first.invariant.adds more;
      named = omega (arith, c.loop-first.invariant.named, c.in_ok-term.ensures.named);
      few = omega (
        arith,
        terms_more c.args.context.now.names.now (site_at (sites c.args.context.now.flat.now) c.loop-first.place) _ _ c.in-Some.ensures.parts,
        made.room,
        c.loop-first.invariant.few,
      );
      low = low_on (sites c.args.context.now.flat.now) (tables c.args.draft.now) (tables c.loop-first.draft) (tables c.build_term.new.draft) c.loop-first.invariant.low made.low;
    }

pub build_term-requires-clause-room : goal.build_term-requires-clause-room
build_term-requires-clause-room c =
    omega (
      arith,
      terms_more c.args.context.now.names.now (site_at (sites c.args.context.now.flat.now) c.loop-first.place) _ _ c.in-Some.ensures.parts,
      c.loop-first.invariant.few,
      c.requires.room,
    )
