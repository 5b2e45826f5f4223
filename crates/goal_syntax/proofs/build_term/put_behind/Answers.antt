use Rattle.std.proofs.Common.{arith}
use Rattle.kan_model.specs.Programs.Drafts.{tables}
use Rattle.goal_syntax.proofs.Building.TermsLeftLaws.{adds_on, adds_argument, below_within, put_next}
use Rattle.goal_syntax.proofs.build_term.put_behind.Goals as goal

pub add_argument-requires-clause-there : goal.add_argument-requires-clause-there
add_argument-requires-clause-there c = below_within (tables c.args.draft.now) (tables c.loop-term.draft) c.args.terms.now _ c.loop-term.term-index c.loop-term.invariant.put c.requires.below c.loop-term-test.true

pub loop-term-preserved : goal.loop-term-preserved
loop-term-preserved c = record {
  put = put_next (tables c.args.draft.now) (tables c.loop-term.draft) _ c.args.terms.now c.loop-term.term-index c.loop-term.invariant.put c.in_ok-add_argument.ensures.put c.loop-term-test.true;
  adds = adds_on (tables c.args.draft.now) (tables c.loop-term.draft) _ c.loop-term.invariant.adds
      (adds_argument (tables c.loop-term.draft) _ _ c.in_ok-add_argument.ensures.put c.in_ok-add_argument.ensures.grows);
  named = λ names. omega (arith, c.in_ok-add_argument.ensures.named names, c.loop-term.invariant.named names);
  few = omega (arith, c.in_ok-add_argument.ensures.room, c.loop-term.invariant.few);
}
