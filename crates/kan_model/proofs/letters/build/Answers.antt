use Rattle.std.proofs.Common.{rules}
use Rattle.kan_model.proofs.LettersLaws.{built_step, built_last, last_off, letter_fits}
use Rattle.kan_model.proofs.letters.build.Goals as goal

pub put_on_stack-requires : goal.put_on_stack-requires
put_on_stack-requires c =
    letter_fits c.loop-letter.letters.items _ c.args.letters.items c.in-Some.letter _ c.in-Some.ensures.items c.loop-letter.invariant c.requires

pub loop-letter-preserved : goal.loop-letter-preserved
loop-letter-preserved c =
    built_step _ _ _ _ _ _ c.in-Some.ensures.items c.loop-letter.invariant c.in_ok-put_on_stack.ensures

pub returns : goal.returns
returns c =
    built_last c.loop-letter.letters.items c.args.letters.items c.loop-letter.stack.items _ c.unwrap.result (search rules) c.loop-letter.invariant c.requires
    (last_off _ _ _ _ c.unwrap.ensures c.pop-2.ensures.items)
