use Rattle.std.proofs.Common.{map, take}
use Rattle.kan_model.specs.Answers.AnswerText.{pair_text}
use Rattle.reify.specs.Shapes.{named_pair}
use Rattle.reify.proofs.TextLaws.{put_next, items_more, so_many_twice}
use Rattle.reify.proofs.constraints.print_pairs.Goals as goal

pub loop-at-preserved : goal.loop-at-preserved
loop-at-preserved c =
    put_next (map (pair_text c.args.names.now) (map named_pair (take c.loop-at.at c.args.pairs.now))) _ _ _ _ _ _ _
    (items_more (pair_text c.args.names.now) named_pair c.args.pairs.now c.loop-at.at c.index-pairs-at.result c.loop-at-test.true c.index-pairs-at.is)
    (so_many_twice (pair_text c.args.names.now) named_pair c.args.pairs.now c.loop-at.at c.loop-at-test.true)
    c.loop-at.invariant c.in_ok-separate.ensures c.in_ok-print_pair.ensures
