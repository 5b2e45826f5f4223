use Rattle.std.proofs.Common.{map, take}
use Rattle.kan_model.specs.Answers.Text.{name_text}
use Rattle.reify.proofs.TextLaws.{put_next, one_more, so_many}
use Rattle.reify.proofs.constraints.print_names.Goals as goal

pub loop-at-preserved : goal.loop-at-preserved
loop-at-preserved c =
    put_next (map name_text (take c.loop-at.at c.args.listed.now)) _ _ _ _ _ _ _ (one_more name_text c.args.listed.now c.loop-at.at _ c.loop-at-test.true) (so_many name_text c.args.listed.now c.loop-at.at c.loop-at-test.true)
    c.loop-at.invariant c.in_ok-separate.ensures c.in_ok-print_name.ensures
