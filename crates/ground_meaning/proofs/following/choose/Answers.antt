use Rattle.std.proofs.Common.{arith}
use Rattle.ground_meaning.proofs.FollowingLaws.{choose_follows}
use Rattle.ground_meaning.proofs.following.choose.Goals as goal

pub returns-in_ok-push-in-Fresh : goal.returns-in_ok-push-in-Fresh
returns-in_ok-push-in-Fresh c =
    choose_follows c.args._program.now c.args.node c.args.values.now c.args.chosen.now c.in_ok-all-in-Fresh.all _ _ _ _ c.in-Fresh.is (omega (arith, c.len.ensures, c.if-len-count.false))
    c.in_ok-all-in-Fresh.ensures c.in_ok-push-in-Fresh.ensures.items
