use Rattle.ground_meaning.proofs.FollowingLaws.{both_follows}
use Rattle.ground_meaning.proofs.following.both.Goals as goal

pub returns-in_ok-push-in-Both-2 : goal.returns-in_ok-push-in-Both-2
returns-in_ok-push-in-Both-2 c =
    both_follows c.args._program.now c.args.node c.args.values _ _ _ _ _ _ c.in-Both.is c.in_ok-copies-in-Both.ensures c.in_ok-push-in-Both.ensures.items c.in_ok-push-in-Both-2.ensures.items
