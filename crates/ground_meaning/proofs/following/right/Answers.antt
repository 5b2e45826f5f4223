use Rattle.ground_meaning.proofs.FollowingLaws.{right_follows}
use Rattle.ground_meaning.proofs.following.right.Goals as goal

pub returns-in_ok-push-in-Either : goal.returns-in_ok-push-in-Either
returns-in_ok-push-in-Either c = right_follows c.args._program.now c.args.node c.args.values _ _ _ _ c.in-Either.is c.in_ok-push-in-Either.ensures.items
