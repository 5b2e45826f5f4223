use Rattle.ground_meaning.proofs.FollowingLaws.{later_follows}
use Rattle.ground_meaning.proofs.following.enter.Goals as goal

pub returns-in_ok-push-in-Later : goal.returns-in_ok-push-in-Later
returns-in_ok-push-in-Later c = later_follows c.args.program.now c.args.node c.args.values _ _ _ c.in-Later.is c.in_ok-push-in-Later.ensures.items
