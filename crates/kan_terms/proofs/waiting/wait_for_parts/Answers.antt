use Rattle.std.proofs.Common.{rules}
use Rattle.kan_terms.specs.Terms.{tree}
use Rattle.kan_terms.proofs.WaitingLaws.{parts_wait}
use Rattle.kan_terms.proofs.waiting.wait_for_parts.Goals as goal

pub returns-in_ok-push-2 : goal.returns-in_ok-push-2
returns-in_ok-push-2 c = parts_wait _ _ _ _ _ (tree c.args.term.now) c.in_ok-push.ensures.items c.in_ok-push-2.ensures.items (search rules)
