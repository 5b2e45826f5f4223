use Rattle.std.proofs.Common.{◌∙◌, suc, ◌≡◌, ◌+◌, arith}
use Rattle.kan_tree.proofs.LookLaws.{if_ok_map}
use Rattle.kan_tree.proofs.heights.+raise.Goals as goal

pub returns-clause-same : goal.returns-clause-same
returns-clause-same g t c = if_ok_map c.raise.result (λ r h k. h k ∙ (let e : c.args.level + 1 ≡ suc c.args.level = omega arith in rw e (c.in_ok-above.ensures c.args.level k))) c.raise.ensures.same
