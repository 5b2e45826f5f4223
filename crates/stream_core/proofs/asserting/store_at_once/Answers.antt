use Rattle.stream_core.proofs.ClosedLaws.{not-at-once}
use Rattle.stream_core.proofs.asserting.store_at_once.Goals as goal

pub unreachable-requires : goal.unreachable-requires
unreachable-requires g c =
    not-at-once c.args.node c.requires.ends c.in_default.not-Succeed c.in_default.not-Fail c.in_default.not-Same c.in_default.not-Differ c.in_default.not-Symbol c.in_default.not-Number
    c.in_default.not-Text c.in_default.not-Absent
