use Rattle.std.proofs.Common.{◌≡◌, drop}
use Rattle.type_absence.specs.Tags.{is_listed}
use Rattle.type_absence.proofs.tags.lists.Given as goal

-- the tag is listed where it is from the index on
abbrev pub invariant-loop-other : goal.invariant-loop-other
invariant-loop-other l = is_listed l.tag l.tags ≡ is_listed l.tag (drop l.other-index l.tags)
