use Rattle.std.proofs.Common.{◌≡◌, drop}
use Rattle.type_absence.specs.Tags.{with_tags}
use Rattle.type_absence.proofs.tags.put_all.Given as goal

-- with the tags from the index on the list is what it is to be
abbrev pub invariant-loop-tag : goal.invariant-loop-tag
invariant-loop-tag l = with_tags (drop l.tag-index l.more) l.tags ≡ with_tags l.more l.fn.tags
