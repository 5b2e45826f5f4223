use Rattle.std.proofs.Common.{◌≡◌, drop}
use Rattle.type_absence.specs.Tags.{with_tags}
use Rattle.type_absence.proofs.tags.lists_all.Given as goal

-- where the tags from the index on change nothing, all of them change nothing
abbrev pub invariant-loop-tag : goal.invariant-loop-tag
invariant-loop-tag l = with_tags (drop l.tag-index l.more) l.tags ≡ l.tags → with_tags l.more l.tags ≡ l.tags
