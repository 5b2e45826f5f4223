use Rattle.std.proofs.Common.{◌≡◌, take}
use Rattle.type_absence.proofs.tags.copied.Given as goal

-- the tags up to the index were copied
abbrev pub invariant-loop-tag : goal.invariant-loop-tag
invariant-loop-tag l = l.made ≡ take l.tag-index l.tags
