-- What the maps of the code stand for.
use Rattle.std.specs.Prelude.{[], unwrap_or}
use Rattle.std.specs.Arc.{arc_value}
use Rattle.kan_tree.specs.UnderKeys.{under_key}
use Rattle.type_absence.specs.Types.{Types}
use Rattle.type_absence.specs.Absent.{TagsOf}
use Rattle.type_absence.specs.declared.typing.Kinds.{Kinds}
use Rattle.type_absence.specs.declared.absence.Absences.{Absences}

-- the type of a variable is what is stored at it
abbrev pub types : Kinds → Types
types kinds v = under_key (λ entry. entry.kind) kinds.stored v

-- the tags of a variable are what is stored at it, and no tag where there is nothing
abbrev pub tags : Absences → TagsOf
tags absences v = unwrap_or (under_key arc_value absences.stored v) []
