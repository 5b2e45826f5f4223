-- Absences, as a map that gives a variable the tags that stand nowhere in it, in the order in which
-- they came.
use Rattle.std.specs.Prelude.{◌≡◌, ℕ, true, false, List, Option, Some, None, Contains}
use Rattle.std.specs.Prelude.{if◌then◌else◌}
use Rattle.kan_terms.specs.Tree.{Tm, Gd, occurs, has_symbol}
use Rattle.type_absence.specs.Tags.{with_tag, with_tags, has_any}

-- absences of variables
abbrev pub TagsOf : Type 0
TagsOf = ℕ → List ℕ

-- the absences with a tag more for each variable of a term, and none exactly where the tag stands
-- in the term
abbrev pub GivesTag : TagsOf → ℕ → Tm → Option TagsOf → Type 0
GivesTag old tag t None = has_symbol tag t ≡ true
GivesTag old tag t (Some new) =
    (has_symbol tag t ≡ false)
    × ((v : ℕ) → new v ≡ (if occurs v t then with_tag tag (old v) else old v))

-- the same with several tags, one after the other, and none exactly where one of them stands in the
-- term
abbrev pub GivesTags : TagsOf → List ℕ → Tm → Option TagsOf → Type 0
GivesTags old tags t None = has_any tags t ≡ true
GivesTags old tags t (Some new) =
    (has_any tags t ≡ false)
    × ((v : ℕ) → new v ≡ (if occurs v t then with_tags tags (old v) else old v))

-- none of a variable's tags stands in what f puts for it
abbrev pub Free : (ℕ → Gd) → TagsOf → Type 0
Free f tags = (v tag : ℕ) → Contains (tags v) tag → has_symbol tag (f v) ≡ false
