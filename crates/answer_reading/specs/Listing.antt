-- Names and constraints at the front of a text.
use Rattle.std.specs.Prelude.{◌≡◌, ℕ, ◌^◌, Bool, true, false, ◌&&◌, nat_lt, ◌==◌, if◌then◌else◌}
use Rattle.std.specs.Prelude.{List, [], ◌∷◌, ◌++◌, drop, map, codes, Option, Some}
use Rattle.std.specs.List.{flat_map, list_all}
use Rattle.kan_terms.specs.Table.{Table}
use Rattle.kan_model.specs.Answers.Answer as model
use Rattle.kan_model.specs.Answers.AnswerText.{absence_text, answer_text, names_texts}
use Rattle.kan_model.specs.Answers.Text.{name_text, with_spaces}
use Rattle.reify.specs.declared.answers.Absence.{Absence}
use Rattle.reify.specs.declared.shaping.NamePair.{NamePair}
use Rattle.reify.specs.declared.shaping.Shape.TheVariants.{Sym}
use Rattle.reify.specs.Constraints.{behind_space}
use Rattle.reify.specs.OverNames.{absence}
use Rattle.reify.specs.Shapes.{named_pair, spelling, spells, tree_of}
use Rattle.answer_reading.specs.declared.constraints.Kinds.{Kinds}
use Rattle.answer_reading.specs.declared.constraints.Parts.{Parts}
use Rattle.answer_reading.specs.Forming.{are_whole}
use Rattle.term_reading.specs.Reading.{text_from}
use Rattle.term_reading.specs.Words.{Continues, is_fine, is_known}

-- the first byte is this one, and the fourth
abbrev pub begins : ℕ → List ℕ → Bool
begins b [] = false
begins b (c ∷ cs) = c == b

abbrev pub has_fourth : ℕ → List ℕ → Bool
has_fourth b bs = begins b (drop 3 bs)

-- bytes without a space at the front
abbrev pub past_space : List ℕ → List ℕ
past_space [] = []
past_space (b ∷ bs) = if b == 32 then bs else b ∷ bs

-- a name's number is one that the code holds
abbrev pub is_short : ℕ → Bool
is_short n = nat_lt n (2 ^ 64)

-- where these bytes begin with names and a close, they are these, and this is left
abbrev pub GetsNames : List ℕ → List ℕ → List ℕ → Type 0
GetsNames bytes names left =
    (ns more : List ℕ) → list_all is_short ns ≡ true → bytes ≡ with_spaces (map name_text ns) ++ 41
    ∷ more → (names ≡ ns) × (left ≡ 41 ∷ more)

-- the text of a pair of shapes
abbrev pub pair_text : Table → NamePair → List ℕ
pair_text table p =
    codes "(" ++ name_text p.name ++ codes " " ++ text_from table true 0 p.term ++ codes ")"

abbrev pub is_fine_pair : Table → NamePair → Bool
is_fine_pair table p = is_short p.name && spells 1 p.term && list_all (is_fine table) p.term

abbrev pub GetsPair : Table → List ℕ → NamePair → List ℕ → Type 0
GetsPair new bytes pair left =
    (table : Table) → Continues new table → (p : NamePair) (more : List ℕ) → is_fine_pair table p
    ≡ true → bytes ≡ pair_text table p ++ more → (pair ≡ p) × (left ≡ more)

abbrev pub GetsPairs : Table → List ℕ → List NamePair → List ℕ → Type 0
GetsPairs new bytes pairs left =
    (table : Table) → Continues new table → (ps : List NamePair) (more : List ℕ) →
    list_all (is_fine_pair table) ps ≡ true →
    bytes ≡ with_spaces (map (pair_text table) ps) ++ 41 ∷ more → (pairs ≡ ps) × (left ≡ 41 ∷ more)

-- disequalities behind spaces
abbrev pub difference_text : Table → List NamePair → List ℕ
difference_text table ps = codes "(=/= (" ++ with_spaces (map (pair_text table) ps) ++ codes "))"

abbrev pub GetsDifferences : Table → List ℕ → List (List NamePair) → List ℕ → Type 0
GetsDifferences new bytes differences left =
    (table : Table) → Continues new table → (ds : List (List NamePair)) (more : List ℕ) →
    list_all (list_all (is_fine_pair table)) ds ≡ true → has_fourth 47 more ≡ false →
    bytes ≡ flat_map behind_space (map (difference_text table) ds) ++ more → (differences ≡ ds)
    × (left ≡ more)

-- names with a word whose second letter is known, behind a space, or nothing
abbrev pub GetsKind : ℕ → List ℕ → List ℕ → List ℕ → Type 0
GetsKind letter bytes names left =
    (a c : ℕ) (ns more : List ℕ) → list_all is_short ns ≡ true → has_fourth letter more ≡ false →
    bytes ≡ flat_map behind_space (names_texts (a ∷ letter ∷ c ∷ []) ns) ++ more → (names ≡ ns)
    × (left ≡ more)

-- the names of the three types
abbrev pub kinds_text : List ℕ → List ℕ → List ℕ → List ℕ
kinds_text numbers symbols strings =
    flat_map behind_space (names_texts (codes "num") numbers)
    ++ flat_map behind_space (names_texts (codes "sym") symbols)
    ++ flat_map behind_space (names_texts (codes "str") strings)

abbrev pub GetsKinds : List ℕ → Kinds → List ℕ → Type 0
GetsKinds bytes kinds left =
    (numbers symbols strings more : List ℕ) → list_all is_short numbers ≡ true →
    list_all is_short symbols ≡ true → list_all is_short strings ≡ true →
    has_fourth 117 more ≡ false → has_fourth 121 more ≡ false → has_fourth 116 more ≡ false → bytes
    ≡ kinds_text numbers symbols strings ++ more →
    (kinds.numbers.items ≡ numbers) × (kinds.symbols.items ≡ symbols)
    × (kinds.strings.items ≡ strings) × (left ≡ more)

-- absences behind spaces
abbrev pub is_fine_absence : Table → model.Absence → Bool
is_fine_absence table a = is_fine table (Sym a.tag) && list_all is_short a.names

abbrev pub GetsAbsence : Table → List ℕ → Option model.Absence → List ℕ → Type 0
GetsAbsence new bytes kept left =
    (table : Table) → Continues new table → (a : model.Absence) (more : List ℕ) →
    is_fine_absence table a ≡ true → bytes ≡ behind_space (absence_text table a) ++ more →
    (kept ≡ Some a) × (left ≡ more)

abbrev pub GetsAbsences : Table → List ℕ → List model.Absence → Type 0
GetsAbsences new bytes absences =
    (table : Table) → Continues new table → (as_ : List model.Absence) →
    list_all (is_fine_absence table) as_ ≡ true → bytes
    ≡ flat_map behind_space (map (absence_text table) as_) → absences ≡ as_

-- the answer that the parts are
abbrev pub meaning : Parts → model.Answer
meaning parts = record {
  term = tree_of parts.term;
  disequalities = map (map named_pair) parts.disequalities.items;
  numbers = parts.kinds.numbers.items;
  symbols = parts.kinds.symbols.items;
  strings = parts.kinds.strings.items;
  absences = map absence parts.absences.items;
}

-- the symbols and strings of parts stand in a table
abbrev pub is_pair_known : Table → NamePair → Bool
is_pair_known table p = list_all (is_known table) p.term

abbrev pub is_absence_known : Table → Absence → Bool
is_absence_known table kept = is_known table (Sym kept.tag)

abbrev pub are_constraints_known : Table → Parts → Bool
are_constraints_known table parts =
    list_all (list_all (is_pair_known table)) parts.disequalities.items
    && list_all (is_absence_known table) parts.absences.items

abbrev pub are_parts_known : Table → Parts → Bool
are_parts_known table parts =
    list_all (is_known table) parts.term && are_constraints_known table parts

-- all constraints, each behind a space
abbrev pub constraints_text : Table → List (List NamePair) → List ℕ → List ℕ → List ℕ →
    List model.Absence → List ℕ
constraints_text table ds numbers symbols strings as_ =
    flat_map behind_space (map (difference_text table) ds) ++ kinds_text numbers symbols strings
    ++ flat_map behind_space (map (absence_text table) as_)

-- parts have these constraints
abbrev pub HasConstraints : Parts → List (List NamePair) → List ℕ → List ℕ → List ℕ →
    List model.Absence → Type 0
HasConstraints parts ds numbers symbols strings as_ =
    (parts.disequalities.items ≡ ds) × (parts.kinds.numbers.items ≡ numbers)
    × (parts.kinds.symbols.items ≡ symbols) × (parts.kinds.strings.items ≡ strings)
    × (map absence parts.absences.items ≡ as_)

-- numbers of names, and shapes, of constraints that there can be
abbrev pub are_fine_constraints : Table → List (List NamePair) → List ℕ → List ℕ → List ℕ →
    List model.Absence → Bool
are_fine_constraints table ds numbers symbols strings as_ =
    list_all (list_all (is_fine_pair table)) ds && list_all is_short numbers
    && list_all is_short symbols && list_all is_short strings
    && list_all (is_fine_absence table) as_

abbrev pub GetsConstraints : Table → List ℕ → Parts → Type 0
GetsConstraints new bytes parts =
    (table : Table) → Continues new table →
    (ds : List (List NamePair)) (numbers symbols strings : List ℕ) (as_ : List model.Absence) →
    are_fine_constraints table ds numbers symbols strings as_ ≡ true → bytes
    ≡ constraints_text table ds numbers symbols strings as_ →
    HasConstraints parts ds numbers symbols strings as_

-- an answer as shapes
abbrev pub shaped_pair : model.NamedPair → NamePair
shaped_pair p = record { name = p.name; term = spelling p.by }

-- and what there can be of it
abbrev pub is_fine_answer : Table → model.Answer → Bool
is_fine_answer table a =
    list_all (is_fine table) (spelling a.term)
    && are_fine_constraints table (map (map shaped_pair) a.disequalities) a.numbers a.symbols
    a.strings a.absences

abbrev pub GetsParts : Table → List ℕ → Parts → Type 0
GetsParts new line parts =
    (table : Table) → Continues new table → (a : model.Answer) → is_fine_answer table a ≡ true →
    answer_text table a ≡ line →
    (are_whole parts.term parts.disequalities.items ≡ true) × (meaning parts ≡ a)
