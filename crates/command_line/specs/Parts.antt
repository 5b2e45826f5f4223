-- What the words of a command line are, one after another: options, flags and files.
use Rattle.std.specs.Prelude.{ℕ, Bool, true, false, ◌==◌, List, [], ◌∷◌, Option, Some, None}
use Rattle.std.specs.Prelude.{map, option_map, codes, bytes_eq, if◌then◌else◌}
use Rattle.std.specs.List.{list_any, before_first, after_first}

abbrev pub Text : Type 0
Text = List ℕ

-- how a word is spelled: the two dashes that end the options; a name behind two dashes, maybe with
-- a value behind the first equals sign; any other word that begins with a dash and goes on; and
-- every other word, of which one is the dash alone
pub data Spelling : Type 0 where
  end : Spelling
  named : Text → Option Text → Spelling
  dashed : Spelling
  plain : Spelling

-- what stands behind a first byte, where the text begins with it
abbrev pub behind : ℕ → Text → Option Text
behind c [] = None
behind c (b ∷ bs) = if b == c then Some bs else None

-- the name before the first equals sign, and the value behind it
abbrev pub is_equals : ℕ → Bool
is_equals b = b == 61

abbrev pub before_value : Text → Text
before_value text = before_first is_equals text

abbrev pub value_in : Text → Option Text
value_in text = if list_any is_equals text then Some (after_first is_equals text) else None

-- what two dashes begin
abbrev pub of_name : Text → Spelling
of_name [] = end
of_name (b ∷ bs) = named (before_value (b ∷ bs)) (value_in (b ∷ bs))

abbrev pub of_second : Option Text → Spelling
of_second None = dashed
of_second (Some text) = of_name text

-- what one dash begins
abbrev pub of_rest : Text → Spelling
of_rest [] = plain
of_rest (b ∷ bs) = of_second (behind 45 (b ∷ bs))

abbrev pub of_first : Option Text → Spelling
of_first None = plain
of_first (Some text) = of_rest text

abbrev pub spelling : Text → Spelling
spelling word = of_first (behind 45 word)

-- the options that take a value
pub data Setting : Type 0 where
  Workers : Setting
  Fuel : Setting
  Ahead : Setting
  Round : Setting
  Dialect : Setting
  Gen : Setting

-- the options that take a value, by their names
abbrev pub setting_named : Text → Option Setting
setting_named text =
    if bytes_eq (codes "workers") text then Some Workers
    else if bytes_eq (codes "fuel") text then Some Fuel
    else if bytes_eq (codes "ahead") text then Some Ahead
    else if bytes_eq (codes "round") text then Some Round
    else if bytes_eq (codes "dialect") text then Some Dialect
    else if bytes_eq (codes "gen") text then Some Gen
    else None

-- the one option that takes none
abbrev pub names_library : Text → Bool
names_library text = bytes_eq (codes "lib") text

-- a part of a line: an option with its value, the option for the library, or a file
pub data Part : Type 0 where
  setting : Setting → Text → Part
  library : Part
  file : Text → Part

-- a part, and what follows it
abbrev pub with_part : Part → Option (List Part) → Option (List Part)
with_part p rest = option_map (λ ps. p ∷ ps) rest

-- an option by its name, with the value that its word has, and what follows, where an option may
-- await its value
abbrev pub named_part : Option Setting → Bool → Option Text
    → (Option Setting → Option (List Part)) → Option (List Part)
named_part (Some s) lib None go = go (Some s)
named_part (Some s) lib (Some v) go = with_part (setting s v) (go None)
named_part None true None go = with_part library (go None)
named_part None true (Some v) go = None
named_part None false value go = None

-- a word where an option or a file may stand
abbrev pub part_at : Spelling → Text → List Text
    → (Option Setting → Option (List Part)) → Option (List Part)
part_at end word rest go = Some (map file rest)
part_at (named name value) word rest go =
    named_part (setting_named name) (names_library name) value go
part_at dashed word rest go = None
part_at plain word rest go = with_part (file word) (go None)

-- a word where an option awaits its value, which begins with no dash
abbrev pub value_at : Setting → Spelling → Text → Option (List Part) → Option (List Part)
value_at s plain word rest = with_part (setting s word) rest
value_at s end word rest = None
value_at s (named name value) word rest = None
value_at s dashed word rest = None

-- the parts of words, where an option may await its value; none where they aren't parts of a line
abbrev pub parts_from : Option Setting → List Text → Option (List Part)
parts_from None [] = Some []
parts_from (Some s) [] = None
parts_from None (w ∷ ws) = part_at (spelling w) w ws (λ awaited. parts_from awaited ws)
parts_from (Some s) (w ∷ ws) = value_at s (spelling w) w (parts_from None ws)

abbrev pub parts : List Text → Option (List Part)
parts words = parts_from None words
