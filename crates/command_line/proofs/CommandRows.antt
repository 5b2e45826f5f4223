-- Lines of the command and words that are none, worked out.
use Rattle.std.proofs.Common.{◌≡◌, true, false, ◌==◌, List, [], ◌∷◌, ◌++◌, map, Some, None, codes, refl, if◌then◌else◌}
use Rattle.std.specs.List.{list_any}
use Rattle.kan_grammar.specs.declared.dialect.Dialect.TheVariants.{Book, All}
use Rattle.command_line.specs.Parts.{Text}
use Rattle.command_line.specs.Lines.{Line, line, is_line}

-- the words of a text, between single spaces: two spaces in a row have an empty word between them
abbrev split : Text → Text → List Text
split w [] = w ∷ []
split w (b ∷ bs) = if b == 32 then w ∷ split [] bs else split (w ++ b ∷ []) bs

abbrev words : Text → List Text
words [] = []
words (b ∷ bs) = split [] (b ∷ bs)

-- words that are no line of the command, each for one reason
abbrev refused : List Text
refused =
    -- a number below its range, or above it
    codes "--fuel 0" ∷ codes "--ahead 0" ∷ codes "--round 0" ∷ codes "--workers 65" ∷ codes "--fuel 1000001" ∷ codes "--ahead 65537" ∷ codes "--round=65537" ∷ codes "--gen 401" ∷
    -- no digits, or something beside them
    codes "--workers=" ∷ codes "--fuel +3" ∷ codes "--fuel 3x" ∷ codes "--gen=-1" ∷ codes "--workers 1.0" ∷ codes "--fuel  f" ∷ codes "--gen 3 " ∷
    -- a number that no machine word holds
    codes "--fuel 18446744073709551617" ∷
    -- a value that is missing, or that stands where none is taken
    codes "--fuel" ∷ codes "--fuel --lib" ∷ codes "--fuel -- 3" ∷ codes "--lib=" ∷ codes "--lib=3" ∷
    -- an option twice, in one spelling or in two
    codes "--fuel 1 --fuel 1" ∷ codes "--lib --lib" ∷ codes "--gen=3 --gen 3" ∷ codes "--dialect all f --dialect=book" ∷
    -- two files, before the end of the options and behind it
    codes "a b" ∷ codes "a -- b" ∷ codes "- -" ∷ codes "-- a --" ∷
    -- a file without a name
    codes "-- " ∷
    -- a file beside a load
    codes "--gen 3 f" ∷ codes "f --gen=3" ∷ codes "--gen 3 -- f" ∷ codes "--gen 3 -" ∷
    -- names that no option has: short ones, shortened ones, others
    codes "-l" ∷ codes "-h" ∷ codes "-3" ∷ codes "--work 1" ∷ codes "--Lib" ∷ codes "--speed 1" ∷ codes "--help" ∷ codes "--version" ∷ codes "--=3" ∷ codes "---" ∷ codes "--libs" ∷ codes "-lib" ∷
    -- a dialect that there isn't
    codes "--dialect old" ∷ codes "--dialect Book" ∷ codes "--dialect=" ∷ codes "--dialect" ∷
    []

none_is_line : list_any (λ w. is_line (words w)) refused ≡ false
unfolding line
none_is_line = refl

-- what no words ask for
abbrev plain : Line
plain = record { workers = 0; fuel = 100000; ahead = 256; round = 8192; library = false; load = None; dialect = Book; file = None }

-- words, and the line that they are
record Row : Type 0 where
  text : Text
  asks : Line

abbrev row : Text → Line → Row
row t l = record { text = t; asks = l }

abbrev accepted : List Row
accepted =
    row [] plain ∷
    row (codes "--") plain ∷
    row (codes "-") plain ∷
    row (codes "-- -") plain ∷
    row (codes "f") (record plain { file = Some (codes "f") }) ∷
    row (codes "-- f") (record plain { file = Some (codes "f") }) ∷
    row (codes "-- --lib") (record plain { file = Some (codes "--lib") }) ∷
    row (codes "-- --") (record plain { file = Some (codes "--") }) ∷
    row (codes "--fuel 1") (record plain { fuel = 1 }) ∷
    row (codes "--fuel=1000000") (record plain { fuel = 1000000 }) ∷
    row (codes "--fuel=0000000000000000000000007 f") (record plain { fuel = 7; file = Some (codes "f") }) ∷
    row (codes "--lib --fuel 2") (record plain { library = true; fuel = 2 }) ∷
    row (codes "--fuel=2 --lib") (record plain { library = true; fuel = 2 }) ∷
    row (codes "--gen 3") (record plain { library = true; load = Some 3 }) ∷
    row (codes "--gen=0") (record plain { library = true; load = Some 0 }) ∷
    row (codes "--lib --gen 400") (record plain { library = true; load = Some 400 }) ∷
    row (codes "--gen 400 --lib --") (record plain { library = true; load = Some 400 }) ∷
    row (codes "--workers 64 f --ahead=1 --round 65536") (record plain { workers = 64; ahead = 1; round = 65536; file = Some (codes "f") }) ∷
    row (codes "f --round=65536 --ahead 1 --workers=64") (record plain { workers = 64; ahead = 1; round = 65536; file = Some (codes "f") }) ∷
    row (codes "--dialect all") (record plain { dialect = All }) ∷
    row (codes "--dialect=book -- a=b") (record plain { file = Some (codes "a=b") }) ∷
    row (codes "--workers 0 --lib --dialect=all --ahead 65536 - --round=1 --fuel 9") (record plain { library = true; dialect = All; ahead = 65536; round = 1; fuel = 9 }) ∷
    []

each_is_its_line : map (λ r. line (words r.text)) accepted ≡ map (λ r. Some r.asks) accepted
unfolding line
each_is_its_line = refl
