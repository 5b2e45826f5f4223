-- What the examples of texts share: a table of names, and the readings of texts over it.
use Rattle.std.specs.Prelude.{ℕ, List, [], ◌∷◌, ◌++◌, Option, map}
use Rattle.kan_terms.specs.Table.{Table}
use Rattle.kan_grammar.specs.Data.Written.{Written}
use Rattle.kan_grammar.specs.Data.Faults.{Fault, Reading, data_are, refused}
use Rattle.kan_grammar.specs.Texts.Language.{Spelled, spelled, form_names, goal_names, constraint_names, term_names, word}
use Rattle.kan_grammar.specs.Texts.Sited.{with_sites}
use Rattle.kan_grammar.specs.Texts.ProgramText.{Meant, text_meaning}
use Rattle.kan_grammar.specs.Texts.TextFaults.{fault_of_text, faults_of}
use Rattle.kan_grammar.proofs.Data.Examples.Readings.{read_ascii}
use Rattle.kan_grammar.specs.declared.dialect.Dialect.TheVariants.{Book, All}
use lib.Chars.{codes}

abbrev spelling_of : Spelled → List ℕ
spelling_of (spelled w text) = text

-- the numbers of the names of the language are 0 to 21; then come a, b, c, q, x, y, z, two, foo, nullo, from 22 on; the strings are a and b
abbrev pub table : Table
table = record { symbols = map spelling_of (form_names ++ goal_names ++ constraint_names ++ term_names) ++ codes "a" ∷ codes "b" ∷ codes "c" ∷ codes "q" ∷ codes "x" ∷ codes "y" ∷ codes "z" ∷ codes "two" ∷ codes "foo" ∷ codes "nullo" ∷ []; strings = codes "a" ∷ codes "b" ∷ [] }

abbrev data_of : Reading Written → List Written
data_of (data_are ds) = ds
data_of (refused f) = []

-- the data of a text
unfoldable pub text : List ℕ → List Written
unfolding read_ascii
text bytes = data_of (read_ascii bytes)

-- the fault of a text without the library
unfoldable pub fault_in : List ℕ → Option Fault
unfolding faults_of word text
fault_in bytes = fault_of_text table [] (text bytes)

-- the same with a library
unfoldable pub fault_behind : List ℕ → List ℕ → Option Fault
unfolding faults_of word text
fault_behind library bytes = fault_of_text table (text library) (text bytes)

-- what a text means without the library, in the dialect of the book
unfoldable pub meaning : List ℕ → Meant
unfolding text_meaning word text
meaning bytes = text_meaning Book table [] (map (with_sites table) (text bytes))

-- the same in the dialect in which fresh and conde suspend too
unfoldable pub meaning_in_all : List ℕ → Meant
unfolding text_meaning word text
meaning_in_all bytes = text_meaning All table [] (map (with_sites table) (text bytes))
