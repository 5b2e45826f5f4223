-- What a reading of a text answers.
use Rattle.std.specs.Prelude.{◌≡◌, ℕ, ◌+◌, ◌^◌, ◌<◌, List, length, map, IsTrue, Result, Ok, Err}
use Rattle.kan_terms.specs.Table.{Table, is_string_text}
use Rattle.kan_grammar.specs.Data.Words.{Token, atom, string}
use Rattle.kan_grammar.specs.Data.Tokens.{Placed, Piece, blank, spelled, placed_before}
use Rattle.kan_grammar.specs.Data.Faults.{fault, Reading, read_text, data_are, refused, run, going}
use Rattle.kan_grammar.specs.Data.Faults.{finish}
use Rattle.kan_grammar.specs.Data.Written.{Written}
use Rattle.kan_grammar.specs.Texts.TextNames.{GoesOn, with_token}
use Rattle.sexpr.specs.WrittenForms.{written_form, as_kept}
use Rattle.sexpr.specs.Frames.{enclosing_of}
use Rattle.sexpr.specs.declared.data.Datum.{Datum}
use Rattle.sexpr.specs.declared.data.ReadError.{ReadError}
use Rattle.sexpr.specs.declared.data.ReadError.TheVariants.{Fault, Memory}
use Rattle.sexpr.specs.declared.enclosing.Enclosing as stacks

-- want of memory
abbrev pub memory_wanted : ReadError
memory_wanted = Memory

-- a reading comes to these data, under names, or to this first fault; want of memory says nothing
-- of it
abbrev pub Answers : Table → Reading Written → Result (List Datum) ReadError → Type 0
Answers names reading (Ok ds) = reading ≡ data_are (map (written_form names) ds)
Answers names reading (Err (Fault at r)) = reading ≡ refused (fault at r)
Answers names reading (Err Memory) = Unit {0}

-- the bytes of a text are read so
abbrev pub Reads : List ℕ → Table → Result (List Datum) ReadError → Type 0
Reads bytes names answer = Answers names (read_text as_kept bytes) answer

-- a table has numbers for so many symbols and strings more
abbrev pub CanGrow : ℕ → Table → Type 0
CanGrow more names = (length names.symbols + more < 2 ^ 32) × (length names.strings + more < 2 ^ 32)

-- a string's text is one that a table may hold
abbrev pub HasText : Token → Type 0
HasText (atom (string s)) = IsTrue (is_string_text s)
HasText t = Unit {0}

abbrev pub HasPieceText : Piece → Type 0
HasPieceText (spelled t n) = HasText t
HasPieceText (blank n) = Unit {0}

-- a table with the name that a piece is, where it is one
abbrev pub with_piece : Table → Piece → Table
with_piece names (spelled t n) = with_token names t
with_piece names (blank n) = names

-- a piece is read: before all tokens what was unclosed with it comes to what is unclosed without
-- it, under each table that goes on
abbrev pub ReadsPiece : Table → stacks.Enclosing → stacks.Enclosing → ℕ → Piece → Type 0
ReadsPiece names old new at p = (later : Table) → GoesOn names later → (ts : List Placed) →
    run as_kept (going (enclosing_of later old)) (placed_before at p ts)
    ≡ run as_kept (going (enclosing_of later new)) ts

-- a piece is refused, whatever tokens follow it
abbrev pub RefusesPiece : ReadError → stacks.Enclosing → ℕ → Piece → Type 0
RefusesPiece e old at p = (names : Table) (ts : List Placed) →
    Answers names (finish (run as_kept (going (enclosing_of names old)) (placed_before at p ts)))
    (Err e)
