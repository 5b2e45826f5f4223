-- The library as data, and its place before texts.
use Rattle.std.specs.Prelude.{◌≡◌, ◌≤◌, ℕ, Bool, true, false, List, None}
use Rattle.kan_terms.specs.Table.{Table, no_names}
use Rattle.kan_grammar.specs.Data.Written.{Written}
use Rattle.kan_grammar.specs.Data.Enclosing.{as_written}
use Rattle.kan_grammar.specs.Data.Faults.{Reading, data_are, refused, read_text}
use Rattle.kan_grammar.specs.Texts.TextFaults.{fault_of_text}
use Rattle.kan_grammar.specs.Texts.TextNames.{GoesOn, text_table, with_prefixes, with_text_names}
use Rattle.kan_grammar.specs.Texts.Reply.{data_of, IsLibrary}
use Rattle.rel_library.specs.Library.{library}
use Rattle.rel_library.specs.Loads.{greatest_load, load}

-- bytes are read without a fault
abbrev pub is_read : Reading Written → Bool
is_read (data_are ds) = true
is_read (refused f) = false

-- the data of the library
abbrev pub library_data : List Written
library_data = data_of (read_text as_written library)

-- the words that prefixes stand for, and then the names of the library
abbrev pub library_table : Table
library_table = with_text_names (with_prefixes no_names) library

-- the library has no fault and no run under each table of names that goes on from its own, in both
-- dialects
abbrev pub LibraryServes : Type 0
LibraryServes = (table : Table) → GoesOn library_table table → IsLibrary table library_data

-- the data of a load
abbrev pub load_data : ℕ → List Written
load_data n = data_of (read_text as_written (load n))

-- a load is read without a fault, and has none behind the library
pub record LoadIsAccepted (n : ℕ) : Type 0 where
  pub read : read_text as_written (load n) ≡ data_are (load_data n)
  pub faultless : fault_of_text (text_table library (load n)) library_data (load_data n) ≡ None

-- so has each load
abbrev pub LoadsAreAccepted : Type 0
LoadsAreAccepted = (n : ℕ) → n ≤ greatest_load → LoadIsAccepted n
