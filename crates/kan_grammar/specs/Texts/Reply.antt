-- What a text behind a library is answered with, as a function of their bytes, and what is written
-- then.
use Rattle.std.specs.Prelude.{◌≡◌, ℕ, Bool, true, false, List, [], Option, Some, None}
use Rattle.std.specs.List.{list_any}
use Rattle.kan_terms.specs.Table.{Table}
use Rattle.kan_refusals.specs.Refusals.{line_with}
use Rattle.kan_refusals.specs.declared.refusals.Refusal.{Refusal}
use Rattle.kan_model.specs.Programs.Goals.{Program, Query}
use Rattle.kan_model.specs.Streams.Taking.{Ending, take_query}
use Rattle.kan_model.specs.Answers.Decimals.{decimal_text}
use Rattle.kan_model.specs.Answers.Output.{runs_output}
use Rattle.kan_grammar.specs.declared.dialect.Dialect.{Dialect}
use Rattle.kan_grammar.specs.Data.Written.{Written}
use Rattle.kan_grammar.specs.Data.Enclosing.{as_written}
use Rattle.kan_grammar.specs.Data.Faults.{Fault, fault, Reading, data_are, refused, read_text}
use Rattle.kan_grammar.specs.Texts.TextNames.{text_table}
use Rattle.kan_grammar.specs.Texts.ProgramText.{program_of_text, queries_of_text}
use Rattle.kan_grammar.specs.Texts.TextFaults.{fault_of_text}

-- a text is refused for a fault, or has a program and runs, with the names that they use
pub data Reply : Type 0 where
  refusal : Fault → Reply
  accepted : Table → Program → List Query → Reply

-- a fault comes before all else
abbrev pub unless_fault : Option Fault → Reply → Reply
unless_fault (Some f) otherwise = Reply.refusal f
unless_fault None otherwise = otherwise

-- the reply to data behind those of a library: their fault under a table of names, or else their
-- program and runs
abbrev pub reply_to_data : Dialect → Table → List Written → List Written → Reply
reply_to_data dialect table library text =
    unless_fault (fault_of_text table library text)
    (Reply.accepted table (program_of_text dialect table library text)
    (queries_of_text dialect table library text))

-- the reply to a reading: its fault, or else that to its data
abbrev pub reply_to_reading : Dialect → Table → List Written → Reading Written → Reply
reply_to_reading dialect table library (data_are ds) = reply_to_data dialect table library ds
reply_to_reading dialect table library (refused f) = Reply.refusal f

-- the data of a library, which has no fault
abbrev pub data_of : Reading Written → List Written
data_of (data_are ds) = ds
data_of (refused f) = []

-- the reply to a text behind a library, by their bytes
unfoldable pub reply : List ℕ → List ℕ → Dialect → Reply
reply library text dialect =
    reply_to_reading dialect (text_table library text) (data_of (read_text as_written library))
    (read_text as_written text)

-- data may serve as a library under a table of names: they have no fault and no run
pub record IsLibrary (table : Table) (library : List Written) : Type 0 where
  pub faultless : fault_of_text table [] library ≡ None
  pub runless : (dialect : Dialect) → queries_of_text dialect table [] library ≡ []

-- the line of a refusal at an offset, with numbers of as many digits as they have
abbrev pub line_at : ℕ → Refusal → List ℕ
line_at at r = line_with decimal_text at r

abbrev pub refusal_line : Fault → List ℕ
refusal_line (fault at r) = line_at at r

-- what is written for a reply at a fuel: the line of its refusal, or the output of its runs
abbrev pub reply_bytes : ℕ → Reply → List ℕ
reply_bytes fuel (Reply.refusal f) = refusal_line f
reply_bytes fuel (Reply.accepted table program queries) = runs_output table program fuel queries

-- what is written for a text behind a library
abbrev pub text_output : List ℕ → List ℕ → Dialect → ℕ → List ℕ
text_output library text dialect fuel = reply_bytes fuel (reply library text dialect)

-- a run ends by its fuel, and some run of a reply does
abbrev pub is_spent : Ending → Bool
is_spent Ending.fuel = true
is_spent e = false

abbrev pub spends_fuel : ℕ → Reply → Bool
spends_fuel fuel (Reply.refusal f) = false
spends_fuel fuel (Reply.accepted table program queries) =
    list_any (λ q. is_spent (take_query program fuel q).ending) queries
