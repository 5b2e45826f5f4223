-- What ties data as they are kept to data as they are written.
use Rattle.std.specs.Prelude.{◌≡◌, ℕ, List, map, Bool, true, ◌&&◌, [], ◌∷◌, IsTrue, Result, Ok, Err}
use Rattle.kan_grammar.specs.Data.Written.{Written, Within, single, list, prefixed, close, dotted}
use Rattle.kan_grammar.specs.Data.Written.{element, is_allowed_atom}
use Rattle.kan_grammar.specs.Data.Enclosing.{as_written}
use Rattle.kan_grammar.specs.Data.Faults.{fault, read_text}
use Rattle.kan_grammar.specs.Data.Printed.{pairs}
use Rattle.kan_grammar.specs.declared.dialect.Dialect.{Dialect}
use Rattle.kan_grammar.specs.Texts.Sited.{with_sites}
use Rattle.kan_grammar.specs.Texts.TextNames.{text_table}
use Rattle.kan_grammar.specs.Texts.Reply.{Reply, reply, reply_to_data}
use Rattle.sexpr.specs.declared.data.ReadError.{ReadError}
use Rattle.sexpr.specs.declared.data.ReadError.TheVariants.{Fault, Memory}
use Rattle.kan_grammar.specs.Data.Builds.{build_datum, map_reading}
use Rattle.sexpr.specs.WrittenForms.{written_form, as_kept}
use Rattle.kan_terms.specs.Table.{Table}
use Rattle.sexpr.specs.Reads.{Reads}
use Rattle.sexpr.specs.declared.data.Datum.{Datum}

-- a reply is that to the data that were read, or to the fault; want of memory says nothing of it
abbrev pub IsReply : Reply → Dialect → Table → List Written → Result (List Datum) ReadError → Type 0
IsReply r dialect table library (Ok ds) =
    r ≡ reply_to_data dialect table library (map (written_form table) ds)
IsReply r dialect table library (Err (Fault at why)) = r ≡ Reply.refusal (fault at why)
IsReply r dialect table library (Err Memory) = Unit {0}

-- the data that are kept of a text are made of those that are written in it, and a fault is the
-- same
abbrev pub KeepsData : Type 0
KeepsData =
    (bytes : List ℕ) → read_text as_kept bytes
    ≡ map_reading (build_datum as_kept) (read_text as_written bytes)

-- what is kept of a datum means the same, so it has the same text
abbrev pub KeepsMeaning : Type 0
KeepsMeaning = (d : Written) → pairs (build_datum as_kept d) ≡ pairs d

-- and its parts have the same sites, under each table of names
abbrev pub KeepsSites : Type 0
KeepsSites =
    (table : Table) (d : Written) → with_sites table (build_datum as_kept d) ≡ with_sites table d

-- the reply to texts that are read is that to their data as they are kept, under the table of the
-- texts
abbrev pub RepliesAsRead : Type 0
RepliesAsRead =
    (library text : List ℕ) (dialect : Dialect) (ls : List Datum)
    (answer : Result (List Datum) ReadError) →
    Reads library (text_table library text) (Ok ls) → Reads text (text_table library text) answer →
    IsReply (reply library text dialect) dialect (text_table library text)
    (map (written_form (text_table library text)) ls) answer

-- each atom in a datum, and in what stands in a list, is one that a datum may be
abbrev mutual
  pub is_named : Written → Bool
  is_named (single at a) = is_allowed_atom a
  is_named (list at s inner) = are_named_within inner
  is_named (prefixed at p d) = is_named d

  pub are_named_within : Within → Bool
  are_named_within (close at) = true
  are_named_within (dotted at d end) = is_named d
  are_named_within (element d inner) = is_named d && are_named_within inner

-- and in data in a row
abbrev pub are_named : List Written → Bool
are_named [] = true
are_named (d ∷ ds) = is_named d && are_named ds

-- each symbol in the data that are read has a name
abbrev pub ReadsNamed : Type 0
ReadsNamed =
    (bytes : List ℕ) (names : Table) (ds : List Datum) → Reads bytes names (Ok ds) →
    IsTrue (are_named (map (written_form names) ds))
