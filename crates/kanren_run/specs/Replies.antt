-- What a text comes to in the code: its program and runs, or a refusal.
use Rattle.std.specs.Prelude.{◌≡◌, ℕ, Bool, List, map, Result, Ok, Err}
use Rattle.kan_terms.specs.Table.{Table}
use Rattle.kan_model.specs.Programs.Goals as model
use Rattle.kan_model.specs.Programs.Closed as programs
use Rattle.kan_model.specs.declared.program.Program.{Program}
use Rattle.kan_model.specs.declared.nodes.Query.{Query}
use Rattle.kan_grammar.specs.Texts.Reply.{Reply}
use Rattle.kan_grammar.specs.Texts.TextNames.{GoesOn, first_names, with_text_names, text_table}
use Rattle.sexpr.specs.Reads.{Reads}
use Rattle.sexpr.specs.declared.data.Datum.{Datum}
use Rattle.goal_syntax.specs.declared.compiler.Compiled.{Compiled}
use Rattle.kanren_run.specs.Answers.{reply_to, IsRefusedFor}
use Rattle.kanren_run.specs.Settings.{library_before}
use Rattle.kanren_run.specs.Writing.{CanRun}
use Rattle.kanren_run.specs.declared.settings.Settings.{Settings}
use Rattle.kanren_run.specs.declared.text.NotRun.{NotRun}
use Rattle.kanren_run.specs.declared.text.NotRun.TheVariants.{Fault, Memory}

-- want of memory
abbrev pub memory_wanting : NotRun
memory_wanting = Memory

-- A program of the code has the relations of an accepted text, its queries are the text's runs, and
-- they may be run.
pub record HasRuns (s : Settings) (text : List ℕ) (names : Table) (program : Program)
    (queries : List Query) : Type 0 where
  pub meant : model.Program
  pub answered : reply_to s text
      ≡ Reply.accepted names meant (map (programs.query_of program) queries)
  pub relations : (programs.meaning program).relations ≡ meant.relations
  pub can : CanRun names program queries

-- a text has a program and runs under these names, or is refused; want of memory says nothing
abbrev pub ComesTo : Settings → List ℕ → Table → Result Compiled NotRun → Type 0
ComesTo s text names (Ok c) = HasRuns s text names c.program c.queries
ComesTo s text names (Err (Fault f)) = IsRefusedFor s text f.at f.refusal
ComesTo s text names (Err Memory) = Unit {0}

-- the data of a library, where one is asked for, were read under its names behind the first
pub record LibraryRead (library : Bool) (names : Table) (ds : List Datum) : Type 0 where
  pub named : names ≡ with_text_names first_names (library_before library)
  pub reads : (later : Table) → GoesOn names later → Reads (library_before library) later (Ok ds)

-- a text and the library in front of it were read under all their names
pub record TextRead (s : Settings) (text : List ℕ) (names : Table)
    (ls ds : List Datum) : Type 0 where
  pub named : text_table (library_before s.library) text ≡ names
  pub library : Reads (library_before s.library) names (Ok ls)
  pub forms : Reads text names (Ok ds)
