-- What compiling a text answers.
use Rattle.std.specs.Prelude.{◌≡◌, ◌≤◌, ◌^◌, ℕ, ◌++◌, List, map, length, true, Option, Some}
use Rattle.std.specs.Prelude.{None, Result, Ok, Err}
use Rattle.kan_terms.specs.Table.{Table}
use Rattle.kan_model.specs.Programs.Goals as model
use Rattle.kan_model.specs.Programs.Scope.{is_small}
use Rattle.kan_model.specs.Programs.Tables.{are_closed}
use Rattle.kan_model.specs.Programs.Nodes.{goal_place}
use Rattle.kan_model.specs.Programs.Closed as programs
use Rattle.kan_model.specs.declared.program.Program.{Program}
use Rattle.kan_model.specs.declared.nodes.Query.{Query}
use Rattle.kan_grammar.specs.declared.dialect.Dialect.{Dialect}
use Rattle.kan_grammar.specs.Data.Faults as faults
use Rattle.kan_grammar.specs.Data.Faults.{read_text, data_are}
use Rattle.kan_grammar.specs.Texts.Sited.{Sited, with_sites}
use Rattle.kan_grammar.specs.Texts.TextFaults.{fault_of_text}
use Rattle.kan_grammar.specs.Texts.Reply.{IsLibrary}
use Rattle.kan_grammar.specs.Texts.TextNames.{Extends, with_prefixes}
use Rattle.kan_grammar.specs.Texts.ProgramText.{program_of_text, queries_of_text}
use Rattle.sexpr.specs.WrittenForms.{written_form, as_kept}
use Rattle.sexpr.specs.declared.data.Datum.{Datum}
use Rattle.goal_syntax.specs.Building.GrownTables.{HasRoom}
use Rattle.goal_syntax.specs.Building.FormsBuilt.{entry_names, relation_names}
use Rattle.goal_syntax.specs.Compiling.SymbolNames.{are_named}
use Rattle.goal_syntax.specs.declared.refusal.SyntaxError.{SyntaxError}
use Rattle.goal_syntax.specs.declared.refusal.SyntaxError.TheVariants.{Fault, Memory}
use Rattle.goal_syntax.specs.declared.compiler.Compiled.{Compiled}

-- the fault of a text behind a library that is answered, where it has one
abbrev pub fault_found : Table → List Datum → List Datum → Option faults.Fault
fault_found names library text =
    fault_of_text names (map (written_form names) library) (map (written_form names) text)

-- the relations of a text behind a library, and its runs
abbrev pub relations_meant : Dialect → Table → List Datum → List Datum → List model.Relation
relations_meant dialect names library text =
    (program_of_text dialect names (map (written_form names) library)
    (map (written_form names) text)).relations

abbrev pub queries_meant : Dialect → Table → List Datum → List Datum → List model.Query
queries_meant dialect names library text =
    queries_of_text dialect names (map (written_form names) library) (map (written_form names) text)

-- data as trees of pairs
abbrev pub sites_of : Table → List Datum → List Sited
sites_of names ds = map (with_sites names) (map (written_form names) ds)

-- a program and its runs are those of a text that has no fault
pub record IsCompiled (dialect : Dialect) (names : Table) (library text : List Datum)
    (program : Program) (queries : List Query) : Type 0 where
  pub accepted : fault_found names library text ≡ None
  pub relations : (programs.meaning program).relations ≡ relations_meant dialect names library text
  pub queries_are : map (programs.query_of program) queries
      ≡ queries_meant dialect names library text
  -- relations have the names at the heads of their defrels
  pub heads : entry_names (programs.tables program)
      ≡ relation_names names (sites_of names library ++ sites_of names text)
  -- nothing is open in it, with the goals of the runs
  pub closed : are_closed (programs.tables program) (map goal_place queries) ≡ true
  pub small : is_small (programs.meaning program) ≡ true
  -- each of its tables has fewer than 2^24 entries
  pub room : HasRoom (programs.tables program)
  -- each symbol in it has a name, and each string a text
  pub named : are_named names (programs.tables program) ≡ true

-- a text gives its program and runs, or the fault that is answered; want of memory says nothing
abbrev pub Compiles : Dialect → Table → List Datum → List Datum → Result Compiled SyntaxError →
    Type 0
Compiles dialect names library text (Ok c) =
    IsCompiled dialect names library text c.program c.queries
Compiles dialect names library text (Err (Fault at r)) =
    fault_found names library text ≡ Some (faults.fault at r)
Compiles dialect names library text (Err Memory) = Unit {0}

-- the table afterwards has the symbols that prefixes stand for; where memory is wanting, maybe not
-- all of them
abbrev pub TableAfter : Table → Table → Result Compiled SyntaxError → Type 0
TableAfter before after (Ok c) = after ≡ with_prefixes before
TableAfter before after (Err (Fault at r)) = after ≡ with_prefixes before
TableAfter before after (Err Memory) = Extends 3 before after

-- data are those of a text, which is at most 1,048,576 bytes long
pub record AreOfText (names : Table) (ds : List Datum) : Type 0 where
  pub bytes : List ℕ
  pub few : length bytes ≤ 2 ^ 20
  pub are : read_text as_kept bytes ≡ data_are (map (written_form names) ds)

-- a library is accepted by itself: it has no fault, and no run
abbrev pub IsAcceptedAlone : Table → List Datum → Type 0
IsAcceptedAlone names library = IsLibrary names (map (written_form names) library)
