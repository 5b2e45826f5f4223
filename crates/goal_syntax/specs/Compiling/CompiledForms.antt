-- What compiling the top forms of a text answers.
use Rattle.std.specs.Prelude.{◌≡◌, ◌++◌, List, map, true, Some, None, Result, Ok, Err}
use Rattle.kan_grammar.specs.declared.dialect.Dialect.{Dialect}
use Rattle.kan_grammar.specs.Data.Faults as faults
use Rattle.kan_terms.specs.Table.{Table}
use Rattle.kan_grammar.specs.Texts.Sited.{Sited}
use Rattle.kan_grammar.specs.Texts.TextFaults.{faults_of, least}
use Rattle.kan_grammar.specs.Texts.ProgramText.{Meant, text_meaning}
use Rattle.kan_model.specs.Programs.Scope.{is_small}
use Rattle.kan_model.specs.Programs.Tables.{are_closed}
use Rattle.kan_model.specs.Programs.Nodes.{goal_place}
use Rattle.kan_model.specs.Programs.Closed as programs
use Rattle.kan_model.specs.declared.program.Program.{Program}
use Rattle.kan_model.specs.declared.nodes.Query.{Query}
use Rattle.goal_syntax.specs.Compiling.SymbolNames.{are_named}
use Rattle.goal_syntax.specs.Building.FormsBuilt.{entry_names, relation_names}
use Rattle.goal_syntax.specs.Building.GrownTables.{HasRoom}
use Rattle.goal_syntax.specs.declared.refusal.SyntaxError.{SyntaxError}
use Rattle.goal_syntax.specs.declared.refusal.SyntaxError.TheVariants.{Fault, Memory}
use Rattle.goal_syntax.specs.declared.compiler.Compiled.{Compiled}

-- a program and its runs are those that are meant
pub record IsMeant (m : Meant) (program : Program) (queries : List Query) : Type 0 where
  pub relations : (programs.meaning program).relations ≡ m.relations
  pub queries_are : map (programs.query_of program) queries ≡ m.queries
  pub closed : are_closed (programs.tables program) (map goal_place queries) ≡ true
  pub small : is_small (programs.meaning program) ≡ true
  pub room : HasRoom (programs.tables program)

-- the forms of a text behind those of a library give their program and runs, or the fault that is
-- answered
abbrev pub CompilesForms : Dialect → Table → List Sited → List Sited → Result Compiled SyntaxError →
    Type 0
CompilesForms dialect names library text (Ok c) =
    (least (faults_of names library text) ≡ None)
    × IsMeant (text_meaning dialect names library text) c.program c.queries
    × (are_named names (programs.tables c.program) ≡ true)
    × (entry_names (programs.tables c.program) ≡ relation_names names (library ++ text))
CompilesForms dialect names library text (Err (Fault at r)) =
    least (faults_of names library text) ≡ Some (faults.fault at r)
CompilesForms dialect names library text (Err Memory) = Unit {0}
