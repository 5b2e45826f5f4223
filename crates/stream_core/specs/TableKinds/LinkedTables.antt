-- What the table of ids that own their suspensions stands for.
use Rattle.std.specs.Prelude.{List, None}
use Rattle.kan_model.specs.Programs.Goals.{Program}
use Rattle.kan_model.specs.Programs.Closed as programs
use Rattle.kan_model.specs.Stores.Store as facts
use Rattle.kan_model.specs.Streams.Bounds.{Fits}
use Rattle.kan_model.specs.declared.program.Program as code
use Rattle.stream_core.specs.TableKinds.LinkedThunks.{linked_tree, linked_around}
use Rattle.stream_core.specs.Suspensions.{goal_in}
use Rattle.stream_core.specs.Surroundings.{Around}
use Rattle.stream_core.specs.Tables.{Table}
use Rattle.stream_core.specs.declared.linked_ids.LinkedId.{LinkedId}
use Rattle.stream_core.specs.declared.linked_nodes.LinkedNodes.{LinkedNodes}

-- the program of a table
abbrev pub program_of : LinkedNodes → code.Program
program_of nodes = nodes.program.now

module _ {St : Type 0} (means : St → facts.Store) where
  -- the suspensions of a program, of which neither is told which are kept nor how many there are
  abbrev pub suspensions_of : Program → Table (LinkedId St)
  suspensions_of program = record {
    program = program;
    belongs = λ id. Fits program (linked_tree means (goal_in program) id);
    tree = linked_tree means (goal_in program);
    told = None;
    size = None;
  }

  abbrev pub linked_table : LinkedNodes → Table (LinkedId St)
  linked_table nodes = suspensions_of (programs.meaning (program_of nodes))

  -- what stands around others under the table's program
  abbrev pub around_in_table : LinkedNodes → LinkedId St → List Around
  around_in_table nodes around =
      linked_around means (goal_in (programs.meaning (program_of nodes))) around
