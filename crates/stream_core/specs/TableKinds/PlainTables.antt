-- What the table of one thread stands for.
use Rattle.std.specs.Prelude.{List, length, Some}
use Rattle.kan_model.specs.Programs.Goals.{Program}
use Rattle.kan_model.specs.Programs.Closed as programs
use Rattle.kan_model.specs.Stores.Store as facts
use Rattle.kan_model.specs.declared.program.Program as code
use Rattle.stream_core.specs.Tables.{Table, Told}
use Rattle.stream_core.specs.TableKinds.PlainRows.{is_kept_at, inner_at, row_tree, BelongsTo}
use Rattle.stream_core.specs.declared.plain_nodes.PlainId.{PlainId}
use Rattle.stream_core.specs.declared.plain_nodes.Row.{Row}
use Rattle.stream_core.specs.declared.plain_nodes.PlainNodes.{PlainNodes}

module _ {St : Type 0} where
  -- what rows tell of ids
  abbrev pub rows_told : List (Row St) → Told PlainId
  rows_told rows = record { kept = λ id. is_kept_at rows id.at; inner = λ id. inner_at rows id.at }

  -- rows of suspensions of a program
  abbrev pub rows_table : (St → facts.Store) → Program → List (Row St) → Table PlainId
  rows_table means program rows = record {
    program = program;
    belongs = BelongsTo means program rows;
    tree = row_tree means program rows;
    told = Some (rows_told rows);
    size = Some (length rows);
  }

  -- the program of a table
  abbrev pub program_of : PlainNodes St → code.Program
  program_of nodes = nodes.program.now

  abbrev pub plain_table : (St → facts.Store) → PlainNodes St → Table PlainId
  plain_table means nodes = rows_table means (programs.meaning (program_of nodes)) nodes.rows.items
