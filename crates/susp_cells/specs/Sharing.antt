-- What a clause sees of a shared table as one thread uses it.
use Rattle.std.specs.Prelude.{◌≡◌, ◌∷◌, ℕ, List}
use Rattle.once_cell.specs.Once.{cell_name}
use Rattle.kan_model.specs.declared.stores.Store.{Ghosts}
use Rattle.stream_core.specs.Tables as tables
use Rattle.susp_cells.specs.Places.{Place}
use Rattle.susp_cells.specs.Tables.{table_of}
use Rattle.susp_cells.specs.declared.cells.Entry.{Entry}
use Rattle.susp_cells.specs.declared.tables.Table.{Table}
use Rattle.susp_cells.specs.declared.shared_nodes.SharedNodes.{SharedNodes}

module _ {St G R : Type 0} {g : Ghosts St} where
  -- the table that is shared, the gate that is passed, and the number of the thread
  abbrev pub used_table : SharedNodes St G R g → Table St g
  used_table nodes = nodes.table.now

  abbrev pub passed_gate : SharedNodes St G R g → G
  passed_gate nodes = nodes.gate.now

  abbrev pub thread_number : SharedNodes St G R g → ℕ
  thread_number nodes = nodes.who

  -- the table of suspensions that it is
  abbrev pub shared_table : SharedNodes St G R g → tables.Table Place
  shared_table nodes = table_of (used_table nodes)

-- what shows the value of an entry is of its own cell, and of the table with these names
abbrev pub IsTagged : {F : Type 0} → List ℕ → Entry F → Type 0
IsTagged names e = e.shown.tag ≡ cell_name e.cell ∷ names
