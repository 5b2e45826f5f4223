-- What a shared table of suspensions stands for, and what is known of a settled one.
use Rattle.std.specs.Prelude.{◌≡◌, ◌≢◌, ℕ, List, None, IfSome}
use Rattle.boxcar.specs.Table.{Shows}
use Rattle.kan_model.specs.declared.stores.Store.{Ghosts}
use Rattle.kan_model.specs.Programs.Goals.{Program}
use Rattle.kan_model.specs.Programs.Closed as programs
use Rattle.kan_model.specs.Streams.Stream as model
use Rattle.kan_model.specs.Streams.Bounds.{Fits}
use Rattle.kan_model.specs.Streams.Running.{force}
use Rattle.stream_core.specs.Suspensions.{stream_of_parts}
use Rattle.stream_core.specs.Tables as tables
use Rattle.susp_cells.specs.Places.{Place, names_of, told_tree, label_program, label_tree}
use Rattle.susp_cells.specs.declared.tables.Table.{Table}
use Rattle.susp_cells.specs.declared.forced.Forced.{Forced}
use Rattle.susp_cells.specs.declared.forced.Known.{Known}
use Rattle.susp_cells.specs.declared.forced.Settled.{Settled}
use Rattle.susp_cells.specs.declared.forced.Settled.TheVariants.{Mine, Theirs, Apart, Unseen}

module _ {St : Type 0} {g : Ghosts St} where
  -- the program of a table
  abbrev pub program_of : Table St g → Program
  program_of t = programs.meaning t.program.now

  -- the home of a table's suspensions, which tells the table from others
  abbrev pub home_of : Table St g → List ℕ
  home_of t = names_of t.labels

  -- a suspension is of the table, and fits its program
  pub record IsIn (t : Table St g) (p : Place) : Type 0 where
    pub home : p.home ≡ home_of t
    pub program : label_program p ≡ program_of t
    pub fits : Fits (program_of t) (label_tree p)

  -- the table of suspensions, which doesn't tell what is kept, since others settle too
  abbrev pub table_of : Table St g → tables.Table Place
  table_of t = record {
    program = program_of t;
    belongs = IsIn t;
    tree = label_tree;
    told = None;
    size = None;
  }

  -- a value in a cell is the force of a suspension, and its ids are of the table
  abbrev pub IsForcedIn : Table St g → model.Thunk → Forced St g → Type 0
  IsForcedIn t suspension f =
      IfSome f.tail (IsIn t)
      × (stream_of_parts label_tree g.meaning f.heads f.tail ≡ force (program_of t) suspension)

  -- the index of a settled suspension, what it stands for, and the value that was seen
  abbrev pub known_index : Known St g → ℕ
  known_index k = k.label.index

  abbrev pub known_place : Table St g → Known St g → Place
  known_place t k = record { home = home_of t; token = k.label }

  abbrev pub known_tree : Known St g → model.Thunk
  known_tree k = told_tree k.label.value

  abbrev pub known_value : Known St g → Forced St g
  known_value k = k.seen.value

  -- what is known is of the table: its label and its cell are there, and the value is of the same
  -- suspension
  pub record IsKnownIn (t : Table St g) (k : Known St g) : Type 0 where
    pub label : Shows t.labels k.label
    pub cell : Shows t.cells.all k.cell
    pub inside : IsIn t (known_place t k)
    pub home : (known_value k).of.home ≡ home_of t
    pub same : (known_value k).of.token.value ≡ k.label.value

  -- what is known of a suspension of the table
  abbrev pub KnowsOf : Table St g → Place → Known St g → Type 0
  KnowsOf t p k =
      IsKnownIn t k × (known_index k ≡ p.token.index) × (known_tree k ≡ label_tree p)

  -- a value that was found for a suspension, with what is known of it then
  abbrev pub IsFound : Table St g → Place → Forced St g → Known St g → Type 0
  IsFound t p f k = KnowsOf t p k × (known_value k ≡ f) × IsForcedIn t (label_tree p) f

  -- what comes of a try to settle a suspension with a value
  abbrev pub IsSettled : Table St g → Place → Forced St g → Settled St g → Type 0
  IsSettled t p f (Mine k) = KnowsOf t p k × (known_value k ≡ f)
  IsSettled t p f (Theirs k b) =
      KnowsOf t p k × IsForcedIn t (label_tree p) (known_value k) × (b.value ≡ f)
  IsSettled t p f (Apart r b) = (r.now.of.token.index ≢ p.token.index) × (b.value ≡ f)
  IsSettled t p f (Unseen b) = b.value ≡ f
