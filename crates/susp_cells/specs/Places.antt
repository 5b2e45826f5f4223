-- What a clause sees of a suspension that threads share: the names of its table's buckets, and the
-- token of its label.
use Rattle.std.specs.Prelude.{◌≡◌, ℕ, ◌+◌, ◌^◌, min, List, map, slice_index_or, refl}
use Rattle.std.specs.Coded.{Coded, code_by, coded×, coded_ℕ, coded_list}
use Rattle.boxcar.specs.Slot.{Named}
use Rattle.boxcar.specs.Table.{Shelves, Where, where_coded}
use Rattle.kan_model.specs.Programs.Goals.{Program}
use Rattle.kan_model.specs.Stores.Store as facts
use Rattle.kan_model.specs.Streams.Stream as model
use Rattle.kan_model.specs.Streams.Bounds.{top}
use Rattle.stream_core.specs.Suspensions as standing
use Rattle.stream_core.specs.declared.streams.Thunk.{Thunk}
use Rattle.susp_cells.specs.Sketches.{program_in, tree_in, nested}
use Rattle.susp_cells.specs.declared.suspensions.Label.{Label}
use Rattle.susp_cells.specs.contracts.suspensions.Label.{the_row as label_row}

pub record Place : Type 0 where
  pub home : List ℕ
  pub token : Where Label

abbrev pub place_coded : Coded Place
place_coded =
    code_by (List ℕ × Where Label) (coded× (coded_list coded_ℕ) (where_coded label_row.coded))
    (λ p. (p.home, p.token)) (λ p. record { home = p.0; token = p.1 }) (λ p. refl)

-- the program and the suspension that a label tells
abbrev pub told_program : Label → Program
told_program l = program_in l.drawn.numbers

abbrev pub told_tree : Label → model.Thunk
told_tree l = tree_in l.drawn.numbers

abbrev pub label_program : Place → Program
label_program p = told_program p.token.value

abbrev pub label_tree : Place → model.Thunk
label_tree p = told_tree p.token.value

-- what a suspension of a program stands for
abbrev pub stands_for : {St : Type 0} → Program → (St → facts.Store) → Thunk Place St → model.Thunk
stands_for program means t = standing.thunk label_tree means (standing.goal_in program) t

-- how deep suspensions stand in it
abbrev pub label_nested : Place → ℕ
label_nested p = nested (label_tree p)

-- the top of a suspension, as far as the first number that is too high
abbrev pub noted_top : model.Thunk → ℕ
noted_top t = min (top t) (2 ^ 62 + 1)

abbrev pub bucket_name : Named → ℕ
bucket_name n = n.id

-- the names of a vector's buckets, which tell it from others
abbrev pub names_of : Shelves → List ℕ
names_of t = map bucket_name t.buckets

-- the token is of the vector with these names
abbrev pub IsOf : {T : Type 0} → List ℕ → Where T → Type 0
IsOf names p = p.row ≡ slice_index_or names p.bucket 0

-- two suspensions of one table and one program
abbrev pub IsBeside : Place → Place → Type 0
IsBeside p q = (q.home ≡ p.home) × (label_program q ≡ label_program p)
