-- The top of a suspension that waits behind another one, from those that are noted.
use Rattle.std.specs.Prelude.{ℕ, max, Option, None, Some}
use Rattle.susp_cells.specs.Places.{Place, label_tree, noted_top}

-- the greater of a number and the top of a tail, where there is one
abbrev pub tail_top : Option Place → ℕ → ℕ
tail_top None n = n
tail_top (Some p) n = max (noted_top (label_tree p)) n
