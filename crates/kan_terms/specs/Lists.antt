-- Lists that are written through a slice.
use Rattle.std.specs.Prelude.{List, ◌++◌, length, take, drop}

-- a list after items are written over its first ones; a slice keeps its length, so these are all
abbrev pub written_over : {T : Type 0} → List T → List T → List T
written_over old items = take (length old) (items ++ drop (length items) old)
