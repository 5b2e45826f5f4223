-- What a node has under a whole key, and what a tree has.
use Rattle.std.specs.Prelude.{ℕ, suc, ◌*◌, ◌^◌, Option, None, if◌then◌else◌, ltb}
use Rattle.kan_tree.specs.Nodes.{look}
use Rattle.kan_tree.specs.declared.nodes.Node.{Node}

-- the keys below a node at a level are below this
abbrev pub key_limit : ℕ → ℕ
key_limit level = 2 ^ (suc level * 4)

-- what a node has under a key, which may be too large for it
abbrev pub value_below : {T M : Type 0} → (T → M) → ℕ → Node T → ℕ → Option M
value_below meaning level node key =
    if ltb key (key_limit level) then look meaning level key node else None
