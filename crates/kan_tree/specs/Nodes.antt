-- What stands under a key.
use Rattle.std.specs.Prelude.{ℕ, zero, suc, ◌*◌, ◌^◌, ◌/◌, ◌%◌, Option, None, Some, option_map}
use Rattle.std.specs.Prelude.{Bool, ◌&&◌, eqb}
use Rattle.std.specs.Arc.{arc_value}
use Rattle.kan_tree.specs.Slots.{at}
use Rattle.kan_tree.specs.declared.nodes.Node.{Node, out-Node}
use Rattle.kan_tree.specs.declared.nodes.Node.TheOpen.{Node-F}

-- the digit of a key at a level
abbrev pub digit_of : ℕ → ℕ → ℕ
digit_of level key = (key / (2 ^ (level * 4))) % 16

-- two keys have the same digits up to a level
abbrev pub agree : ℕ → ℕ → ℕ → Bool
agree zero k key = eqb (digit_of 0 k) (digit_of 0 key)
agree (suc level) k key =
    eqb (digit_of (suc level) k) (digit_of (suc level) key) && agree level k key

-- what an option leads to
abbrev pub onward : {A B : Type 0} → (A → Option B) → Option A → Option B
onward f None = None
onward f (Some x) = f x

-- what a leaf has at a place
abbrev pub of_leaf : {T X : Type 0} → Node-F T X → ℕ → Option T
of_leaf (Node-F.Leaf slots) d = at slots d
of_leaf (Node-F.Inner slots) d = None

-- the node below at a place, for a node that has nodes below it
abbrev pub of_inner : {T X : Type 0} → Node-F T X → ℕ → Option X
of_inner (Node-F.Leaf slots) d = None
of_inner (Node-F.Inner slots) d = option_map arc_value (at slots d)

abbrev pub in_leaf : {T : Type 0} → Node T → ℕ → Option T
in_leaf {T} node d = of_leaf (out-Node T node) d

abbrev pub in_inner : {T : Type 0} → Node T → ℕ → Option (Node T)
in_inner {T} node d = of_inner (out-Node T node) d

-- what a node has under a key at a level
abbrev pub look : {T M : Type 0} → (T → M) → ℕ → ℕ → Node T → Option M
look meaning zero key node = option_map meaning (in_leaf node (digit_of 0 key))
look meaning (suc level) key node =
    onward (look meaning level key) (in_inner node (digit_of (suc level) key))
