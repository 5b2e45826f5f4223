-- What a tree has under a key: what was put last, and else what its nodes have.
use Rattle.std.specs.Prelude.{ℕ, zero, suc, ◌%◌, Option, None, Some, eqb, if◌then◌else◌}
use Rattle.std.specs.Arc.{arc_value}
use Rattle.kan_tree.specs.Whole.{value_below}
use Rattle.kan_tree.specs.declared.front.Link.{Link}
use Rattle.kan_tree.specs.declared.front.Front.{Front, out-Front}
use Rattle.kan_tree.specs.declared.front.Front.TheOpen.{Front-F}
use Rattle.kan_tree.specs.declared.var_tree.VarTree.{VarTree}

-- what a link has under a key, where what is older has the rest
abbrev pub in_link : {T X M : Type 0} → (T → M) → (X → Option M) → ℕ → Link T X → Option M
in_link meaning older key link =
    if eqb key link.key then Some (meaning link.value) else older link.older

-- what stands under a key below a root, or in a link in front of it
abbrev pub value_in_front : {T X M : Type 0} → (T → M) → ℕ → (Link T X → Option M) → Front-F T X →
    ℕ →
    Option M
value_in_front meaning level linked Front-F.Empty key = None
value_in_front meaning level linked (Front-F.Nodes root) key =
    value_below meaning level (arc_value root) key
value_in_front meaning level linked (Front-F.Link link) key = linked (arc_value link)

-- what stands under a key in so many links, the newest first, and else in the nodes behind them
abbrev pub within : {T M : Type 0} → (T → M) → ℕ → ℕ → Front T → ℕ → Option M
within {T} meaning zero level front key =
    value_in_front meaning level (λ _. None) (out-Front T front) key
within {T} meaning (suc many) level front key = value_in_front meaning level
    (in_link meaning (λ older. within meaning many level older key) key) (out-Front T front) key

-- the finite map that a tree is
abbrev pub under_key : {T M : Type 0} → (T → M) → VarTree T → ℕ → Option M
under_key meaning t key = within meaning t.waiting (t.height % 16) t.front key
