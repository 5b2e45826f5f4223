-- Suspensions in a list, each naming earlier ones by number, and the trees that they stand for.
use Rattle.std.specs.Prelude.{ℕ, suc, Bool, true, ◌&&◌, nat_lt, List, [], ◌∷◌, ◌++◌, Option, Some}
use Rattle.std.specs.Prelude.{None, slice_get, unwrap_or, ◌<◌, length}
use Rattle.kan_model.specs.Programs.Goals.{Goal, Program}
use Rattle.kan_model.specs.Stores.Store as facts
use Rattle.kan_model.specs.Streams.Stream as model
use Rattle.stream_core.specs.Suspensions as standing
use Rattle.stream_core.specs.declared.streams.Thunk.{Thunk}
use Rattle.stream_core.specs.declared.streams.Thunk.TheVariants.{Call, Pause, Swap, Bind}
use Rattle.stream_core.specs.declared.plain_nodes.PlainId.{PlainId}

-- what stands for nothing
abbrev pub no_thunk : model.Thunk
no_thunk = model.Thunk.call 0 [] (facts.bare 0)

-- the tree that an id stands for, where these trees are there
abbrev pub tree_at : List model.Thunk → PlainId → model.Thunk
tree_at ts id = unwrap_or (slice_get ts id.at) no_thunk

module _ {St : Type 0} (means : St → facts.Store) (goal : ℕ → Goal) where
  -- the trees of a list, grown from those before it
  abbrev pub trees_after : List model.Thunk → List (Thunk PlainId St) → List model.Thunk
  trees_after ts [] = ts
  trees_after ts (n ∷ ns) = trees_after (ts ++ standing.thunk (tree_at ts) means goal n ∷ []) ns

-- an id names one of the first n
abbrev pub is_below : ℕ → PlainId → Bool
is_below n id = nat_lt id.at n

abbrev pub tail_below : ℕ → Option PlainId → Bool
tail_below n None = true
tail_below n (Some id) = is_below n id

abbrev pub names_below : {St : Type 0} → ℕ → Thunk PlainId St → Bool
names_below n (Call rel args store) = true
names_below n (Pause g env store) = true
names_below n (Swap heads tail inner) = tail_below n tail && is_below n inner
names_below n (Bind g env inner) = is_below n inner

-- each names earlier ones alone
abbrev pub all_grown : {St : Type 0} → ℕ → List (Thunk PlainId St) → Bool
all_grown n [] = true
all_grown n (t ∷ ts) = names_below n t && all_grown (suc n) ts

-- the id names one of the list
abbrev pub is_placed : {St : Type 0} → List (Thunk PlainId St) → PlainId → Type 0
is_placed ns id = id.at < length ns

-- the tree that an id stands for under a program
abbrev pub grown_tree : {St : Type 0} → (St → facts.Store) → Program → List (Thunk PlainId St) →
    PlainId → model.Thunk
grown_tree means program ns = tree_at (trees_after means (standing.goal_in program) [] ns)
