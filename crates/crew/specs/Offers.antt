-- Which suspensions are offered, and what is pushed of them.
use Rattle.std.specs.Prelude.{◌≡◌, List, [], ◌∷◌, ◌++◌, map, Option, None, Some}
use Rattle.std.specs.Option.{option_to_list}
use Rattle.kan_model.specs.Streams.Stream as model
use Rattle.susp_cells.specs.Places.{label_tree}
use Rattle.task_deques.specs.Holders.{Holder, holder_part, deque_of, others_of, pushed_to}
use Rattle.task_deques.specs.Holders.{taken_from}
use Rattle.crew.specs.declared.tasks.Offered.{Offered}

-- how a stream goes on
abbrev pub tail_of : model.Stream → Option model.Thunk
tail_of (model.Stream.ends hs) = None
tail_of (model.Stream.goes_on hs t) = Some t

-- what stands inside a suspension, in order: what is forced with it, and the tail of the stream
-- that waits behind that
abbrev pub offered_inside : model.Thunk → List model.Thunk
offered_inside (model.Thunk.call rel args store) = []
offered_inside (model.Thunk.pause goal env store) = []
offered_inside (model.Thunk.swap waiting inner) = inner ∷ option_to_list (tail_of waiting)
offered_inside (model.Thunk.bind goal env inner) = inner ∷ []

-- the suspensions that are offered for one, in order: what stands inside it, and itself
abbrev pub offered_trees : model.Thunk → List model.Thunk
offered_trees t = offered_inside t ++ t ∷ []

-- those that are offered for the tail of a stream
abbrev pub offered_for : Option model.Thunk → List model.Thunk
offered_for None = []
offered_for (Some t) = offered_trees t

-- some of a list, in its order
pub data IsPartOf {X : Type 0} : List X → List X → Type 0 where
  none : IsPartOf [] []
  with : {x : X} {xs ys : List X} → IsPartOf xs ys → IsPartOf (x ∷ xs) (x ∷ ys)
  without : {x : X} {xs ys : List X} → IsPartOf xs ys → IsPartOf xs (x ∷ ys)

module _ {St : Type 0} where
  -- what a task stands for
  abbrev pub tree_of : Offered St → model.Thunk
  tree_of task = label_tree task.susp

  -- tasks for some of these suspensions were pushed, in their order, and nothing else was done
  pub record Offers (before after : Holder (Offered St)) (trees : List model.Thunk) : Type 0 where
    pub given : List (Offered St)
    pub some : IsPartOf (map tree_of given) trees
    pub pushed_more : pushed_to (deque_of after) ≡ pushed_to (deque_of before) ++ given
    pub part : holder_part after ≡ holder_part before
    pub taken_same : taken_from (deque_of after) ≡ taken_from (deque_of before)
    pub others : others_of after ≡ others_of before
