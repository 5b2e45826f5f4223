-- The suspensions that ids own, and how they are taken apart and closed again.
use Rattle.std.specs.Prelude.{◌≡◌, ℕ, List, [], ◌∷◌, map, Option, Some, None, option_map, unwrap_or}
use Rattle.std.specs.Prelude.{Result, Ok, Err, false}
use Rattle.std.specs.Arc.{arc_value}
use Rattle.kan_terms.specs.Tree.{Tree}
use Rattle.kan_model.specs.Programs.Environments.{terms_of}
use Rattle.kan_model.specs.Programs.Goals.{Goal}
use Rattle.kan_model.specs.Stores.Store as facts
use Rattle.kan_model.specs.Streams.Stream as model
use Rattle.stream_core.specs.InnerSuspensions.{has_inner}
use Rattle.stream_core.specs.Surroundings as outer
use Rattle.stream_core.specs.Suspensions.{inner_id, stream_of_parts, going_on, stream, thunk}
use Rattle.stream_core.specs.declared.streams.Stream.{Stream}
use Rattle.stream_core.specs.declared.streams.Thunk.{Thunk}
use Rattle.stream_core.specs.declared.streams.Thunk.TheVariants.{Call, Pause, Swap, Bind}
use Rattle.stream_core.specs.declared.nodes.Innermost.{Innermost}
use Rattle.stream_core.specs.declared.nodes.Innermost.TheVariants as innermost
use Rattle.stream_core.specs.declared.nodes.Closed.TheVariants as closed
use Rattle.stream_core.specs.declared.linked_ids.Weighed.{Weighed}
use Rattle.stream_core.specs.declared.linked_ids.Exchanged.{Exchanged}
use Rattle.stream_core.specs.declared.linked_ids.Exchanged.TheVariants as exchanged
use Rattle.stream_core.specs.declared.linked_ids.Entered.{Entered}
use Rattle.stream_core.specs.declared.linked_ids.Entered.TheVariants.{Inside, Outside}
use Rattle.stream_core.specs.declared.linked_ids.Step.{Step}
use Rattle.stream_core.specs.declared.linked_ids.Step.TheVariants as steps
use Rattle.stream_core.specs.declared.linked_ids.Level.{Level}
use Rattle.stream_core.specs.declared.linked_ids.Level.TheVariants as levels
use Rattle.stream_core.specs.declared.linked_ids.LinkedId.{LinkedId, out-LinkedId, fold-LinkedId}

-- the suspension of a node
abbrev pub thunk_of : {T : Type 0} → Weighed T → T
thunk_of node = node.thunk

-- the suspension that an id owns, where it has one
abbrev pub suspension_of : {St : Type 0} → LinkedId St → Option (Thunk (LinkedId St) St)
suspension_of {St} id = option_map (λ node. thunk_of (arc_value node)) (out-LinkedId St id).node

-- what an id stands for: its suspension, or those around another one that was inside it
pub record Reading : Type 0 where
  pub tree : model.Thunk
  pub around : List outer.Around

-- what an id without a suspension stands for: it fits no program, and nothing is around it
abbrev pub nothing_read : Reading
nothing_read = record { tree = model.Thunk.call 0 (Tree.leaf 0 ∷ []) (facts.bare 0); around = [] }

-- an id in the place of the one inside a suspension
abbrev pub with_inner : {I St : Type 0} → Thunk I St → I → Thunk I St
with_inner (Call rel args store) i = Call rel args store
with_inner (Pause g env store) i = Pause g env store
with_inner (Swap heads tail inner) i = Swap heads tail i
with_inner (Bind g env inner) i = Bind g env i

abbrev pub IsExchanged : {I St : Type 0} → Thunk I St → I → Thunk I St → Result I I → Type 0
IsExchanged old other new (Ok inner) =
    (inner_id old ≡ Some inner) × (new ≡ with_inner old other)
IsExchanged old other new (Err same) = (inner_id old ≡ None) × (new ≡ old) × (same ≡ other)

abbrev pub HasExchanged : {St : Type 0} → Thunk (LinkedId St) St → LinkedId St →
    Thunk (LinkedId St) St → Exchanged St → Type 0
HasExchanged old other new (exchanged.Inner inner) =
    (inner_id old ≡ Some inner) × (new ≡ with_inner old other)
HasExchanged old other new (exchanged.Last same) =
    (inner_id old ≡ None) × (new ≡ old) × (same ≡ other)
HasExchanged old other new (exchanged.Shared same) = (new ≡ old) × (same ≡ other)

-- the suspension of an id, or another id of the same
abbrev pub IsWholeOrSame : {St : Type 0} → LinkedId St → Innermost (LinkedId St) St → Type 0
IsWholeOrSame id (innermost.Last t) = suspension_of id ≡ Some t
IsWholeOrSame id (innermost.Shared same) = suspension_of same ≡ suspension_of id

module _ {St : Type 0} (means : St → facts.Store) (goal : ℕ → Goal) where
  -- what stands around the one inside a suspension, and then all that is read there
  abbrev pub layers : {I : Type 0} → (I → model.Thunk) → (I → List outer.Around) → Thunk I St →
      List outer.Around
  layers tree around (Call rel args store) = []
  layers tree around (Pause g env store) = []
  layers tree around (Swap heads tail inner) =
      outer.Around.swap (stream_of_parts tree means heads tail) ∷ around inner
  layers tree around (Bind g env inner) = outer.Around.bind (goal g) (terms_of env) ∷ around inner

  abbrev pub thunk_read : Thunk Reading St → Reading
  thunk_read t = record {
    tree = thunk (λ r. r.tree) means goal t;
    around = layers (λ r. r.tree) (λ r. r.around) t;
  }

  abbrev pub reading : LinkedId St → Reading
  reading id = fold-LinkedId St Reading (λ layer. unwrap_or (option_map
      (λ node. thunk_read (thunk_of (arc_value node))) layer.node) nothing_read) id

  -- the suspension that an id stands for, and those that stand around another one
  abbrev pub linked_tree : LinkedId St → model.Thunk
  linked_tree id = (reading id).tree

  abbrev pub linked_around : LinkedId St → List outer.Around
  linked_around id = (reading id).around

  abbrev pub linked_thunk : Thunk (LinkedId St) St → model.Thunk
  linked_thunk t = thunk linked_tree means goal t

  abbrev pub linked_layers : Thunk (LinkedId St) St → List outer.Around
  linked_layers t = layers linked_tree linked_around t

  abbrev pub linked_stream : Stream (LinkedId St) St → model.Stream
  linked_stream s = stream linked_tree means s

  -- a suspension was put around others, and what was inside it is left
  pub record IsDown (whole around longer inner : LinkedId St) : Type 0 where
    pub layer : outer.Around
    pub more : linked_around longer ≡ layer ∷ linked_around around
    pub is : outer.within layer (linked_tree inner) ≡ linked_tree whole

  abbrev pub IsInnermost : LinkedId St → Innermost (LinkedId St) St → Type 0
  IsInnermost id (innermost.Last t) =
      (linked_thunk t ≡ linked_tree id) × (has_inner (linked_tree id) ≡ false)
  IsInnermost id (innermost.Shared same) = linked_tree same ≡ linked_tree id

  -- one step down from a suspension, where others stand around it
  abbrev pub IsStep : LinkedId St → LinkedId St → Step St → Type 0
  IsStep id around (steps.Down longer inner) = IsDown id around longer inner
  IsStep id around (steps.End parted) =
      (parted.around ≡ around) × IsInnermost id parted.innermost

  -- a suspension made a stream of the one that was inside it
  pub record IsUp (around : List outer.Around) (inside : Stream (LinkedId St) St)
      (shorter : LinkedId St) (made : Stream (LinkedId St) St) : Type 0 where
    pub layer : outer.Around
    pub fewer : around ≡ layer ∷ linked_around shorter
    pub is : linked_stream made ≡ outer.made_within layer (linked_stream inside)

  -- one step up from a stream, where this stands around it
  abbrev pub IsLevel : List outer.Around → Stream (LinkedId St) St → Level St → Type 0
  IsLevel around inside (levels.Up shorter made) = IsUp around inside shorter made
  IsLevel around inside (levels.End (closed.Made made)) =
      (around ≡ []) × (linked_stream made ≡ linked_stream inside)
  IsLevel around inside (levels.End (closed.Run g env s shorter)) =
      (around ≡ outer.Around.bind (goal g) (terms_of env) ∷ linked_around shorter)
      × (linked_stream s ≡ linked_stream inside)

  -- the stream was let into the suspension, or nothing was changed
  pub record IsInside (old new : Thunk (LinkedId St) St) (inside : Stream (LinkedId St) St)
      (around : LinkedId St) (heads : List St) : Type 0 where
    pub layer : outer.Around
    pub fewer : linked_layers old ≡ layer ∷ linked_around around
    pub made : going_on (map means heads) (Some (linked_thunk new))
        ≡ outer.made_within layer (linked_stream inside)

  abbrev pub IsEntered : Thunk (LinkedId St) St → Stream (LinkedId St) St →
      Thunk (LinkedId St) St → Entered St → Type 0
  IsEntered old inside new (Inside around heads) = IsInside old new inside around heads
  IsEntered old inside new (Outside same) = (new ≡ old) × (same ≡ inside)

-- the same by the parts of the suspension
abbrev pub IsInsideBind : {St : Type 0} → LinkedId St → Stream (LinkedId St) St →
    LinkedId St → Entered St → Type 0
IsInsideBind old inside new (Inside around heads) =
    (around ≡ old) × (inside.heads ≡ []) × (inside.tail ≡ Some new) × (heads ≡ [])
IsInsideBind old inside new (Outside same) = (new ≡ old) × (same ≡ inside)

pub record IsInsideSwap {St : Type 0} (heads_old heads_new heads : List St)
    (tail_old tail_new : Option (LinkedId St)) (old new around : LinkedId St)
    (inside : Stream (LinkedId St) St) : Type 0 where
  pub first : heads ≡ heads_old
  pub outer : around ≡ old
  pub next : tail_old ≡ Some new
  pub waiting : heads_new ≡ inside.heads
  pub last : tail_new ≡ inside.tail

abbrev pub HasEnteredSwap : {St : Type 0} → List St → Option (LinkedId St) → LinkedId St →
    Stream (LinkedId St) St → List St → Option (LinkedId St) → LinkedId St → Entered St → Type 0
HasEnteredSwap hs t i inside hs_new t_new i_new (Inside around heads) =
    IsInsideSwap hs hs_new heads t t_new i i_new around inside
HasEnteredSwap hs t i inside hs_new t_new i_new (Outside same) =
    (hs_new ≡ hs) × (t_new ≡ t) × (i_new ≡ i) × (same ≡ inside)
