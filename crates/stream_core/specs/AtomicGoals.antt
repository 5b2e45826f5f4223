-- Which goals run no others, and which of them have all their stores at once.
use Rattle.std.specs.Prelude.{Bool, true, false, Option}
use Rattle.std.specs.Option.{option_to_list}
use Rattle.kan_model.specs.Programs.Goals.{Primitive}
use Rattle.kan_model.specs.Programs.Tables.{GoalEntry}
use Rattle.kan_model.specs.Stores.Store.{Store}
use Rattle.kan_model.specs.Streams.Stream as model
use Rattle.kan_model.specs.declared.prims.Kind.{Kind}
use Rattle.kan_model.specs.declared.prims.Kind.TheVariants.{Symbol, Number, Text}

-- the goal runs no others
abbrev pub is_atomic : GoalEntry → Bool
is_atomic (GoalEntry.both g h) = false
is_atomic (GoalEntry.either g h) = false
is_atomic (GoalEntry.fresh k g) = false
is_atomic _ = true

-- the stream of the goal ends with its stores: it succeeds, fails or is a primitive
abbrev pub ends_at_once : GoalEntry → Bool
ends_at_once (GoalEntry.later g) = false
ends_at_once (GoalEntry.call r at k) = false
ends_at_once e = is_atomic e

-- the primitive that a term is of a type
abbrev pub of_kind : {X : Type 0} → Kind → X → Primitive X
of_kind Symbol a = Primitive.symbol a
of_kind Number a = Primitive.number a
of_kind Text a = Primitive.text a

-- the stream that ends with a store, or without one
abbrev pub ends_with : Option Store → model.Stream
ends_with store = model.Stream.ends (option_to_list store)
