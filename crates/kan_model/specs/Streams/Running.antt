-- The stream of a goal, and of a suspension that is forced.
use Rattle.std.specs.Prelude.{ℕ, zero, suc, true, false, List, [], ◌∷◌, ◌++◌, Option, Some, None}
use Rattle.std.specs.Prelude.{slice_get}
use Rattle.kan_terms.specs.Tree.{Tree, Tm, fill}
use Rattle.kan_model.specs.Programs.Goals.{Primitive, Goal, Template, Relation, Program, on_sides}
use Rattle.kan_model.specs.Stores.Store.{Store, bare, with_prim, with_fresh}
use Rattle.kan_model.specs.Stores.Kept.{is_kept}
use Rattle.kan_model.specs.Streams.Stream.{Stream, Thunk, empty, one, append, bind_all}

-- what a slot stands for in an environment
abbrev pub slot : List Tm → ℕ → Tm
slot [] i = Tree.nil
slot (t ∷ ts) zero = t
slot (t ∷ ts) (suc i) = slot ts i

-- a template with its slots filled
abbrev pub instance : List Tm → Template → Tm
instance env = fill (slot env)

-- as many variables as are wanted, from a number on
abbrev pub variables : ℕ → ℕ → List Tm
variables first zero = []
variables first (suc k) = Tree.leaf first ∷ variables (suc first) k

-- the store with one primitive more, where that is kept
abbrev pub assert : Store → Primitive Tm → Stream
assert st p = elim (is_kept (with_prim st p)) [ true ↦ one (with_prim st p) | false ↦ empty ]

-- arguments without pairs, and the store in which the pairs have names
pub record Arguments : Type 0 where
  pub values : List Tm
  pub store : Store

abbrev pub and_value : Tm → Arguments → Arguments
and_value t rest = record { values = t ∷ rest.values; store = rest.store }

-- the store in which the next variable is equal to a term
abbrev pub named_store : Store → Tm → Store
named_store st t = with_prim (with_fresh st 1) (Primitive.same (Tree.leaf st.counter) t)

-- each argument that is a pair is named by a fresh variable, from left to right
abbrev pub name_pairs : Store → List Tm → Arguments
name_pairs st [] = record { values = []; store = st }
name_pairs st (Tree.pair a b ∷ ts) =
    and_value (Tree.leaf st.counter) (name_pairs (named_store st (Tree.pair a b)) ts)
name_pairs st (t ∷ ts) = and_value t (name_pairs st ts)

abbrev pub instances : List Tm → List Template → List Tm
instances env [] = []
instances env (t ∷ ts) = instance env t ∷ instances env ts

-- a call waits, with its arguments named
abbrev pub suspended_call : ℕ → Arguments → Stream
suspended_call r args = Stream.goes_on [] (Thunk.call r args.values args.store)

-- the stream of a goal at a store
abbrev pub run : Goal → List Tm → Store → Stream
run (Goal.prim p) env st = assert st (on_sides (instance env) p)
run Goal.succeed env st = one st
run Goal.fail env st = empty
run (Goal.both g h) env st = bind_all (run h env) h env (run g env st)
run (Goal.either g h) env st = append (run g env st) (run h env st)
run (Goal.fresh k g) env st = run g (env ++ variables st.counter k) (with_fresh st k)
run (Goal.later g) env st = Stream.goes_on [] (Thunk.pause g env st)
run (Goal.call r args) env st = suspended_call r (name_pairs st (instances env args))

-- the body of a relation, run with its parameters standing for the arguments
abbrev pub enter : Option Relation → List Tm → Store → Stream
enter None args st = empty
enter (Some r) args st = run r.body args st

-- the stream that a thunk stands for: one call or pause is expanded
abbrev pub force : Program → Thunk → Stream
force program (Thunk.call r args st) = enter (slice_get program.relations r) args st
force program (Thunk.pause g env st) = run g env st
force program (Thunk.swap t i) = append t (force program i)
force program (Thunk.bind g env i) = bind_all (run g env) g env (force program i)

-- a run begins with its goal at the store without primitives, where slot 0 is variable 0
abbrev pub start : Goal → Stream
start g = run g (Tree.leaf 0 ∷ []) (bare 1)
