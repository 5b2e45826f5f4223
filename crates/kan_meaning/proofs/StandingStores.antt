-- Each store that a run takes is kept, and its counter lies above its variables.
use Rattle.std.proofs.Common.{◌≡◌, ℕ, ◌+◌, ◌≤◌, Bool, true, false, List, [], ◌∷◌, ◌++◌, Option, Some, None, slice_get, refl, ◌∙◌, arith}
use Rattle.std.specs.List.{list_all}
use Rattle.std.proofs.lemmas.Bool.{and_from, and_parts, lt-ltb}
use Rattle.std.proofs.lemmas.List.Folds.{list_all-append}
use Rattle.kan_terms.specs.Tree.{Tree, Tm}
use Rattle.kan_model.specs.Programs.Goals.{Primitive, Goal, Relation, Program, on_sides}
use Rattle.kan_model.specs.Programs.Scope.{all_below, is_counted}
use Rattle.kan_model.specs.Stores.Kept.{is_kept}
use Rattle.kan_model.specs.Stores.Store.{Store, bare, with_prim, with_fresh}
use Rattle.kan_model.specs.Streams.Running.{Arguments, and_value, assert, variables, instance, instances, name_pairs, named_store, run, enter, force, start}
use Rattle.kan_model.specs.Streams.Stream.{Stream, Thunk, one, empty, append, append_each, bind_all}
use Rattle.kan_model.proofs.ListLaws.{Each-like}
use Rattle.kan_model.specs.Each.{Each}
use Rattle.kan_model.proofs.Solving.FreshLaws.{fresh_is_kept}
use Rattle.pull_bounds.proofs.LongerValuations.{below-more, all-below_more, sides-below_instance, below-instances, below-variables}
use Rattle.pull_bounds.proofs.NamedArguments.{counted-fresh, counted-with}
use Rattle.pull_bounds.proofs.KeptStores.{solved_is_kept}

-- a kept store whose counter lies above its variables, and isn't below a number
pub record Stands (n : ℕ) (st : Store) : Type 0 where
  pub kept : is_kept st ≡ true
  pub counted : is_counted st ≡ true
  pub above : n ≤ st.counter

-- the same of each store that can come of a stream; environments lie below the counters of the stores that they meet
abbrev mutual
  pub StreamStands : Stream → ℕ → Type 0
  StreamStands (Stream.ends hs) n = Each (Stands n) hs
  StreamStands (Stream.goes_on hs i) n = Each (Stands n) hs × ThunkStands i n

  pub ThunkStands : Thunk → ℕ → Type 0
  ThunkStands (Thunk.call r args st) n = Stands n st × (list_all (all_below st.counter) args ≡ true)
  ThunkStands (Thunk.pause g env st) n = Stands n st × (list_all (all_below st.counter) env ≡ true)
  ThunkStands (Thunk.swap s i) n = StreamStands s n × ThunkStands i n
  ThunkStands (Thunk.bind g env i) n = (m : ℕ) × (n ≤ m) × (list_all (all_below m) env ≡ true) × ThunkStands i m

stands_lower : (n m : ℕ) → n ≤ m → (st : Store) → Stands m st → Stands n st
stands_lower n m le st h = record { kept = h.kept; counted = h.counted; above = omega (arith, le, h.above) }

mutual
  stream_lower : (n m : ℕ) → n ≤ m → (s : Stream) → StreamStands s m → StreamStands s n
  stream_lower n m le (Stream.ends hs) h = Each-like (Stands m) (Stands n) (stands_lower n m le) hs h
  stream_lower n m le (Stream.goes_on hs i) (h, behind) = (Each-like (Stands m) (Stands n) (stands_lower n m le) hs h, thunk_lower n m le i behind)

  thunk_lower : (n m : ℕ) → n ≤ m → (i : Thunk) → ThunkStands i m → ThunkStands i n
  thunk_lower n m le (Thunk.call r args st) (h, below) = (stands_lower n m le st h, below)
  thunk_lower n m le (Thunk.pause g env st) (h, below) = (stands_lower n m le st h, below)
  thunk_lower n m le (Thunk.swap s i) (h, behind) = (stream_lower n m le s h, thunk_lower n m le i behind)
  thunk_lower n m le (Thunk.bind g env i) (k, least, below, h) = (k, omega (arith, le, least), below, h)

-- arguments that have names
record NamesStand (n : ℕ) (args : Arguments) : Type 0 where
  pub store : Stands n args.store
  pub below : list_all (all_below args.store.counter) args.values ≡ true

name_stands : (st : Store) (t : Tm) → is_kept st ≡ true → is_counted st ≡ true → all_below st.counter t ≡ true → Stands (st.counter + 1) (named_store st t)
name_stands st t kept counted below = record {
  kept = fresh_is_kept st t kept counted below;
  counted = counted-with (with_fresh st 1) (Primitive.same (Tree.leaf st.counter) t) (counted-fresh st 1 counted)
      (and_from (all_below (st.counter + 1) (Tree.leaf st.counter)) (all_below (st.counter + 1) t) (lt-ltb st.counter (st.counter + 1) (omega arith))
      (below-more st.counter (st.counter + 1) (omega arith) t below));
  above = omega arith;
}

and_first : (n : ℕ) (t : Tm) (rest : Arguments) → all_below n t ≡ true → NamesStand n rest → NamesStand n (and_value t rest)
and_first n t rest below h = record {
  store = h.store;
  below = and_from (all_below rest.store.counter t) (list_all (all_below rest.store.counter) rest.values) (below-more n rest.store.counter h.store.above t below) h.below;
}

names_lower : (n m : ℕ) → n ≤ m → (args : Arguments) → NamesStand m args → NamesStand n args
names_lower n m le args h = record { store = stands_lower n m le args.store h.store; below = h.below }

names_stand : (st : Store) (ts : List Tm) → is_kept st ≡ true → is_counted st ≡ true → list_all (all_below st.counter) ts ≡ true → NamesStand st.counter (name_pairs st ts)
names_stand st [] kept counted below = record { store = record { kept = kept; counted = counted; above = omega arith }; below = refl }
names_stand st (t ∷ ts) kept counted below =
    let (first, rest) = and_parts (all_below st.counter t) (list_all (all_below st.counter) ts) below in
    by t first rest (names_stand st ts kept counted rest) (λ st' kept' counted' below'. names_stand st' ts kept' counted' below')
  where
    by : (t : Tm) → all_below st.counter t ≡ true → list_all (all_below st.counter) ts ≡ true → NamesStand st.counter (name_pairs st ts) →
        ((st' : Store) → is_kept st' ≡ true → is_counted st' ≡ true → list_all (all_below st'.counter) ts ≡ true → NamesStand st'.counter (name_pairs st' ts)) →
        NamesStand st.counter (name_pairs st (t ∷ ts))
    by (Tree.leaf v) first rest h again = and_first st.counter (Tree.leaf v) (name_pairs st ts) first h
    by (Tree.sym s) first rest h again = and_first st.counter (Tree.sym s) (name_pairs st ts) first h
    by (Tree.str s) first rest h again = and_first st.counter (Tree.str s) (name_pairs st ts) first h
    by (Tree.num n) first rest h again = and_first st.counter (Tree.num n) (name_pairs st ts) first h
    by (Tree.truth b) first rest h again = and_first st.counter (Tree.truth b) (name_pairs st ts) first h
    by Tree.nil first rest h again = and_first st.counter Tree.nil (name_pairs st ts) first h
    by (Tree.pair a b) first rest h again =
        let named = name_stands st (Tree.pair a b) kept counted first in
        names_lower st.counter (st.counter + 1) (omega arith) (and_value (Tree.leaf st.counter) (name_pairs (named_store st (Tree.pair a b)) ts))
        (and_first (st.counter + 1) (Tree.leaf st.counter) (name_pairs (named_store st (Tree.pair a b)) ts) (lt-ltb st.counter (st.counter + 1) (omega arith))
        (again (named_store st (Tree.pair a b)) named.kept named.counted (all-below_more st.counter (st.counter + 1) (omega arith) ts rest)))

both_stand : (n : ℕ) (hs ks : List Store) → Each (Stands n) hs → Each (Stands n) ks → Each (Stands n) (hs ++ ks)
both_stand n [] ks h k = k
both_stand n (st ∷ hs) ks (first, h) k = (first, both_stand n hs ks h k)

append_stands : (n : ℕ) (s t : Stream) → StreamStands s n → StreamStands t n → StreamStands (append s t) n
append_stands n (Stream.ends hs) (Stream.ends ks) h k = both_stand n hs ks h k
append_stands n (Stream.ends hs) (Stream.goes_on ks i) h (k, behind) = (both_stand n hs ks h k, behind)
append_stands n (Stream.goes_on hs i) t (h, behind) k = (h, (k, behind))

-- what a goal gives at stores that stand above its environment
abbrev RunStands : Goal → List Tm → Type 0
RunStands g env = (st : Store) → is_kept st ≡ true → is_counted st ≡ true → list_all (all_below st.counter) env ≡ true → StreamStands (run g env st) st.counter

module _ (n : ℕ) (g : Goal) (env : List Tm) (below : list_all (all_below n) env ≡ true) (ran : RunStands g env) where
  each_stands : (hs : List Store) (last : Stream) → Each (Stands n) hs → StreamStands last n → StreamStands (append_each (run g env) hs last) n
  each_stands [] last h k = k
  each_stands (st ∷ hs) last (first, h) k =
      append_stands n (run g env st) (append_each (run g env) hs last)
      (stream_lower n st.counter first.above (run g env st) (ran st first.kept first.counted (all-below_more n st.counter first.above env below)))
      (each_stands hs last h k)

  bind_stands : (s : Stream) → StreamStands s n → StreamStands (bind_all (run g env) g env s) n
  bind_stands (Stream.ends hs) h = each_stands hs empty h tt
  bind_stands (Stream.goes_on hs i) (h, behind) = each_stands hs (Stream.goes_on [] (Thunk.bind g env i)) h (tt, (n, omega arith, below, behind))

assert_stands : (st : Store) (p : Primitive Tm) → is_counted (with_prim st p) ≡ true → StreamStands (assert st p) st.counter
assert_stands st p counted = by (is_kept (with_prim st p)) refl
  where
    by : (kept : Bool) → is_kept (with_prim st p) ≡ kept → StreamStands (elim kept [ true ↦ one (with_prim st p) | false ↦ empty ]) st.counter
    by true e = (record { kept = e; counted = counted; above = omega arith }, tt)
    by false e = tt

run_stands : (g : Goal) (env : List Tm) → RunStands g env
run_stands (Goal.prim p) env st kept counted below =
    assert_stands st (on_sides (instance env) p) (counted-with st (on_sides (instance env) p) counted (sides-below_instance st.counter env below p))
run_stands Goal.succeed env st kept counted below = (record { kept = kept; counted = counted; above = omega arith }, tt)
run_stands Goal.fail env st kept counted below = tt
run_stands (Goal.both g h) env st kept counted below = bind_stands st.counter h env below (run_stands h env) (run g env st) (run_stands g env st kept counted below)
run_stands (Goal.either g h) env st kept counted below =
    append_stands st.counter (run g env st) (run h env st) (run_stands g env st kept counted below) (run_stands h env st kept counted below)
run_stands (Goal.fresh k g) env st kept counted below =
    stream_lower st.counter (st.counter + k) (omega arith) (run g (env ++ variables st.counter k) (with_fresh st k))
    (run_stands g (env ++ variables st.counter k) (with_fresh st k) kept (counted-fresh st k counted)
    (list_all-append (all_below (st.counter + k)) env (variables st.counter k)
    ∙ and_from (list_all (all_below (st.counter + k)) env) (list_all (all_below (st.counter + k)) (variables st.counter k))
    (all-below_more st.counter (st.counter + k) (omega arith) env below) (below-variables (st.counter + k) st.counter k (omega arith))))
run_stands (Goal.later g) env st kept counted below = (tt, (record { kept = kept; counted = counted; above = omega arith }, below))
run_stands (Goal.call r args) env st kept counted below =
    let named = names_stand st (instances env args) kept counted (below-instances st.counter env below args) in
    (tt, (named.store, named.below))

module _ (program : Program) where
  pub force_stands : (n : ℕ) (i : Thunk) → ThunkStands i n → StreamStands (force program i) n
  force_stands n (Thunk.call r args st) (h, below) = by (slice_get program.relations r)
    where
      by : (found : Option Relation) → StreamStands (enter found args st) n
      by None = tt
      by (Some rel) = stream_lower n st.counter h.above (run rel.body args st) (run_stands rel.body args st h.kept h.counted below)
  force_stands n (Thunk.pause g env st) (h, below) = stream_lower n st.counter h.above (run g env st) (run_stands g env st h.kept h.counted below)
  force_stands n (Thunk.swap s i) (h, behind) = append_stands n s (force program i) h (force_stands n i behind)
  force_stands n (Thunk.bind g env i) (m, le, below, h) =
      stream_lower n m le (bind_all (run g env) g env (force program i)) (bind_stands m g env below (run_stands g env) (force program i) (force_stands m i h))

pub start_stands : (g : Goal) → StreamStands (start g) 1
start_stands g = run_stands g (Tree.leaf 0 ∷ []) (bare 1) (solved_is_kept (bare 1) (Tree.nil ∷ []) (refl, refl)) refl refl
