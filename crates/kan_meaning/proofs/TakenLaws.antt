-- Each store that a run takes has only solutions at which the run's goal has a derivation.
use Rattle.std.proofs.Common.{◌≡◌, ℕ, zero, suc, Bool, true, false, List, [], ◌∷◌, ◌++◌, length, map, Option, Some, None, slice_get, refl, sym, ap, ap₂, subst, ◌∙◌}
use Rattle.std.specs.List.{list_all}
use Rattle.std.proofs.lemmas.Bool.{and_parts}
use Rattle.std.proofs.lemmas.List.{map-append}
use Rattle.std.proofs.lemmas.List.Folds.{list_all-append}
use Rattle.kan_terms.specs.Tree.{Tree, Tm, Gd}
use Rattle.kan_terms.specs.Valuations.{value_at, value}
use Rattle.kan_model.specs.Meaning.Derivations.{Derivation, Derives, IsRunSolution}
use Rattle.kan_model.specs.Meaning.Holds.{holds_at}
use Rattle.kan_model.specs.Programs.Goals.{Primitive, Goal, Relation, Program, on_sides}
use Rattle.kan_model.specs.Stores.Kept.{is_kept}
use Rattle.kan_model.specs.Stores.Store.{Store, bare, with_prim, with_fresh}
use Rattle.kan_model.specs.Streams.Running.{Arguments, assert, variables, instance, instances, name_pairs, named_store, run, enter, force, start}
use Rattle.kan_model.specs.Streams.Stream.{Stream, Thunk, one, empty, append, append_each, bind_all}
use Rattle.kan_model.specs.Streams.Taking.{take_query}
use Rattle.kan_model.specs.Each.{Each}
use Rattle.kan_model.proofs.Meaning.DerivationLaws.{test_from-Derives}
use Rattle.pull_bounds.proofs.LongerValuations.{values-instances, holds-instance}
use Rattle.kan_terms.proofs.TreeLaws.{ground_eq-true}
use Rattle.kan_meaning.proofs.TakingLaws.{one_of_each, take_each}
use Rattle.kan_meaning.specs.TakenStores.{TakenAreSolutions}

-- all primitives of a store hold under a valuation
abbrev Holds : List Gd → Store → Type 0
Holds us st = list_all (holds_at us) st.prims ≡ true

-- what holds under one primitive more
holds_with : (us : List Gd) (st : Store) (p : Primitive Tm) → Holds us (with_prim st p) → Holds us st × (holds_at us p ≡ true)
holds_with us st p h =
    let (before, last) = and_parts (list_all (holds_at us) st.prims) (list_all (holds_at us) (p ∷ [])) (sym (list_all-append (holds_at us) st.prims (p ∷ [])) ∙ h) in
    (before, (and_parts (holds_at us p) true last).0)

-- the arguments that have names mean what they meant, in a store that says more
abbrev NamesMean : List Gd → Store → List Tm → Arguments → Type 0
NamesMean us st ts named = Holds us named.store → Holds us st × (map (value us) named.values ≡ map (value us) ts)

names_mean : (us : List Gd) (st : Store) (ts : List Tm) → NamesMean us st ts (name_pairs st ts)
names_mean us st [] h = (h, refl)
names_mean us st (Tree.leaf v ∷ ts) h = let (before, same) = names_mean us st ts h in (before, ap (λ l. value us (Tree.leaf v) ∷ l) same)
names_mean us st (Tree.sym s ∷ ts) h = let (before, same) = names_mean us st ts h in (before, ap (λ l. Tree.sym s ∷ l) same)
names_mean us st (Tree.str s ∷ ts) h = let (before, same) = names_mean us st ts h in (before, ap (λ l. Tree.str s ∷ l) same)
names_mean us st (Tree.num n ∷ ts) h = let (before, same) = names_mean us st ts h in (before, ap (λ l. Tree.num n ∷ l) same)
names_mean us st (Tree.truth b ∷ ts) h = let (before, same) = names_mean us st ts h in (before, ap (λ l. Tree.truth b ∷ l) same)
names_mean us st (Tree.nil ∷ ts) h = let (before, same) = names_mean us st ts h in (before, ap (λ l. Tree.nil ∷ l) same)
names_mean us st (Tree.pair a b ∷ ts) h =
    let (named, same) = names_mean us (named_store st (Tree.pair a b)) ts h in
    let (before, name) = holds_with us (with_fresh st 1) (Primitive.same (Tree.leaf st.counter) (Tree.pair a b)) named in
    (before, ap₂ (λ u l. u ∷ l) (ground_eq-true (value us (Tree.leaf st.counter)) (value us (Tree.pair a b)) name) same)

variables_long : (us : List Gd) (first k : ℕ) → length (map (value us) (variables first k)) ≡ k
variables_long us first zero = refl
variables_long us first (suc k) = ap suc (variables_long us (suc first) k)

-- a store has only valuations of which P holds
abbrev StoreMeans : (List Gd → Type 0) → Store → Type 0
StoreMeans P st = (us : List Gd) → Holds us st → P us

module _ (program : Program) where
  -- P holds of each valuation of the store at which the goal has a derivation
  abbrev GoalMeans : (List Gd → Type 0) → Goal → List Tm → Store → Type 0
  GoalMeans P g env st = (us : List Gd) → Holds us st → (d : Derivation) → Derives program g (map (value us) env) d → P us

  -- P holds of each valuation at which the goal, in an environment, has a derivation
  abbrev Behind : (List Gd → Type 0) → Goal → List Tm → List Gd → Type 0
  Behind P g env us = (d : Derivation) → Derives program g (map (value us) env) d → P us

  -- each store that can come of a stream has only valuations of which P holds
  abbrev mutual
    StreamMeans : Stream → (List Gd → Type 0) → Type 0
    StreamMeans (Stream.ends hs) P = Each (StoreMeans P) hs
    StreamMeans (Stream.goes_on hs i) P = Each (StoreMeans P) hs × ThunkMeans i P

    ThunkMeans : Thunk → (List Gd → Type 0) → Type 0
    ThunkMeans (Thunk.call r args st) P =
        (us : List Gd) → Holds us st → (rel : Relation) → slice_get program.relations r ≡ Some rel → (d : Derivation) → Derives program rel.body (map (value us) args) d → P us
    ThunkMeans (Thunk.pause g env st) P = GoalMeans P g env st
    ThunkMeans (Thunk.swap s i) P = StreamMeans s P × ThunkMeans i P
    ThunkMeans (Thunk.bind g env i) P = ThunkMeans i (Behind P g env)

  both_lists : (P : List Gd → Type 0) (hs ks : List Store) → Each (StoreMeans P) hs → Each (StoreMeans P) ks → Each (StoreMeans P) (hs ++ ks)
  both_lists P [] ks h k = k
  both_lists P (st ∷ hs) ks (first, h) k = (first, both_lists P hs ks h k)

  append_means : (P : List Gd → Type 0) (s t : Stream) → StreamMeans s P → StreamMeans t P → StreamMeans (append s t) P
  append_means P (Stream.ends hs) (Stream.ends ks) h k = both_lists P hs ks h k
  append_means P (Stream.ends hs) (Stream.goes_on ks i) h (k, behind) = (both_lists P hs ks h k, behind)
  append_means P (Stream.goes_on hs i) t (h, behind) k = (h, (k, behind))

  -- what a goal gives at stores
  abbrev RunMeans : Goal → List Tm → Type 1
  RunMeans g env = (P : List Gd → Type 0) (st : Store) → GoalMeans P g env st → StreamMeans (run g env st) P

  each_means : (P : List Gd → Type 0) (g : Goal) (env : List Tm) → RunMeans g env → (hs : List Store) (last : Stream) → Each (StoreMeans (Behind P g env)) hs → StreamMeans last P →
      StreamMeans (append_each (run g env) hs last) P
  each_means P g env ran [] last h k = k
  each_means P g env ran (st ∷ hs) last (first, h) k =
      append_means P (run g env st) (append_each (run g env) hs last) (ran P st first) (each_means P g env ran hs last h k)

  bind_means : (P : List Gd → Type 0) (g : Goal) (env : List Tm) → RunMeans g env → (s : Stream) → StreamMeans s (Behind P g env) →
      StreamMeans (bind_all (run g env) g env s) P
  bind_means P g env ran (Stream.ends hs) h = each_means P g env ran hs empty h tt
  bind_means P g env ran (Stream.goes_on hs i) (h, behind) = each_means P g env ran hs (Stream.goes_on [] (Thunk.bind g env i)) h (tt, behind)

  assert_means : (P : List Gd → Type 0) (st : Store) (p : Primitive Tm) → StoreMeans P (with_prim st p) → StreamMeans (assert st p) P
  assert_means P st p h = by (is_kept (with_prim st p))
    where
      by : (kept : Bool) → StreamMeans (elim kept [ true ↦ one (with_prim st p) | false ↦ empty ]) P
      by true = (h, tt)
      by false = tt

  run_means : (g : Goal) (env : List Tm) → RunMeans g env
  run_means (Goal.prim p) env P st h =
      assert_means P st (on_sides (instance env) p) (λ us all. let (before, last) = holds_with us st (on_sides (instance env) p) all in
      h us before Derivation.holds (Derives.primitive (sym (holds-instance us env p) ∙ last)))
  run_means Goal.succeed env P st h = (λ us all. h us all Derivation.holds Derives.succeed, tt)
  run_means Goal.fail env P st h = tt
  run_means (Goal.both g k) env P st h =
      bind_means P k env (run_means k env) (run g env st)
      (run_means g env (Behind P k env) st (λ us all d first e second. h us all (Derivation.both d e) (Derives.both first second)))
  run_means (Goal.either g k) env P st h =
      append_means P (run g env st) (run k env st) (run_means g env P st (λ us all d below. h us all (Derivation.left d) (Derives.left below)))
      (run_means k env P st (λ us all d below. h us all (Derivation.right d) (Derives.right below)))
  run_means (Goal.fresh k g) env P st h =
      run_means g (env ++ variables st.counter k) P (with_fresh st k) (λ us all d below.
      let chosen = map (value us) (variables st.counter k) in
      h us all (Derivation.choose chosen d)
      (subst (λ n. Derives program (Goal.fresh n g) (map (value us) env) (Derivation.choose chosen d)) (variables_long us st.counter k)
      (Derives.choose (subst (λ l. Derives program g l d) (map-append (value us) env (variables st.counter k)) below))))
  run_means (Goal.later g) env P st h = (tt, λ us all d below. h us all (Derivation.enter d) (Derives.later below))
  run_means (Goal.call r args) env P st h = (
    tt,
    λ us all rel there d below.
        let (before, same) = names_mean us st (instances env args) all in
        h us before (Derivation.enter d) (Derives.enter there (subst (λ l. Derives program rel.body l d) (same ∙ values-instances us env args) below)),
  )

  force_means : (P : List Gd → Type 0) (i : Thunk) → ThunkMeans i P → StreamMeans (force program i) P
  force_means P (Thunk.call r args st) h = by (slice_get program.relations r) refl
    where
      by : (found : Option Relation) → slice_get program.relations r ≡ found → StreamMeans (enter found args st) P
      by None e = tt
      by (Some rel) e = run_means rel.body args P st (λ us all d below. h us all rel e d below)
  force_means P (Thunk.pause g env st) h = run_means g env P st h
  force_means P (Thunk.swap s i) (h, behind) = append_means P s (force program i) h (force_means P i behind)
  force_means P (Thunk.bind g env i) h = bind_means P g env (run_means g env) (force program i) (force_means (Behind P g env) i h)

pub taken_are_solutions : TakenAreSolutions
taken_are_solutions program q fuel st us there (long, all) =
    one_of_each (StoreMeans Solves) (take_query program fuel q).stores st
    (take_each program (StoreMeans Solves) (λ s. StreamMeans program s Solves) (λ hs h. h) (λ hs i (h, behind). (h, force_means program Solves i behind)) fuel (start q.goal) q.limit
    (run_means program q.goal (Tree.leaf 0 ∷ []) Solves (bare 1) (λ vs h d below. (d, test_from-Derives program q.goal (value_at vs 0 ∷ []) d below)))) there us all
  where
    Solves : List Gd → Type 0
    Solves vs = IsRunSolution program q.goal (value_at vs 0)
