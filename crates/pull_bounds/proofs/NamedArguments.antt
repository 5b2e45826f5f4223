-- A store in which a call's pairs are named has the solutions that it had, each with the values of the pairs behind it.
use Rattle.std.proofs.Common.{◌≡◌, ℕ, ◌+◌, ◌≤◌, true, ◌&&◌, List, [], ◌∷◌, ◌++◌, length, map, refl, sym, ap, ap₂, subst, ◌∙◌, arith}
use Rattle.std.specs.List.{list_all}
use Rattle.std.proofs.lemmas.Bool.{and_parts, and_from, lt-ltb}
use Rattle.std.proofs.lemmas.List.{length-append}
use Rattle.std.proofs.lemmas.List.Folds.{list_all-append}
use Rattle.kan_terms.specs.Tree.{Tree, Tm, Gd}
use Rattle.kan_terms.specs.Valuations.{value_at, value}
use Rattle.kan_terms.proofs.TreeLaws.{Decides-ground_eq}
use Rattle.kan_model.specs.Programs.Goals.{Primitive}
use Rattle.kan_model.specs.Stores.Store.{Store, with_prim, with_fresh}
use Rattle.kan_model.specs.Programs.Scope.{all_below, sides_below, is_counted}
use Rattle.kan_model.specs.Streams.Running.{Arguments, and_value, named_store, name_pairs}
use Rattle.kan_model.specs.Meaning.Holds.{holds_at, IsSolution, BeginsWith}
use Rattle.pull_bounds.specs.Finding.{StandsAbove}
use Rattle.pull_bounds.proofs.LongerValuations.{BeginsWith-self, BeginsWith-trans, BeginsWith-length, value-longer, values-longer, all-hold_longer, below-more, all-below_more, all-sides_more, value_at-next}

-- a solution with values behind it is one of the store with as many variables more
pub solution-fresh : (st : Store) (us vs : List Gd) → is_counted st ≡ true → IsSolution st us → IsSolution (with_fresh st (length vs)) (us ++ vs)
solution-fresh st us vs counted (long, h) = (
  length-append us vs ∙ ap (λ n. n + length vs) long,
  all-hold_longer us (us ++ vs) (vs, refl) st.prims (subst (λ n. list_all (sides_below n) st.prims ≡ true) (sym long) counted) h,
)

pub counted-fresh : (st : Store) (k : ℕ) → is_counted st ≡ true → is_counted (with_fresh st k) ≡ true
counted-fresh st k h = all-sides_more st.counter (st.counter + k) (omega arith) st.prims h

-- a primitive that holds keeps a solution, and its variables are counted where they are there
pub solution-with : (st : Store) (us : List Gd) (p : Primitive Tm) → IsSolution st us → holds_at us p ≡ true → IsSolution (with_prim st p) us
solution-with st us p (long, h) holds = (
  long,
  list_all-append (holds_at us) st.prims (p ∷ []) ∙ and_from (list_all (holds_at us) st.prims) (holds_at us p && true) h (and_from (holds_at us p) true holds refl),
)

pub counted-with : (st : Store) (p : Primitive Tm) → is_counted st ≡ true → sides_below st.counter p ≡ true → is_counted (with_prim st p) ≡ true
counted-with st p h below =
    list_all-append (sides_below st.counter) st.prims (p ∷ [])
    ∙ and_from (list_all (sides_below st.counter) st.prims) (sides_below st.counter p && true) h (and_from (sides_below st.counter p) true below refl)

-- arguments, at their values under a solution that begins with this one
pub record AreNamed (us values : List Gd) (args : Arguments) : Type 0 where
  pub counted : is_counted args.store ≡ true
  pub below : list_all (all_below args.store.counter) args.values ≡ true
  pub longer : List Gd
  pub solves : IsSolution args.store longer
  pub begins : BeginsWith longer us
  pub same : map (value longer) args.values ≡ values

-- an argument that needs no name
kept_as_it_is : (st : Store) (us values : List Gd) (t : Tm) (rest : Arguments) → IsSolution st us → all_below st.counter t ≡ true →
    AreNamed us values rest → AreNamed us (value us t ∷ values) (and_value t rest)
kept_as_it_is st us values t rest (long, h) below named = record {
  counted = named.counted;
  below = and_from (all_below rest.store.counter t) (list_all (all_below rest.store.counter) rest.values)
      (below-more st.counter rest.store.counter (omega (arith, long, named.solves.0, BeginsWith-length us named.longer named.begins)) t below) named.below;
  longer = named.longer;
  solves = named.solves;
  begins = named.begins;
  same = ap₂ (λ u l. u ∷ l) (value-longer us named.longer named.begins t (subst (λ n. all_below n t ≡ true) (sym long) below)) named.same;
}

module _ (st : Store) (us : List Gd) (a b : Tm) (counted : is_counted st ≡ true) (solves : IsSolution st us) (below : all_below st.counter (Tree.pair a b) ≡ true) where
  -- the valuation in which the next variable has the value of a pair
  abbrev with_value : List Gd
  with_value = us ++ value us (Tree.pair a b) ∷ []

  above_one : st.counter ≤ st.counter + 1
  above_one = omega arith

  next_is : value with_value (Tree.leaf st.counter) ≡ value us (Tree.pair a b)
  next_is = ap (value_at with_value) (sym solves.0) ∙ value_at-next us (value us (Tree.pair a b)) []

  pair_is : value with_value (Tree.pair a b) ≡ value us (Tree.pair a b)
  pair_is = value-longer us with_value (value us (Tree.pair a b) ∷ [], refl) (Tree.pair a b) (subst (λ n. all_below n (Tree.pair a b) ≡ true) (sym solves.0) below)

  named_solves : IsSolution (named_store st (Tree.pair a b)) with_value
  named_solves =
      solution-with (with_fresh st 1) with_value (Primitive.same (Tree.leaf st.counter) (Tree.pair a b)) (solution-fresh st us (value us (Tree.pair a b) ∷ []) counted solves)
      ((Decides-ground_eq (value with_value (Tree.leaf st.counter)) (value with_value (Tree.pair a b))).1 (next_is ∙ sym pair_is))

  next_below : all_below (st.counter + 1) (Tree.leaf st.counter) ≡ true
  next_below = lt-ltb st.counter (st.counter + 1) (omega arith)

  named_counted : is_counted (named_store st (Tree.pair a b)) ≡ true
  named_counted =
      counted-with (with_fresh st 1) (Primitive.same (Tree.leaf st.counter) (Tree.pair a b)) (counted-fresh st 1 counted)
      (and_from (all_below (st.counter + 1) (Tree.leaf st.counter)) (all_below (st.counter + 1) (Tree.pair a b)) next_below
      (below-more st.counter (st.counter + 1) above_one (Tree.pair a b) below))

  -- the pair has the name, and the other arguments follow
  pair_named : (values : List Gd) (rest : Arguments) → AreNamed with_value values rest → AreNamed us (value us (Tree.pair a b) ∷ values) (and_value (Tree.leaf st.counter) rest)
  pair_named values rest named =
      let whole = kept_as_it_is (named_store st (Tree.pair a b)) with_value values (Tree.leaf st.counter) rest named_solves next_below named in
      record {
        counted = whole.counted;
        below = whole.below;
        longer = whole.longer;
        solves = whole.solves;
        begins = BeginsWith-trans us with_value whole.longer whole.begins (value us (Tree.pair a b) ∷ [], refl);
        same = whole.same ∙ ap (λ u. u ∷ values) next_is;
      }

-- each argument has the value that it had
pub are_named : (st : Store) (us : List Gd) (ts : List Tm) → StandsAbove st ts → IsSolution st us → AreNamed us (map (value us) ts) (name_pairs st ts)
are_named st us [] (counted, below) solves =
    record { counted = counted; below = refl; longer = us; solves = solves; begins = BeginsWith-self us; same = refl }
are_named st us (t ∷ ts) (counted, below) solves = by t first (are_named st us ts (counted, rest) solves) (λ st' vs. are_named st' vs ts)
  where
    first : all_below st.counter t ≡ true
    first = (and_parts (all_below st.counter t) (list_all (all_below st.counter) ts) below).0

    rest : list_all (all_below st.counter) ts ≡ true
    rest = (and_parts (all_below st.counter t) (list_all (all_below st.counter) ts) below).1

    by : (t : Tm) → all_below st.counter t ≡ true → AreNamed us (map (value us) ts) (name_pairs st ts) →
        ((st' : Store) (vs : List Gd) → StandsAbove st' ts → IsSolution st' vs → AreNamed vs (map (value vs) ts) (name_pairs st' ts)) →
        AreNamed us (map (value us) (t ∷ ts)) (name_pairs st (t ∷ ts))
    by (Tree.leaf v) h others again = kept_as_it_is st us (map (value us) ts) (Tree.leaf v) (name_pairs st ts) solves h others
    by (Tree.sym s) h others again = kept_as_it_is st us (map (value us) ts) (Tree.sym s) (name_pairs st ts) solves h others
    by (Tree.str s) h others again = kept_as_it_is st us (map (value us) ts) (Tree.str s) (name_pairs st ts) solves h others
    by (Tree.num n) h others again = kept_as_it_is st us (map (value us) ts) (Tree.num n) (name_pairs st ts) solves h others
    by (Tree.truth b) h others again = kept_as_it_is st us (map (value us) ts) (Tree.truth b) (name_pairs st ts) solves h others
    by Tree.nil h others again = kept_as_it_is st us (map (value us) ts) Tree.nil (name_pairs st ts) solves h others
    by (Tree.pair a b) h others again =
        pair_named st us a b counted solves h (map (value us) ts) (name_pairs (named_store st (Tree.pair a b)) ts)
        (subst (λ l. AreNamed vs l (name_pairs (named_store st (Tree.pair a b)) ts))
        (values-longer us vs (value us (Tree.pair a b) ∷ [], refl) ts (subst (λ n. list_all (all_below n) ts ≡ true) (sym solves.0) rest))
        (again (named_store st (Tree.pair a b)) vs
        (named_counted st us a b counted solves h, all-below_more st.counter (st.counter + 1) (above_one st us a b counted solves h) ts rest)
        (named_solves st us a b counted solves h)))
      where
        vs : List Gd
        vs = us ++ value us (Tree.pair a b) ∷ []
