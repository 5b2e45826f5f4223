-- A list of suspensions that grows: what stood there stays.
use Rattle.std.proofs.Common.{◌≡◌, ℕ, zero, suc, ◌+◌, ◌<◌, Bool, true, false, List, [], ◌∷◌, ◌++◌, length, refl, sym, ◌∙◌, ap, ap₂, arith, add-zero, zero-add, get_or, ltb-true, lt-ltb, map, if◌then◌else◌}
use Rattle.std.specs.Prelude.{Option, Some, None, option_map, slice_get, unwrap_or}
use Rattle.std.proofs.lemmas.Bool.{and_from, and_parts}
use Rattle.std.proofs.lemmas.List.{length-append}
use Rattle.kan_model.specs.Programs.Goals.{Goal, Program}
use Rattle.kan_model.specs.Stores.Store as facts
use Rattle.kan_model.specs.Streams.Stream as model
use Rattle.kan_model.specs.Programs.Environments.{terms_of}
use Rattle.stream_core.specs.Suspensions as standing
use Rattle.stream_core.specs.TableKinds.PlainTrees.{no_thunk, tree_at, trees_after, is_below, tail_below, names_below, all_grown, is_placed, grown_tree}
use Rattle.stream_core.specs.declared.streams.Thunk.{Thunk}
use Rattle.stream_core.specs.declared.streams.Thunk.TheVariants.{Call, Pause, Swap, Bind}
use Rattle.stream_core.specs.declared.plain_nodes.PlainId.{PlainId}

get-front : {X : Type 0} (xs : List X) (x d : X) (i : ℕ) → i < length xs → unwrap_or (slice_get (xs ++ x ∷ []) i) d ≡ unwrap_or (slice_get xs i) d
get-front [] x d i within = let none : ⊥ = omega (arith, within) in absurd none
get-front (y ∷ xs) x d zero within = refl
get-front (y ∷ xs) x d (suc i) within = get-front xs x d i (omega (arith, within))

get-end : {X : Type 0} (xs : List X) (x d : X) → unwrap_or (slice_get (xs ++ x ∷ []) (length xs)) d ≡ x
get-end [] x d = refl
get-end (y ∷ xs) x d = get-end xs x d

module _ {St : Type 0} (means : St → facts.Store) (goal : ℕ → Goal) where
  -- the trees of a list with one suspension more
  pub trees-more : (ts : List model.Thunk) (ns : List (Thunk PlainId St)) (n : Thunk PlainId St) →
      trees_after means goal ts (ns ++ n ∷ []) ≡ trees_after means goal ts ns ++ standing.thunk (tree_at (trees_after means goal ts ns)) means goal n ∷ []
  trees-more ts [] n = refl
  trees-more ts (m ∷ ns) n = trees-more (ts ++ standing.thunk (tree_at ts) means goal m ∷ []) ns n

  pub trees-length : (ts : List model.Thunk) (ns : List (Thunk PlainId St)) → length (trees_after means goal ts ns) ≡ length ts + length ns
  trees-length ts [] = omega arith
  trees-length ts (n ∷ ns) =
      let rest = trees-length (ts ++ standing.thunk (tree_at ts) means goal n ∷ []) ns in
      let one = length-append ts (standing.thunk (tree_at ts) means goal n ∷ []) in rest ∙ omega (arith, one)

  pub tree-stays : (ts : List model.Thunk) (ns : List (Thunk PlainId St)) (id : PlainId) → id.at < length ts → tree_at (trees_after means goal ts ns) id ≡ tree_at ts id
  tree-stays ts [] id within = refl
  tree-stays ts (n ∷ ns) id within =
      let one = length-append ts (standing.thunk (tree_at ts) means goal n ∷ []) in
      tree-stays (ts ++ standing.thunk (tree_at ts) means goal n ∷ []) ns id (omega (arith, within, one)) ∙ get-front ts (standing.thunk (tree_at ts) means goal n) no_thunk id.at within

  tail-same : (ts us : List model.Thunk) (n : ℕ) → ((id : PlainId) → id.at < n → tree_at us id ≡ tree_at ts id) → (o : Option PlainId) → tail_below n o ≡ true → option_map (tree_at us) o ≡ option_map (tree_at ts) o
  tail-same ts us n same None h = refl
  tail-same ts us n same (Some id) h = ap Some (same id (ltb-true id.at n h))

  pub thunk-same : (ts us : List model.Thunk) (n : ℕ) → ((id : PlainId) → id.at < n → tree_at us id ≡ tree_at ts id) → (t : Thunk PlainId St) → names_below n t ≡ true →
      standing.thunk (tree_at us) means goal t ≡ standing.thunk (tree_at ts) means goal t
  thunk-same ts us n same (Call rel args store) h = refl
  thunk-same ts us n same (Pause g env store) h = refl
  thunk-same ts us n same (Swap heads tail inner) h =
      let (one, two) = and_parts (tail_below n tail) (is_below n inner) h in
      ap₂ (λ o t. model.Thunk.swap (standing.going_on (map means heads) o) t) (tail-same ts us n same tail one) (same inner (ltb-true inner.at n two))
  thunk-same ts us n same (Bind g env inner) h = ap (model.Thunk.bind (goal g) (terms_of env)) (same inner (ltb-true inner.at n h))

  -- a suspension of the list stands for its tree
  tree-after : (ts : List model.Thunk) (ns : List (Thunk PlainId St)) (i : ℕ) (id : PlainId) (n : Thunk PlainId St) → all_grown (length ts) ns ≡ true → i < length ns → n ≡ get_or ns i n → id.at ≡ length ts + i →
      standing.thunk (tree_at (trees_after means goal ts ns)) means goal n ≡ tree_at (trees_after means goal ts ns) id
  tree-after ts [] i id n grown within is place = let none : ⊥ = omega (arith, within) in absurd none
  tree-after ts (m ∷ ns) zero id n grown within is place =
      let (first, rest) = and_parts (names_below (length ts) m) (all_grown (suc (length ts)) ns) grown in
      let us = trees_after means goal ts (m ∷ ns) in
      let one = length-append ts (standing.thunk (tree_at ts) means goal m ∷ []) in
      ap (standing.thunk (tree_at us) means goal) is
      ∙ thunk-same ts us (length ts) (λ j low. tree-stays ts (m ∷ ns) j low) m first
      ∙ sym (get-end ts (standing.thunk (tree_at ts) means goal m) no_thunk)
      ∙ ap (λ k. unwrap_or (slice_get (ts ++ standing.thunk (tree_at ts) means goal m ∷ []) k) no_thunk) (sym (place ∙ add-zero (length ts)))
      ∙ sym (tree-stays (ts ++ standing.thunk (tree_at ts) means goal m ∷ []) ns id (omega (arith, place, one)))
  tree-after ts (m ∷ ns) (suc i) id n grown within is place =
      let (first, rest) = and_parts (names_below (length ts) m) (all_grown (suc (length ts)) ns) grown in
      let one = length-append ts (standing.thunk (tree_at ts) means goal m ∷ []) in
      let long : suc (length ts) ≡ length (ts ++ standing.thunk (tree_at ts) means goal m ∷ []) = omega (arith, one) in
      tree-after (ts ++ standing.thunk (tree_at ts) means goal m ∷ []) ns i id n (ap (λ k. all_grown k ns) (sym long) ∙ rest) (omega (arith, within)) is (omega (arith, place, one))

  pub stands-for : (ns : List (Thunk PlainId St)) (id : PlainId) (n : Thunk PlainId St) → all_grown 0 ns ≡ true → id.at < length ns → n ≡ get_or ns id.at n →
      standing.thunk (tree_at (trees_after means goal [] ns)) means goal n ≡ tree_at (trees_after means goal [] ns) id
  stands-for ns id n grown within is = tree-after [] ns id.at id n grown within is (sym (zero-add id.at))

-- ids that are placed are below the length
belong-below : {St : Type 0} (ns : List (Thunk PlainId St)) (t : Thunk PlainId St) → standing.ThunkBelongs (is_placed ns) t → names_below (length ns) t ≡ true
belong-below ns (Call rel args store) h = refl
belong-below ns (Pause g env store) h = refl
belong-below ns (Swap heads None inner) (h, k) = lt-ltb inner.at (length ns) k
belong-below ns (Swap heads (Some id) inner) (h, k) = and_from _ _ (lt-ltb id.at (length ns) h) (lt-ltb inner.at (length ns) k)
belong-below ns (Bind g env inner) h = lt-ltb inner.at (length ns) h

all_grown-last : {St : Type 0} (k : ℕ) (ns : List (Thunk PlainId St)) (n : Thunk PlainId St) → all_grown k ns ≡ true → names_below (k + length ns) n ≡ true → all_grown k (ns ++ n ∷ []) ≡ true
all_grown-last k [] n h last = and_from _ _ (ap (λ j. names_below j n) (sym (add-zero k)) ∙ last) refl
all_grown-last k (m ∷ ns) n h last =
    let (one, rest) = and_parts (names_below k m) (all_grown (suc k) ns) h in
    let moved : suc k + length ns ≡ k + length (m ∷ ns) = omega arith in
    and_from _ _ one (all_grown-last (suc k) ns n rest (ap (λ j. names_below j n) moved ∙ last))

pub grown-more : {St : Type 0} (ns new : List (Thunk PlainId St)) (n : Thunk PlainId St) (ok : Bool) → new ≡ (if ok then ns ++ n ∷ [] else ns) → all_grown 0 ns ≡ true → standing.ThunkBelongs (is_placed ns) n → all_grown 0 new ≡ true
grown-more ns new n true is grown there = rw is (all_grown-last 0 ns n grown (ap (λ j. names_below j n) (zero-add (length ns)) ∙ belong-below ns n there))
grown-more ns new n false is grown there = rw is grown

module _ {St : Type 0} (means : St → facts.Store) (program : Program) where
  -- the suspension that was added
  pub added : (ns new : List (Thunk PlainId St)) (n : Thunk PlainId St) (id : PlainId) → new ≡ ns ++ n ∷ [] → id.at ≡ length ns →
      is_placed new id × (grown_tree means program new id ≡ standing.thunk (grown_tree means program ns) means (standing.goal_in program) n)
  added ns new n id is place =
      let goal = standing.goal_in program in
      let one = length-append ns (n ∷ []) in
      let long : id.at ≡ length (trees_after means goal [] ns) = place ∙ sym (trees-length means goal [] ns ∙ zero-add (length ns)) in (
        rw is (omega (arith, place, one)),
        rw (is, long) (ap (λ ts. unwrap_or (slice_get ts (length (trees_after means goal [] ns))) no_thunk) (trees-more means goal [] ns n)
            ∙ get-end (trees_after means goal [] ns) (standing.thunk (tree_at (trees_after means goal [] ns)) means goal n) no_thunk),
      )

  pub grows-by : (ns new : List (Thunk PlainId St)) (n : Thunk PlainId St) (ok : Bool) → new ≡ (if ok then ns ++ n ∷ [] else ns) →
      standing.Stays (is_placed ns) (grown_tree means program ns) (is_placed new) (grown_tree means program new)
  grows-by ns new n false is id within = rw is (within, refl)
  grows-by ns new n true is id within =
      let goal = standing.goal_in program in
      let one = length-append ns (n ∷ []) in
      let long : length (trees_after means goal [] ns) ≡ length ns = trees-length means goal [] ns ∙ zero-add (length ns) in
      rw is (
        omega (arith, within, one),
        ap (λ ts. tree_at ts id) (trees-more means goal [] ns n)
            ∙ get-front (trees_after means goal [] ns) (standing.thunk (tree_at (trees_after means goal [] ns)) means goal n) no_thunk id.at (omega (arith, within, long)),
      )
