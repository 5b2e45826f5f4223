-- The stream that a run begins with.
use Rattle.std.proofs.Common.{◌≡◌, ℕ, zero, suc, ◌+◌, ◌*◌, ◌^◌, ◌≤◌, ◌<◌, true, List, [], ◌∷◌, map, reverse, ltb-true, sym, ◌∙◌, ap, ap₂, subst, arith}
use Rattle.std.specs.Prelude.{Option, Some, None, IfSome, option_map}
use Rattle.std.specs.List.{list_all}
use Rattle.std.proofs.lemmas.Bool.{and_parts}
use Rattle.std.proofs.lemmas.List.{reverse-reverse}
use Rattle.kan_terms.specs.Tree.{Tree, Tm}
use Rattle.kan_model.specs.Programs.Goals.{Goal, Program}
use Rattle.kan_model.specs.Stores.Store as facts
use Rattle.kan_model.specs.Streams.Stream as model
use Rattle.kan_model.specs.Streams.Running.{run, start}
use Rattle.kan_model.specs.Programs.Scope.{width, is_narrow}
use Rattle.kan_model.specs.Programs.Tables.{goal_at}
use Rattle.stream_core.specs.Suspensions.{going_on, stream_of_parts}
use Rattle.stream_core.specs.CounterBounds.{RestFits}
use Rattle.kan_search.specs.Suspensions.{LeavesRoom, pulled_stream}

-- a stream whose stores are turned stands for what it stood for
pub turned-is : {I St : Type 0} (tree : I → model.Thunk) (means : St → facts.Store) (turned heads : List St) (tail next : Option I) → turned ≡ reverse heads → next ≡ tail →
    pulled_stream tree means turned next ≡ stream_of_parts tree means heads tail
turned-is tree means turned heads tail next is same = ap₂ (λ hs o. going_on (map means hs) (option_map tree o)) (ap reverse is ∙ reverse-reverse heads) same

-- a goal at the store that a run begins with
pub started : (g h : Goal) (env : List Tm) (none store : facts.Store) → g ≡ h → env ≡ Tree.leaf 0 ∷ [] → none ≡ facts.bare 0 → store ≡ facts.with_fresh none 1 → run g env store ≡ start h
started g h env none store same slots empty one = ap₂ (λ f e. run f e store) same slots ∙ ap (run h (Tree.leaf 0 ∷ [])) (one ∙ ap (λ st. facts.with_fresh st 1) empty)

narrow-at : (gs : List Goal) (i : ℕ) → list_all is_narrow gs ≡ true → width (goal_at gs i) < 2 ^ 21
narrow-at [] i h = omega arith
narrow-at (g ∷ gs) zero h = ltb-true (width g) (2 ^ 21) (and_parts (is_narrow g) (list_all is_narrow gs) h).0
narrow-at (g ∷ gs) (suc i) h = narrow-at gs i (and_parts (is_narrow g) (list_all is_narrow gs) h).1

rest-room : {I : Type 0} (program : Program) (low high : ℕ) (hs : List facts.Store) (tree : I → model.Thunk) (tail : Option I) → high ≤ 2 * 2 ^ 21 → RestFits program low high (going_on hs (option_map tree tail)) →
    IfSome tail (λ next. LeavesRoom 0 (tree next))
rest-room program low high hs tree None most fits = tt
rest-room program low high hs tree (Some id) most (there, below, above) = omega (arith, most, above)

-- what a run begins with leaves room
pub start-room : {I : Type 0} (program : Program) (gs : List Goal) (i : ℕ) (none store : facts.Store) (hs : List facts.Store) (tree : I → model.Thunk) (tail next : Option I) → list_all is_narrow gs ≡ true →
    none ≡ facts.bare 0 → store ≡ facts.with_fresh none 1 → RestFits program store.counter (store.counter + width (goal_at gs i) + 2 ^ 21) (going_on hs (option_map tree tail)) → next ≡ tail →
    IfSome next (λ id. LeavesRoom 0 (tree id))
start-room program gs i none store hs tree tail next small empty one fits same =
    let counter : store.counter ≡ 1 = ap (λ st. st.counter) (one ∙ ap (λ st. facts.with_fresh st 1) empty) in
    let narrow = narrow-at gs i small in
    subst (λ o. IfSome o (λ id. LeavesRoom 0 (tree id))) (sym same) (rest-room program store.counter (store.counter + width (goal_at gs i) + 2 ^ 21) hs tree tail (omega (arith, counter, narrow)) fits)
