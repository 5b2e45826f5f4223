-- The stores of the streams of goals, and variables that lie below a counter.
use Rattle.std.proofs.Common.{◌≡◌, ℕ, zero, suc, ◌+◌, ◌≤◌, Bool, true, false, List, [], ◌∷◌, ◌++◌, refl, sym, ◌∙◌, ap, arith}
use Rattle.std.specs.List.{list_all}
use Rattle.std.proofs.lemmas.Bool.{and_from, and_parts, ltb-true, lt-ltb}
use Rattle.kan_terms.specs.Tree.{Tree, Tm}
use Rattle.kan_model.specs.Programs.Goals.{Goal, Primitive, on_sides}
use Rattle.kan_model.specs.Stores.Store.{Store, with_prim, with_fresh}
use Rattle.kan_model.specs.Stores.Kept.{is_kept}
use Rattle.kan_model.specs.Streams.Stream.{Stream, Thunk, heads, append, append_each, bind_all, empty, one}
use Rattle.kan_model.specs.Streams.Running.{run, variables, instance}
use Rattle.kan_model.specs.Programs.Scope.{width, all_below}
use Rattle.kan_model.proofs.ListLaws.{Each-like, Each-append}
use Rattle.stream_core.specs.CounterBounds.{Between}
use Rattle.kan_model.specs.Each.{Each}

-- the stores of streams that are appended, and of a goal at each store
pub heads-append : (P : Store → Type 0) (s t : Stream) → Each P (heads s) → Each P (heads t) → Each P (heads (append s t))
heads-append P (Stream.ends hs) (Stream.ends ks) h k = Each-append P hs ks h k
heads-append P (Stream.ends hs) (Stream.goes_on ks i) h k = Each-append P hs ks h k
heads-append P (Stream.goes_on hs i) t h k = h

heads-each : (P : Store → Type 0) (f : Store → Stream) (hs : List Store) (last : Stream) → Each (λ st. Each P (heads (f st))) hs → Each P (heads last) → Each P (heads (append_each f hs last))
heads-each P f [] last h k = k
heads-each P f (st ∷ hs) last (h, rest) k = heads-append P (f st) (append_each f hs last) h (heads-each P f hs last rest k)

pub heads-bind : (P : Store → Type 0) (f : Store → Stream) (g : Goal) (env : List Tm) (s : Stream) → Each (λ st. Each P (heads (f st))) (heads s) → Each P (heads (bind_all f g env s))
heads-bind P f g env (Stream.ends hs) h = heads-each P f hs empty h tt
heads-bind P f g env (Stream.goes_on hs i) h = heads-each P f hs (Stream.goes_on [] (Thunk.bind g env i)) h tt

assert-between : (st : Store) (b : Bool) (p : Primitive Tm) (high : ℕ) → st.counter ≤ high → Each (Between st.counter high) (heads (elim b [ true ↦ one (with_prim st p) | false ↦ empty ]))
assert-between st true p high h = ((omega arith, h), tt)
assert-between st false p high h = tt

-- a goal raises no counter by more than its width, and lowers none
pub run-between : (g : Goal) (env : List Tm) (st : Store) → Each (Between st.counter (st.counter + width g)) (heads (run g env st))
run-between (Goal.prim p) env st = assert-between st (is_kept (with_prim st (on_sides (instance env) p))) (on_sides (instance env) p) (st.counter + 0) (omega arith)
run-between Goal.succeed env st = ((omega arith, omega arith), tt)
run-between Goal.fail env st = tt
run-between (Goal.both g h) env st =
    heads-bind (Between st.counter (st.counter + (width g + width h))) (run h env) h env (run g env st)
    (Each-like (Between st.counter (st.counter + width g)) (λ a. Each (Between st.counter (st.counter + (width g + width h))) (heads (run h env a)))
    (λ a (low, high). Each-like (Between a.counter (a.counter + width h)) (Between st.counter (st.counter + (width g + width h))) (λ b (l, m). (omega (arith, low, l), omega (arith, high, m))) (heads (run h env a)) (run-between h env a))
    (heads (run g env st)) (run-between g env st))
run-between (Goal.either g h) env st =
    heads-append (Between st.counter (st.counter + (width g + width h))) (run g env st) (run h env st)
    (Each-like (Between st.counter (st.counter + width g)) (Between st.counter (st.counter + (width g + width h))) (λ b (l, m). (l, omega (arith, m))) (heads (run g env st)) (run-between g env st))
    (Each-like (Between st.counter (st.counter + width h)) (Between st.counter (st.counter + (width g + width h))) (λ b (l, m). (l, omega (arith, m))) (heads (run h env st)) (run-between h env st))
run-between (Goal.fresh k g) env st =
    Each-like (Between (st.counter + k) (st.counter + k + width g)) (Between st.counter (st.counter + (k + width g))) (λ b (l, m). (omega (arith, l), omega (arith, m)))
    (heads (run g (env ++ variables st.counter k) (with_fresh st k))) (run-between g (env ++ variables st.counter k) (with_fresh st k))
run-between (Goal.later g) env st = tt
run-between (Goal.call r args) env st = tt

-- variables that are there are there below a higher counter too
pub below-more : (n m : ℕ) → n ≤ m → (t : Tm) → all_below n t ≡ true → all_below m t ≡ true
below-more n m more (Tree.leaf v) h = let low = ltb-true v n h in lt-ltb v m (omega (arith, low, more))
below-more n m more (Tree.sym s) h = refl
below-more n m more (Tree.str s) h = refl
below-more n m more (Tree.num x) h = refl
below-more n m more (Tree.truth b) h = refl
below-more n m more Tree.nil h = refl
below-more n m more (Tree.pair a b) h =
    let (one, two) = and_parts (all_below n a) (all_below n b) h in and_from _ _ (below-more n m more a one) (below-more n m more b two)

pub env-more : (n m : ℕ) → n ≤ m → (env : List Tm) → list_all (all_below n) env ≡ true → list_all (all_below m) env ≡ true
env-more n m more [] h = refl
env-more n m more (t ∷ ts) h =
    let (one, two) = and_parts (all_below n t) (list_all (all_below n) ts) h in and_from _ _ (below-more n m more t one) (env-more n m more ts two)

pub variables-below : (first k : ℕ) → list_all (all_below (first + k)) (variables first k) ≡ true
variables-below first zero = refl
variables-below first (suc k) =
    let moved : suc first + k ≡ first + suc k = omega arith in
    and_from _ _ (lt-ltb first (first + suc k) (omega arith)) (ap (λ n. list_all (all_below n) (variables (suc first) k)) (sym moved) ∙ variables-below (suc first) k)
