-- What closed programs' goals and suspensions give fits the program, and its counters keep to bounds.
use Rattle.std.proofs.Common.{◌≡◌, ℕ, zero, suc, ◌+◌, ◌≤◌, ◌^◌, Bool, true, false, List, [], ◌∷◌, ◌++◌, length, refl, sym, ◌∙◌, ap, subst, arith, min, max, lt-ltb}
use Rattle.std.specs.Prelude.{Option, Some, None, slice_get, Contains}
use Rattle.std.specs.List.{list_all}
use Rattle.std.proofs.lemmas.Bool.{and_from, and_parts, eqb-true}
use Rattle.std.proofs.lemmas.List.{length-append}
use Rattle.std.proofs.lemmas.List.Folds.{list_all-append}
use Rattle.kan_terms.specs.Tree.{Tree, Tm}
use Rattle.kan_model.specs.Programs.Goals.{Goal, Primitive, Relation, Program, Template, on_sides}
use Rattle.kan_model.specs.Stores.Store.{Store, with_prim, with_fresh}
use Rattle.kan_model.specs.Stores.Kept.{is_kept}
use Rattle.kan_model.specs.Terms.Flat.{is_flat}
use Rattle.kan_model.specs.Streams.Stream.{Stream, Thunk, heads, append, append_each, bind_all, empty, one}
use Rattle.kan_model.specs.Streams.Running.{Arguments, run, force, enter, variables, instance, instances, name_pairs, named_store}
use Rattle.kan_model.specs.Programs.Scope.{width, all_below, in_scope, takes}
use Rattle.kan_model.specs.Streams.Bounds.{Fits, StreamFits, top, floor, stream_top, stream_floor, highest, lowest}
use Rattle.stream_core.specs.CounterBounds.{Between, RestFits, TailFits}
use Rattle.kan_model.specs.Each.{Each}
use Rattle.stream_core.specs.CallArguments.{NamesFirst}
use Rattle.stream_core.proofs.HeadLaws.{below-more, env-more, variables-below}
use Rattle.kan_model.proofs.ListLaws.{Each-like, Each-append}
use Rattle.stream_core.proofs.ArgumentLaws.{instance-below, names-itself, names-all}
use Rattle.stream_core.proofs.CounterLaws.{stream-floor-below, stream-top-above, stream-between, lowest-below, highest-above}
use Rattle.stream_core.proofs.ClosedLaws.{ProgramIsClosed}

rest-wider : (program : Program) (l h low high : ℕ) (s : Stream) → low ≤ l → h ≤ high → RestFits program l h s → RestFits program low high s
rest-wider program l h low high (Stream.ends hs) down up rest = tt
rest-wider program l h low high (Stream.goes_on hs i) down up (fits, below, above) = (fits, omega (arith, down, below), omega (arith, up, above))

-- bounds may be wider
pub fits-wider : (program : Program) (l h low high : ℕ) (s : Stream) → low ≤ l → h ≤ high → TailFits program l h s → TailFits program low high s
fits-wider program l h low high s down up fits = record {
  heads = Each-like (Between l h) (Between low high) (λ a (least, most). (omega (arith, down, least), omega (arith, up, most))) (heads s) fits.heads;
  tail = rest-wider program l (h + 2 ^ 21) low (high + 2 ^ 21) s down (omega (arith, up)) fits.tail;
}

lowest-above : (low high n : ℕ) (hs : List Store) → Each (Between low high) hs → low ≤ n → low ≤ lowest hs n
lowest-above low high n [] h least = least
lowest-above low high n (st ∷ hs) ((here, top), rest) least = let more = lowest-above low high n hs rest least in omega (arith, here, more)

highest-below : (low high n : ℕ) (hs : List Store) → Each (Between low high) hs → n ≤ high + 2 ^ 21 → highest hs n ≤ high + 2 ^ 21
highest-below low high n [] h most = most
highest-below low high n (st ∷ hs) ((down, here), rest) most = let more = highest-below low high n hs rest most in omega (arith, here, more)

swap-fits : (program : Program) (low high : ℕ) (hs : List Store) (i : Thunk) (t : Stream) → TailFits program low high (Stream.goes_on hs i) → TailFits program low high t →
    RestFits program low (high + 2 ^ 21) (Stream.goes_on hs (Thunk.swap t i))
swap-fits program low high hs i (Stream.ends ks) left right =
    let (fits, below, above) = left.tail in
    ((tt, fits), lowest-above low high (floor i) ks right.heads below, highest-below low high (top i) ks right.heads above)
swap-fits program low high hs i (Stream.goes_on ks j) left right =
    let (fits, below, above) = left.tail in
    let (more, least, most) = right.tail in (
      (more, fits),
      lowest-above low high (min (floor j) (floor i)) ks right.heads (omega (arith, below, least)),
      highest-below low high (max (top j) (top i)) ks right.heads (omega (arith, above, most)),
    )

-- streams that are appended
pub append-fits : (program : Program) (low high : ℕ) (s t : Stream) → TailFits program low high s → TailFits program low high t → TailFits program low high (append s t)
append-fits program low high (Stream.ends hs) (Stream.ends ks) left right = record { heads = Each-append (Between low high) hs ks left.heads right.heads; tail = tt }
append-fits program low high (Stream.ends hs) (Stream.goes_on ks i) left right = record { heads = Each-append (Between low high) hs ks left.heads right.heads; tail = right.tail }
append-fits program low high (Stream.goes_on hs i) t left right = record { heads = left.heads; tail = swap-fits program low high hs i t left right }

each-fits : (program : Program) (low high : ℕ) (f : Store → Stream) (hs : List Store) (last : Stream) → Each (λ st. TailFits program low high (f st)) hs → TailFits program low high last →
    TailFits program low high (append_each f hs last)
each-fits program low high f [] last fits end = end
each-fits program low high f (st ∷ hs) last (here, fits) end = append-fits program low high (f st) (append_each f hs last) here (each-fits program low high f hs last fits end)

-- a goal that is bound to a stream, where its stream at each store fits
bound-fits : (program : Program) (low high : ℕ) (g : Goal) (env : List Tm) (s : Stream) → Contains program.goals g → in_scope (length env) g ≡ true → list_all (all_below low) env ≡ true →
    ((st : Store) → low ≤ st.counter → TailFits program st.counter (st.counter + width g) (run g env st)) → TailFits program low high s →
    TailFits program low (high + width g) (bind_all (run g env) g env s)
bound-fits program low high g env s there slots below each fits = go s fits.heads fits.tail
  where
    at_heads : (hs : List Store) → Each (Between low high) hs → Each (λ st. TailFits program low (high + width g) (run g env st)) hs
    at_heads hs between =
        Each-like (Between low high) (λ st. TailFits program low (high + width g) (run g env st))
        (λ st (least, most). fits-wider program st.counter (st.counter + width g) low (high + width g) (run g env st) least (omega (arith, most)) (each st least)) hs between

    go : (t : Stream) → Each (Between low high) (heads t) → RestFits program low (high + 2 ^ 21) t → TailFits program low (high + width g) (bind_all (run g env) g env t)
    go (Stream.ends hs) between rest = each-fits program low (high + width g) (run g env) hs empty (at_heads hs between) (record { heads = tt; tail = tt })
    go (Stream.goes_on hs i) between (inner, least, most) =
        each-fits program low (high + width g) (run g env) hs (Stream.goes_on [] (Thunk.bind g env i)) (at_heads hs between)
        (record { heads = tt; tail = ((there, slots, env-more low (floor i) least env below, inner), least, omega (arith, most)) })

-- a call's arguments with names: as many as before, and all are there
instances-length : (env : List Tm) (ts : List Template) → length (instances env ts) ≡ length ts
instances-length env [] = refl
instances-length env (t ∷ ts) = ap suc (instances-length env ts)

instances-below : (n : ℕ) (env : List Tm) (ts : List Template) → list_all (all_below n) env ≡ true → list_all (all_below n) (instances env ts) ≡ true
instances-below n env [] h = refl
instances-below n env (t ∷ ts) h = and_from _ _ (instance-below n env t h) (instances-below n env ts h)

record NamesFit (st : Store) (ts : List Tm) (args : Arguments) : Type 0 where
  count : length args.values ≡ length ts
  above : st.counter ≤ args.store.counter
  within : args.store.counter ≤ st.counter + length ts
  below : list_all (all_below args.store.counter) args.values ≡ true

flat-fits : (st : Store) (t : Tm) (ts : List Tm) → is_flat t ≡ true → all_below st.counter t ≡ true → NamesFit st ts (name_pairs st ts) → NamesFit st (t ∷ ts) (name_pairs st (t ∷ ts))
flat-fits st t ts flat first more =
    let above = more.above in
    let within = more.within in
    subst (NamesFit st (t ∷ ts)) (sym ((names-itself st t flat).goes_on ts))
    (record {
      count = ap suc more.count;
      above = above;
      within = omega (arith, within);
      below = and_from _ _ (below-more st.counter (name_pairs st ts).store.counter above t first) more.below;
    })

names-fit : (st : Store) (ts : List Tm) → list_all (all_below st.counter) ts ≡ true → NamesFit st ts (name_pairs st ts)
names-fit st [] h = record { count = refl; above = omega arith; within = omega arith; below = refl }
names-fit st (Tree.pair a b ∷ ts) h =
    let (first, rest) = and_parts (all_below st.counter (Tree.pair a b)) (list_all (all_below st.counter) ts) h in
    let next = named_store st (Tree.pair a b) in
    let more = names-fit next ts (env-more st.counter (st.counter + 1) (omega arith) ts rest) in
    let above = more.above in
    let within = more.within in
    record {
      count = ap suc more.count;
      above = omega (arith, above);
      within = omega (arith, within);
      below = and_from _ _ (lt-ltb st.counter (name_pairs next ts).store.counter (omega (arith, above))) more.below;
    }
names-fit st (Tree.leaf v ∷ ts) h = let (first, rest) = and_parts (all_below st.counter (Tree.leaf v)) (list_all (all_below st.counter) ts) h in flat-fits st (Tree.leaf v) ts refl first (names-fit st ts rest)
names-fit st (Tree.sym s ∷ ts) h = flat-fits st (Tree.sym s) ts refl refl (names-fit st ts h)
names-fit st (Tree.str s ∷ ts) h = flat-fits st (Tree.str s) ts refl refl (names-fit st ts h)
names-fit st (Tree.num n ∷ ts) h = flat-fits st (Tree.num n) ts refl refl (names-fit st ts h)
names-fit st (Tree.truth b ∷ ts) h = flat-fits st (Tree.truth b) ts refl refl (names-fit st ts h)
names-fit st (Tree.nil ∷ ts) h = flat-fits st Tree.nil ts refl refl (names-fit st ts h)

-- a call with its arguments named
pub call-fits : (program : Program) (r : ℕ) (before after : Store) (env : List Tm) (args : List Template) (values given : List Tm) → NamesFirst before (instances env args) values after → given ≡ values →
    list_all (all_below before.counter) env ≡ true → takes (slice_get program.relations r) (length args) ≡ true → Fits program (Thunk.call r given after)
call-fits program r before after env args values given names same below there =
    let fit = subst (NamesFit before (instances env args)) (names-all before after (instances env args) values names) (names-fit before (instances env args) (instances-below before.counter env args below)) in
    rw same (ap (takes (slice_get program.relations r)) (fit.count ∙ instances-length env args) ∙ there, fit.below)

assert-fits : (program : Program) (st : Store) (b : Bool) (p : Primitive Tm) → TailFits program st.counter (st.counter + 0) (elim b [ true ↦ one (with_prim st p) | false ↦ empty ])
assert-fits program st true p = record { heads = ((omega arith, omega arith), tt); tail = tt }
assert-fits program st false p = record { heads = tt; tail = tt }

variables-length : (first n : ℕ) → length (variables first n) ≡ n
variables-length first zero = refl
variables-length first (suc n) = ap suc (variables-length (suc first) n)

-- a goal finds its slots among those in scope and the fresh ones
pub wider-slots : (env : List Tm) (first k : ℕ) (g : Goal) → in_scope (length env + k) g ≡ true → in_scope (length (env ++ variables first k)) g ≡ true
wider-slots env first k g slots = ap (λ n. in_scope n g) (length-append env (variables first k) ∙ ap (λ n. length env + n) (variables-length first k)) ∙ slots

-- the stream of a goal of the program
pub run-fits : (program : Program) (g : Goal) (env : List Tm) (st : Store) → ProgramIsClosed program → Contains program.goals g → in_scope (length env) g ≡ true →
    list_all (all_below st.counter) env ≡ true → TailFits program st.counter (st.counter + width g) (run g env st)
run-fits program (Goal.prim p) env st closed there slots below = assert-fits program st (is_kept (with_prim st (on_sides (instance env) p))) (on_sides (instance env) p)
run-fits program Goal.succeed env st closed there slots below = record { heads = ((omega arith, omega arith), tt); tail = tt }
run-fits program Goal.fail env st closed there slots below = record { heads = tt; tail = tt }
run-fits program (Goal.both g h) env st closed there slots below =
    let (first, second) = closed.parts (Goal.both g h) there in
    let (one_fits, two_fits) = and_parts (in_scope (length env) g) (in_scope (length env) h) slots in
    fits-wider program st.counter (st.counter + width g + width h) st.counter (st.counter + (width g + width h)) (bind_all (run h env) h env (run g env st)) (omega arith) (omega arith)
    (bound-fits program st.counter (st.counter + width g) h env (run g env st) second two_fits below
    (λ a least. run-fits program h env a closed second two_fits (env-more st.counter a.counter least env below)) (run-fits program g env st closed first one_fits below))
run-fits program (Goal.either g h) env st closed there slots below =
    let (first, second) = closed.parts (Goal.either g h) there in
    let (one_fits, two_fits) = and_parts (in_scope (length env) g) (in_scope (length env) h) slots in
    append-fits program st.counter (st.counter + (width g + width h)) (run g env st) (run h env st)
    (fits-wider program st.counter (st.counter + width g) st.counter (st.counter + (width g + width h)) (run g env st) (omega arith) (omega arith) (run-fits program g env st closed first one_fits below))
    (fits-wider program st.counter (st.counter + width h) st.counter (st.counter + (width g + width h)) (run h env st) (omega arith) (omega arith) (run-fits program h env st closed second two_fits below))
run-fits program (Goal.fresh k g) env st closed there slots below =
    let wider = env ++ variables st.counter k in
    fits-wider program (st.counter + k) (st.counter + k + width g) st.counter (st.counter + (k + width g)) (run g wider (with_fresh st k)) (omega arith) (omega arith)
    (run-fits program g wider (with_fresh st k) closed (closed.parts (Goal.fresh k g) there) (wider-slots env st.counter k g slots)
    (list_all-append (all_below (st.counter + k)) env (variables st.counter k)
    ∙ and_from _ _ (env-more st.counter (st.counter + k) (omega arith) env below) (variables-below st.counter k)))
run-fits program (Goal.later g) env st closed there slots below = record { heads = tt; tail = ((closed.parts (Goal.later g) there, slots, below), omega arith, omega arith) }
run-fits program (Goal.call r args) env st closed there slots below =
    let ts = instances env args in
    let names = names-fit st ts (instances-below st.counter env args below) in
    let long = instances-length env args in
    let above = names.above in
    let within = names.within in
    record {
      heads = tt;
      tail = (
        (ap (takes (slice_get program.relations r)) (names.count ∙ long) ∙ closed.calls (Goal.call r args) there, names.below),
        above,
        omega (arith, within, long),
      );
    }

pub takes-params : (rel : Relation) (o : Option Relation) (n : ℕ) → o ≡ Some rel → takes o n ≡ true → rel.params ≡ n
takes-params rel o n found takes_them = eqb-true rel.params n (ap (λ p. takes p n) (sym found) ∙ takes_them)

enter-fits : (program : Program) (r : ℕ) (o : Option Relation) (args : List Tm) (st : Store) → ProgramIsClosed program → slice_get program.relations r ≡ o → takes o (length args) ≡ true →
    list_all (all_below st.counter) args ≡ true → TailFits program st.counter (st.counter + 2 ^ 21) (enter o args st)
enter-fits program r None args st closed found takes_them below = record { heads = tt; tail = tt }
enter-fits program r (Some rel) args st closed found takes_them below =
    let body = closed.bodies r rel found in
    let low = closed.narrow rel.body body.there in
    fits-wider program st.counter (st.counter + width rel.body) st.counter (st.counter + 2 ^ 21) (run rel.body args st) (omega arith) (omega (arith, low))
    (run-fits program rel.body args st closed body.there (ap (λ n. in_scope n rel.body) (sym (takes-params rel (Some rel) (length args) refl takes_them)) ∙ body.slots) below)

-- a stream that waits before a suspension
waiting-fits : (program : Program) (t : Stream) (m n : ℕ) → StreamFits program t → TailFits program (stream_floor t m) (stream_top t n) t
waiting-fits program (Stream.ends hs) m n fits = record { heads = stream-between (Stream.ends hs) m n; tail = tt }
waiting-fits program (Stream.goes_on hs i) m n fits =
    let low = lowest-below hs (min (floor i) m) in
    let high = highest-above hs (max (top i) n) in
    record { heads = stream-between (Stream.goes_on hs i) m n; tail = (fits, omega (arith, low), omega (arith, high)) }

-- the force of a suspension that fits the program
pub force-fits : (program : Program) (t : Thunk) → ProgramIsClosed program → Fits program t → TailFits program (floor t) (top t) (force program t)
force-fits program (Thunk.call r args st) closed (takes_them, below) = enter-fits program r (slice_get program.relations r) args st closed refl takes_them below
force-fits program (Thunk.pause g env st) closed (there, slots, below) =
    let low = closed.narrow g there in
    fits-wider program st.counter (st.counter + width g) st.counter (st.counter + 2 ^ 21) (run g env st) (omega arith) (omega (arith, low)) (run-fits program g env st closed there slots below)
force-fits program (Thunk.swap t i) closed (first, inner) =
    let low = stream-floor-below t (floor i) in
    let high = stream-top-above t (top i) in
    append-fits program (stream_floor t (floor i)) (stream_top t (top i)) t (force program i) (waiting-fits program t (floor i) (top i) first)
    (fits-wider program (floor i) (top i) (stream_floor t (floor i)) (stream_top t (top i)) (force program i) low high (force-fits program i closed inner))
force-fits program (Thunk.bind g env i) closed (there, slots, below, inner) =
    bound-fits program (floor i) (top i) g env (force program i) there slots below
    (λ a least. run-fits program g env a closed there slots (env-more (floor i) a.counter least env below)) (force-fits program i closed inner)

-- a goal of the program bound to a stream that fits
pub bind-fits : (program : Program) (low high : ℕ) (g : Goal) (env : List Tm) (s : Stream) → ProgramIsClosed program → Contains program.goals g → in_scope (length env) g ≡ true →
    list_all (all_below low) env ≡ true → TailFits program low high s → TailFits program low (high + width g) (bind_all (run g env) g env s)
bind-fits program low high g env s closed there slots below fits =
    bound-fits program low high g env s there slots below (λ a least. run-fits program g env a closed there slots (env-more low a.counter least env below)) fits

-- the same of an equal stream and program
pub fits-moved : (program after : Program) (low high : ℕ) (s t : Stream) → after ≡ program → t ≡ s → TailFits program low high s → TailFits after low high t
fits-moved program after low high s t same is fits = rw (same, is) fits
