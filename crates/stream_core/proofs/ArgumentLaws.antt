-- Streams that are there at once.
use Rattle.std.proofs.Common.{◌≡◌, ℕ, zero, suc, ◌+◌, ◌≤◌, ◌<◌, true, false, List, [], ◌∷◌, ◌++◌, refl, sym, ◌∙◌, ap, ap₂, subst, arith, lt-ltb, ◌^◌, get_or, map, take, drop, append-nil, append_assoc, length}
use Rattle.std.specs.Prelude.{Option, None, option_map}
use Rattle.std.specs.List.{list_all}
use Rattle.std.proofs.lemmas.Bool.{and_from, and_parts}
use Rattle.kan_terms.specs.Tree.{Tree, Tm}
use Rattle.kan_terms.specs.Terms.{tree}
use Rattle.kan_terms.specs.declared.terms.Term.{Term}
use Rattle.kan_model.specs.Programs.Goals.{Primitive, Template}
use Rattle.kan_model.specs.declared.prims.Kind.{Kind}
use Rattle.kan_model.specs.declared.prims.Kind.TheVariants.{Symbol, Number, Text}
use Rattle.stream_core.specs.AtomicGoals.{of_kind}
use Rattle.kan_model.specs.Stores.Store.{Store, with_prim, with_fresh}
use Rattle.kan_model.specs.Stores.Kept.{is_kept}
use Rattle.kan_model.specs.Streams.Stream.{Stream, Thunk, one}
use Rattle.kan_model.specs.Stores.Calls.{Gives}
use Rattle.kan_model.specs.Streams.Running.{slot, instance, instances, name_pairs, named_store, suspended_call}
use Rattle.kan_model.specs.Programs.Scope.{all_below, sides_below}
use Rattle.kan_model.specs.Terms.Flat.{is_flat}
use Rattle.kan_model.specs.Programs.Tables.{template_at, arguments_at}
use Rattle.std.proofs.lemmas.List.{map-append, length-map}
use Rattle.std.proofs.lemmas.List.Folds.{list_all-append}
use Rattle.stream_core.specs.CallArguments.{NamesOne, NamesFirst, in_front}
use Rattle.stream_core.proofs.HeadLaws.{below-more}

slot-below : (n : ℕ) (env : List Tm) (i : ℕ) → list_all (all_below n) env ≡ true → all_below n (slot env i) ≡ true
slot-below n [] i h = refl
slot-below n (t ∷ ts) zero h = (and_parts (all_below n t) (list_all (all_below n) ts) h).0
slot-below n (t ∷ ts) (suc i) h = slot-below n ts i (and_parts (all_below n t) (list_all (all_below n) ts) h).1

-- a filled template has the variables of the environment alone
pub instance-below : (n : ℕ) (env : List Tm) (t : Template) → list_all (all_below n) env ≡ true → all_below n (instance env t) ≡ true
instance-below n env (Tree.leaf i) h = slot-below n env i h
instance-below n env (Tree.sym s) h = refl
instance-below n env (Tree.str s) h = refl
instance-below n env (Tree.num x) h = refl
instance-below n env (Tree.truth b) h = refl
instance-below n env Tree.nil h = refl
instance-below n env (Tree.pair a b) h = and_from _ _ (instance-below n env a h) (instance-below n env b h)

pub sides-are-below : (n : ℕ) (a b x y : Tm) → x ≡ a → y ≡ b → all_below n a ≡ true → all_below n b ≡ true → sides_below n (Primitive.same x y) ≡ true
sides-are-below n a b x y left right h k = rw (left, right) (and_from _ _ h k)

-- a primitive of a type is over its one side
pub kind-below : (n : ℕ) (kind : Kind) (t : Tm) → sides_below n (of_kind kind t) ≡ all_below n t
kind-below n Symbol t = refl
kind-below n Number t = refl
kind-below n Text t = refl

-- the next variable and a term are below the counter of the store with one variable more
pub named-below : (st wider : Store) (v : ℕ) (t : Tm) → wider ≡ with_fresh st 1 → v ≡ st.counter → all_below st.counter t ≡ true →
    sides_below wider.counter (Primitive.same (Tree.leaf v) t) ≡ true
named-below st wider v t more next below =
    rw (more, next) (and_from _ _ (lt-ltb st.counter (st.counter + 1) (omega arith)) (below-more st.counter (st.counter + 1) (omega arith) t below))

-- a term that is no pair names itself
pub names-itself : (st : Store) (t : Tm) → is_flat t ≡ true → NamesOne st t t st
names-itself st (Tree.leaf v) h = record { goes_on = λ rest. refl; flat = refl; above = omega arith; within = omega arith }
names-itself st (Tree.sym s) h = record { goes_on = λ rest. refl; flat = refl; above = omega arith; within = omega arith }
names-itself st (Tree.str s) h = record { goes_on = λ rest. refl; flat = refl; above = omega arith; within = omega arith }
names-itself st (Tree.num n) h = record { goes_on = λ rest. refl; flat = refl; above = omega arith; within = omega arith }
names-itself st (Tree.truth b) h = record { goes_on = λ rest. refl; flat = refl; above = omega arith; within = omega arith }
names-itself st Tree.nil h = record { goes_on = λ rest. refl; flat = refl; above = omega arith; within = omega arith }
names-itself st (Tree.pair a b) h = cc

pub instances-append : (env : List Tm) (xs ys : List Template) → instances env (xs ++ ys) ≡ instances env xs ++ instances env ys
instances-append env [] ys = refl
instances-append env (x ∷ xs) ys = ap (λ zs. instance env x ∷ zs) (instances-append env xs ys)

take-next : {X : Type 0} (xs : List X) (k : ℕ) (d : X) → k < length xs → take (suc k) xs ≡ take k xs ++ get_or xs k d ∷ []
take-next [] k d low = let none : ⊥ = omega (arith, low) in absurd none
take-next (y ∷ xs) zero d low = refl
take-next (y ∷ xs) (suc k) d low = ap (λ zs. y ∷ zs) (take-next xs k d (omega (arith, low)))

-- one argument more
arguments-next : (ts : List Template) (xs : List ℕ) (k d : ℕ) → k < length xs → map (template_at ts) (take (k + 1) xs) ≡ map (template_at ts) (take k xs) ++ template_at ts (get_or xs k d) ∷ []
arguments-next ts xs k d low =
    let one : k + 1 ≡ suc k = omega arith in
    ap (λ n. map (template_at ts) (take n xs)) one ∙ ap (map (template_at ts)) (take-next xs k d low) ∙ map-append (template_at ts) (take k xs) (get_or xs k d ∷ [])

-- the next argument named
pub names-next : (before middle after : Store) (arguments values longer : List Tm) (argument value : Tm) →
    NamesFirst before arguments values middle → NamesOne middle argument value after → longer ≡ values ++ value ∷ [] → NamesFirst before (arguments ++ argument ∷ []) longer after
names-next before middle after arguments values longer argument value first next grown =
    record {
      goes_on = λ rest.
          ap (name_pairs before) (append_assoc arguments (argument ∷ []) rest) ∙ first.goes_on (argument ∷ rest) ∙ ap (in_front values) (next.goes_on rest)
          ∙ ap (λ vs. record { values = vs; store = (name_pairs after rest).store }) (sym (append_assoc values (value ∷ []) (name_pairs after rest).values) ∙ ap (λ vs. vs ++ (name_pairs after rest).values) (sym grown));
      flat = ap (list_all is_flat) grown ∙ list_all-append is_flat values (value ∷ []) ∙ and_from _ _ first.flat (and_from _ _ next.flat refl);
    }

-- the names of all arguments
pub names-all : (before after : Store) (arguments values : List Tm) → NamesFirst before arguments values after → name_pairs before arguments ≡ record { values = values; store = after }
names-all before after arguments values names =
    ap (name_pairs before) (sym (append-nil arguments)) ∙ names.goes_on [] ∙ ap (λ vs. record { values = vs; store = after }) (append-nil values)

-- with all arguments named, the call waits
pub call-waits : (r : ℕ) (before after : Store) (arguments values : List Tm) → NamesFirst before arguments values after →
    Stream.goes_on [] (Thunk.call r values after) ≡ suspended_call r (name_pairs before arguments)
call-waits r before after arguments values names =
    ap (suspended_call r) (sym (names-all before after arguments values names))

-- the step of naming, in the words of the code
pub names-step : (before middle after : Store) (env : List Tm) (ts : List Template) (xs : List ℕ) (k d : ℕ) (values longer : List Term) (value : Tm) (given : Term) → k < length xs →
    NamesFirst before (instances env (map (template_at ts) (take k xs))) (map tree values) middle → value ≡ instance env (template_at ts (get_or xs k d)) →
    NamesOne middle value (tree given) after → longer ≡ values ++ given ∷ [] → NamesFirst before (instances env (map (template_at ts) (take (k + 1) xs))) (map tree longer) after
names-step before middle after env ts xs k d values longer value given low first is next grown =
    let all : instances env (map (template_at ts) (take (k + 1) xs)) ≡ instances env (map (template_at ts) (take k xs)) ++ value ∷ [] =
    ap (instances env) (arguments-next ts xs k d low) ∙ instances-append env (map (template_at ts) (take k xs)) (template_at ts (get_or xs k d) ∷ [])
    ∙ ap (λ x. instances env (map (template_at ts) (take k xs)) ++ x ∷ []) (sym is) in
    rw all (names-next before middle after (instances env (map (template_at ts) (take k xs))) (map tree values) (map tree longer) value (tree given) first next
    (ap (map tree) grown ∙ map-append tree values (given ∷ [])))

-- the arguments that are lent are those of the call
pub arguments-many : (ts : List Template) (xs args : List ℕ) (at count room : ℕ) → xs ≡ take count (drop at args) → room + length (arguments_at ts args at count) ≤ 2 ^ 63 → room + length xs ≤ 2 ^ 63
arguments-many ts xs args at count room is low =
    let same = length-map (take count (drop at args)) (template_at ts) in
    let long : length xs ≡ length (take count (drop at args)) = ap length is in omega (arith, low, same, long)

-- the equation of the next variable isn't lost
pub not-kept : (st wider : Store) (v : ℕ) (t : Tm) {St : Type 0} (means : St → Store) (given : Option St) → wider ≡ with_fresh st 1 → v ≡ st.counter → is_kept (named_store st t) ≡ true → given ≡ None →
    Gives (with_prim wider (Primitive.same (Tree.leaf v) t)) (option_map means given) → ⊥
not-kept st wider v t means given more next kept none gives =
    let lost : is_kept (with_prim wider (Primitive.same (Tree.leaf v) t)) ≡ false = subst (λ o. Gives (with_prim wider (Primitive.same (Tree.leaf v) t)) (option_map means o)) none gives in
    let same : with_prim wider (Primitive.same (Tree.leaf v) t) ≡ named_store st t = ap₂ (λ s w. with_prim s (Primitive.same (Tree.leaf w) t)) more next in
    let both : true ≡ false = sym kept ∙ ap is_kept (sym same) ∙ lost in cc
