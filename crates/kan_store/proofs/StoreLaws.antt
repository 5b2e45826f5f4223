-- What each call makes of a store whose parts are in step with it, which is known behind a truncation.
use Rattle.std.proofs.Common.{◌≡◌, ℕ, ◌+◌, List, [], ◌∷◌, ◌++◌, Bool, true, Option, None, sym, ap₂, subst, refl, ◌∙◌, ltb-true, lt-ltb, arith}
use Rattle.std.proofs.Math.Logic.{∥∥₁_map}
use Rattle.std.specs.List.{list_all}
use Rattle.std.proofs.lemmas.Bool.{and_parts, and_from}
use Rattle.kan_terms.specs.Tree.{Tree, Tm}
use Rattle.kan_model.specs.Programs.Goals.{Primitive}
use Rattle.kan_model.specs.Programs.Scope.{all_below, sides_below}
use Rattle.kan_model.specs.Stores.Store.{Store, Equation, bare, with_prim, with_fresh}
use Rattle.kan_model.specs.Stores.Kept.{is_kept}
use Rattle.kan_model.specs.Stores.Calls.{replacement_of, differences, WalksTo, AreDifferences}
use Rattle.kan_model.specs.declared.prims.Kind.TheVariants.{Symbol, Number, Text}
use Rattle.type_absence.specs.Types.{made_if}
use Rattle.unify_core.specs.Walking.{Pairs, walk}
use Rattle.diseq.proofs.BroughtLaws.{bringing_goes_on, ground_meaning}
use Rattle.kan_store.specs.Parts.{Parts, AreInStep, KnownToMake, SameParts, Adding, Resolved}
use Rattle.kan_store.specs.Meaning.{parts_of, store_of}
use Rattle.kan_store.specs.declared.store.Held.{Held}
use Rattle.kan_store.proofs.Asserting.{kept}
use Rattle.kan_store.proofs.StepLaws.{test-known, Makes, known-to, equated_makes, typing_makes, keeping_makes, differing_makes, same_in_step, fresh_in_step, empty_in_step}
use Rattle.kan_store.proofs.Observing.{walk_known}
use Rattle.kan_store.proofs.Listing.{differences_known}

-- the parts of the store, known behind a truncation to be in step with it
abbrev pub Known : Parts → Store → Type 0
Known parts st = ∥ AreInStep parts st ∥₁

pub kept_known : (parts : Parts) (st : Store) → Known parts st → is_kept st ≡ true
kept_known parts st step = test-known (is_kept st) true (∥∥₁_map step (λ i. kept parts.bound parts.types parts.tags parts.lists st i))

-- two stores with the same primitives and counter
pub same_store : (a b : Store) → b.prims ≡ a.prims → b.counter ≡ a.counter → b ≡ a
same_store a b prims counter = ap₂ (λ ps n. record { prims = ps; counter = n }) prims counter

pub empty_known : (parts : Parts) (st : Store) → st.prims ≡ [] → st.counter ≡ 0 → parts.bound ≡ [] → ((v : ℕ) → parts.types v ≡ None) → ((v : ℕ) → parts.tags v ≡ []) → parts.lists.asserted ≡ [] → ((v : ℕ) → parts.lists.watching v ≡ []) → Known parts st
empty_known parts st prims counter bound types tags lists watching = subst (λ s. Known parts s) (sym (same_store (bare 0) st prims counter)) ∣ empty_in_step parts bound types tags lists watching ∣₁

pub same_known : (old new : Parts) (st : Store) → Known old st → SameParts old new → Known new st
same_known old new st step same = ∥∥₁_map step (λ i. same_in_step old new st same i)

pub fresh_known : (old new : Parts) (st now : Store) (k : ℕ) → Known old st → SameParts old new → now.prims ≡ st.prims → now.counter ≡ st.counter + k → Known new now
fresh_known old new st now k step same prims counter =
    subst (λ s. Known new s) (sym (same_store (with_fresh st k) now prims counter)) (∥∥₁_map (same_known old new st step same) (λ i. fresh_in_step new st k i))

-- a counter that rises stays above all variables
all_below-more : (n k : ℕ) (t : Tm) → all_below n t ≡ true → all_below (n + k) t ≡ true
all_below-more n k (Tree.leaf v) e = lt-ltb v (n + k) (let below = ltb-true v n e in omega (arith, below))
all_below-more n k (Tree.sym s) e = refl
all_below-more n k (Tree.str s) e = refl
all_below-more n k (Tree.num m) e = refl
all_below-more n k (Tree.truth b) e = refl
all_below-more n k Tree.nil e = refl
all_below-more n k (Tree.pair a b) e =
    let (l, r) = and_parts (all_below n a) (all_below n b) e in and_from (all_below (n + k) a) (all_below (n + k) b) (all_below-more n k a l) (all_below-more n k b r)

sides_below-more : (n k : ℕ) (p : Primitive Tm) → sides_below n p ≡ true → sides_below (n + k) p ≡ true
sides_below-more n k (Primitive.same a b) e = let (l, r) = and_parts (all_below n a) (all_below n b) e in and_from (all_below (n + k) a) (all_below (n + k) b) (all_below-more n k a l) (all_below-more n k b r)
sides_below-more n k (Primitive.differ a b) e = let (l, r) = and_parts (all_below n a) (all_below n b) e in and_from (all_below (n + k) a) (all_below (n + k) b) (all_below-more n k a l) (all_below-more n k b r)
sides_below-more n k (Primitive.symbol a) e = all_below-more n k a e
sides_below-more n k (Primitive.number a) e = all_below-more n k a e
sides_below-more n k (Primitive.text a) e = all_below-more n k a e
sides_below-more n k (Primitive.absent tag a) e = all_below-more n k a e

pub counted_more : (n k : ℕ) (ps : List (Primitive Tm)) → list_all (sides_below n) ps ≡ true → list_all (sides_below (n + k)) ps ≡ true
counted_more n k [] e = refl
counted_more n k (p ∷ ps) e =
    let (first, rest) = and_parts (sides_below n p) (list_all (sides_below n) ps) e in and_from (sides_below (n + k) p) (list_all (sides_below (n + k)) ps) (sides_below-more n k p first) (counted_more n k ps rest)

pub fresh_counted : (st now : Store) (k : ℕ) → now.prims ≡ st.prims → now.counter ≡ st.counter + k → list_all (sides_below st.counter) st.prims ≡ true → list_all (sides_below now.counter) now.prims ≡ true
fresh_counted st now k prims counter low = ap₂ (λ ps n. list_all (sides_below n) ps) prims counter ∙ counted_more st.counter k st.prims low

-- one primitive more, whose variables lie below the counter
all_longer : (n : ℕ) (ps : List (Primitive Tm)) (p : Primitive Tm) → list_all (sides_below n) ps ≡ true → sides_below n p ≡ true → list_all (sides_below n) (ps ++ p ∷ []) ≡ true
all_longer n [] p low last = and_from (sides_below n p) true last refl
all_longer n (q ∷ ps) p low last =
    let (first, rest) = and_parts (sides_below n q) (list_all (sides_below n) ps) low in and_from (sides_below n q) (list_all (sides_below n) (ps ++ p ∷ [])) first (all_longer n ps p rest last)

pub longer_counted : (st now : Store) (p : Primitive Tm) → now.prims ≡ st.prims ++ p ∷ [] → now.counter ≡ st.counter → list_all (sides_below st.counter) st.prims ≡ true → sides_below st.counter p ≡ true →
    list_all (sides_below now.counter) now.prims ≡ true
longer_counted st now p prims counter low last = ap₂ (λ ps n. list_all (sides_below n) ps) prims counter ∙ all_longer st.counter st.prims p low last

-- one primitive more
adding_makes : (old : Parts) (st : Store) → AreInStep old st → (p : Primitive Tm) (r : Option Parts) → Adding old p r → Makes (with_prim st p) r
adding_makes old st step (Primitive.same a b) r d = equated_makes bringing_goes_on old st step a b r d
adding_makes old st step (Primitive.differ a b) r d = differing_makes bringing_goes_on old st step a b r d
adding_makes old st step (Primitive.symbol t) r d = typing_makes bringing_goes_on old st step Symbol t r d
adding_makes old st step (Primitive.number t) r d = typing_makes bringing_goes_on old st step Number t r d
adding_makes old st step (Primitive.text t) r d = typing_makes bringing_goes_on old st step Text t r d
adding_makes old st step (Primitive.absent tag t) r d = keeping_makes bringing_goes_on old st step tag t r d

pub adding_known : (old : Parts) (st : Store) → Known old st → (p : Primitive Tm) (r : Option Parts) → Adding old p r → KnownToMake (with_prim st p) r
adding_known old st step p r d = known-to (with_prim st p) r (∥∥₁_map step (λ i. adding_makes old st i p r d))

-- what a store shows
pub walk_told : (parts : Parts) (st : Store) → Known parts st → (t found : Tm) → found ≡ walk parts.bound t → WalksTo (replacement_of st) t found
walk_told parts st step t found is = subst (λ f. WalksTo (replacement_of st) t f) (sym is) (walk_known parts st step t)

pub differences_told : (parts : Parts) (st : Store) → Known parts st → (all out : List (List Equation)) → all ≡ parts.lists.asserted → Resolved parts.bound all out → AreDifferences st (differences st.prims) out
differences_told parts st step all out is d = differences_known ground_meaning parts st step out (subst (λ ls. Resolved parts.bound ls out) is d)

-- what is seen through a pointer is what is held
pub shown_known : {B : Type 0} (pairs : B → Pairs) (shown held : Held B) → shown ≡ held → Known (parts_of pairs held.solved) (store_of held) → Known (parts_of pairs shown.solved) (store_of held)
shown_known pairs shown held is step = subst (λ h. Known (parts_of pairs h.solved) (store_of held)) (sym is) step

pub seen_known : {B : Type 0} (pairs : B → Pairs) (shown held : Held B) (st : Store) → shown ≡ held → Known (parts_of pairs held.solved) st → Known (parts_of pairs shown.solved) st
seen_known pairs shown held st is step = subst (λ h. Known (parts_of pairs h.solved) st) (sym is) step

-- what a pointer has after a primitive was added behind it
pub longer_known : (parts : Parts) (st now : Store) (p : Primitive Tm) (fits : Bool) → fits ≡ true → KnownToMake (with_prim st p) (made_if fits parts) → now ≡ with_prim st p → Known parts now
longer_known parts st now p fits on made is = subst (λ s. Known parts s) (sym is) (subst (λ f. KnownToMake (with_prim st p) (made_if f parts)) on made)
