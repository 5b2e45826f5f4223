-- Watchable disequalities: what unification adds is watchable, and stays so where no side of an added pair watches.
use Rattle.std.proofs.Common.{◌≡◌, ◌≢◌, ℕ, Bool, true, false, ◌&&◌, ◌||◌, not, eqb, List, [], ◌∷◌, Option, Some, None, sym, ap, subst, refl, ◌∙◌, if◌then◌else◌}
use Rattle.std.proofs.lemmas.Bool.{eq-eqb, eqb-true, ne_eqb, true≢false, false_from_ne_true}
use Rattle.kan_terms.specs.Tree.{Tree, Tm, occurs}
use Rattle.kan_terms.specs.Bound.{bound_to}
use Rattle.kan_terms.proofs.TreeLaws.{term_eq-true}
use Rattle.kan_model.specs.Stores.Store.{Equation}
use Rattle.kan_model.specs.Stores.Kept.{is_variable}
use Rattle.kan_model.specs.Stores.Unifiers.{Unifies}
use Rattle.unify_core.specs.Walking.{Pairs, walk, full, ends, go_on}
use Rattle.unify_core.specs.Cycles.{HasNoCycle}
use Rattle.unify_core.specs.Solutions.{AddedTo, IsSolution, equation}
use Rattle.unify_core.specs.Unifying.{Unifying}
use Rattle.unify_core.specs.Laws.{added_equations}
use Rattle.unify_core.proofs.CycleLaws.{grown}
use Rattle.unify_core.proofs.GrowthLaws.{Grown, ends-unbound}
use Rattle.unify_core.proofs.WalkLaws.{full-walk, walk-twice}
use Rattle.unify_core.proofs.Relation.UnifyingLaws.{full-apart, unifying_makes}
use Rattle.unify_core.proofs.AddedLaws.{added_solve}
use Rattle.diseq.specs.Disequalities.{Disequality, has_same_sides, is_identical}
use Rattle.diseq.specs.Watching.{is_none, is_apart, is_watchable, watches, is_woken}
use Rattle.diseq.specs.Laws.{WatchableDiffers}
use Rattle.diseq.proofs.ListLaws.{and_parts, and_both}
use Rattle.diseq.proofs.BroughtLaws.{full_solves, unifies_identical, identical_unifies}

none_is : {X : Type 0} (o : Option X) → is_none o ≡ true → o ≡ None
none_is None h = refl
none_is (Some x) h = cc

is_none-none : {X : Type 0} (o : Option X) → o ≡ None → is_none o ≡ true
is_none-none None h = refl
is_none-none (Some x) h = cc

not_true : (b : Bool) → not b ≡ true → b ≡ false
not_true true h = cc
not_true false h = refl

not_false : (b : Bool) → b ≡ false → not b ≡ true
not_false true h = cc
not_false false h = refl

-- a term is a variable
variable_is : (x : ℕ) (t : Tm) → is_variable x t ≡ true → t ≡ Tree.leaf x
variable_is x (Tree.leaf y) h = ap Tree.leaf (sym (eqb-true x y h))
variable_is x (Tree.sym s) h = cc
variable_is x (Tree.str s) h = cc
variable_is x (Tree.num n) h = cc
variable_is x (Tree.truth b) h = cc
variable_is x Tree.nil h = cc
variable_is x (Tree.pair a b) h = cc

is_variable-leaf : (x : ℕ) (t : Tm) → t ≡ Tree.leaf x → is_variable x t ≡ true
is_variable-leaf x t e = rw e (eq-eqb x x refl)

other_variable : (x : ℕ) (t : Tm) → t ≢ Tree.leaf x → is_variable x t ≡ false
other_variable x t other = false_from_ne_true (is_variable x t) (λ h. other (variable_is x t h))

-- the two parts of being apart
pub apart_parts : (bound : Pairs) (x : ℕ) (t : Tm) → is_apart bound (Tree.leaf x) t ≡ true → (bound_to x bound ≡ None) × (walk bound t ≢ Tree.leaf x)
apart_parts bound x t h =
    let (open_, other) = and_parts (is_none (bound_to x bound)) (not (is_variable x (walk bound t))) h in
    (none_is (bound_to x bound) open_, λ e. true≢false (sym (is_variable-leaf x (walk bound t) e) ∙ not_true (is_variable x (walk bound t)) other))

pub apart_both : (bound : Pairs) (x : ℕ) (t : Tm) → bound_to x bound ≡ None → walk bound t ≢ Tree.leaf x → is_apart bound (Tree.leaf x) t ≡ true
apart_both bound x t none other =
    and_both (is_none (bound_to x bound)) (not (is_variable x (walk bound t))) (is_none-none (bound_to x bound) none)
    (not_false (is_variable x (walk bound t)) (other_variable x (walk bound t) other))

-- the full values of a variable and a term that are apart differ
apart_differs : (bound : Pairs) → Grown bound → (x : ℕ) (t : Tm) → is_apart bound (Tree.leaf x) t ≡ true → full bound (Tree.leaf x) ≢ full bound t
apart_differs bound g x t h e =
    let (none, other) = apart_parts bound x t h in
    full-apart bound g x (walk bound t) (walk-twice bound g t) other (full-walk bound g t ∙ sym e ∙ ends-unbound bound x none)

sides_differ : (bound : Pairs) → Grown bound → (a b : Tm) → is_apart bound a b ≡ true → full bound a ≢ full bound b
sides_differ bound g (Tree.leaf x) t h = apart_differs bound g x t h
sides_differ bound g (Tree.sym s) t h = cc
sides_differ bound g (Tree.str s) t h = cc
sides_differ bound g (Tree.num n) t h = cc
sides_differ bound g (Tree.truth b) t h = cc
sides_differ bound g Tree.nil t h = cc
sides_differ bound g (Tree.pair a b) t h = cc

pub watchable_differs_grown : (bound : Pairs) → Grown bound → (es : Disequality) → is_watchable bound es ≡ true → is_identical bound es ≡ false
watchable_differs_grown bound g [] h = cc
watchable_differs_grown bound g (e ∷ es) h =
    ap (λ b. b && is_identical bound es)
    (false_from_ne_true (has_same_sides bound e) (λ same. sides_differ bound g e.left e.right h (term_eq-true (full bound e.left) (full bound e.right) same)))

pub watchable_differs : WatchableDiffers
watchable_differs bound es h = watchable_differs_grown bound (grown bound h) es

-- older bindings have no cycle either
grown_older : (older : Pairs) (added : List (Tm × Tm)) (new : Pairs) → AddedTo older added new → Grown new → Grown older
grown_older older [] new put g = subst Grown put g
grown_older older (p ∷ more) new (x, same, none, walks, put) g = (grown_older ((x, p.1) ∷ older) more new put g).2

leaf_inside : (bound : Pairs) (x : ℕ) (t : Tm) → bound_to x bound ≡ None → t ≡ Tree.leaf x → occurs x (full bound t) ≡ true
leaf_inside bound x t none e = rw (e, ends-unbound bound x none) (eq-eqb x x refl)

-- the first pair that unification adds is watchable
pub added_watchable : (bound : Pairs) → Grown bound → (es : List Equation) (p : Tm × Tm) (more : List (Tm × Tm)) → Unifying bound es (Some (p ∷ more)) →
    is_watchable bound (added_equations (p ∷ more)) ≡ true
added_watchable bound g es p more d =
    let (new, (x, same, none, walks, put), gn, exact) = unifying_makes ℕ bound es (Some (p ∷ more)) d g in
    let (free, out, old) = grown_older ((x, p.1) ∷ bound) more new put gn in
    let other : walk bound p.1 ≢ Tree.leaf x = λ e. true≢false (sym (leaf_inside bound x p.1 none (sym walks ∙ e)) ∙ out) in
    subst (λ a. is_apart bound a p.1 ≡ true) (sym same) (apart_both bound x p.1 none other)

-- under bindings that were added to, a variable that is no side of an added pair stays apart
stays_apart_once : (older : Pairs) (y : ℕ) (t : Tm) → walk older t ≡ t → (x : ℕ) (u : Tm) → x ≢ y → t ≢ Tree.leaf x →
    bound_to x older ≡ None → walk older u ≢ Tree.leaf x → (bound_to x ((y, t) ∷ older) ≡ None) × (walk ((y, t) ∷ older) u ≢ Tree.leaf x)
stays_apart_once older y t walks x u other aside none apart = (
  ap (λ c. if c then Some t else bound_to x older) (ne_eqb x y other) ∙ none,
  λ e. by (walk older u) apart (sym (ap (λ w. go_on y w (walk older u)) walks) ∙ e),
)
  where
    choose : (z : ℕ) (c : Bool) → Tree.leaf z ≢ Tree.leaf x → (if c then t else Tree.leaf z) ≢ Tree.leaf x
    choose z true differs e = aside e
    choose z false differs e = differs e

    by : (w : Tm) → w ≢ Tree.leaf x → go_on y t w ≢ Tree.leaf x
    by (Tree.leaf z) differs e = choose z (eqb y z) differs e
    by (Tree.sym s) differs e = cc
    by (Tree.str s) differs e = cc
    by (Tree.num n) differs e = cc
    by (Tree.truth b) differs e = cc
    by Tree.nil differs e = cc
    by (Tree.pair a b) differs e = cc

-- a term that doesn't watch what a variable watches is another one
not_watching : (x : ℕ) (u : Tm) (es : List Equation) (t : Tm) → watches t (equation (Tree.leaf x) u ∷ es) ≡ false → t ≢ Tree.leaf x
not_watching x u es t h e =
    let it : watches t (equation (Tree.leaf x) u ∷ es) ≡ true = rw e (eq-eqb x x refl) in true≢false (sym it ∙ h)

or_false : (a b : Bool) → (a || b) ≡ false → (a ≡ false) × (b ≡ false)
or_false true b h = cc
or_false false b h = (refl, h)

stays_apart : (older : Pairs) (added : List (Tm × Tm)) (new : Pairs) → AddedTo older added new → (x : ℕ) (u : Tm) (es : List Equation) →
    is_woken added (equation (Tree.leaf x) u ∷ es) ≡ false → bound_to x older ≡ None → walk older u ≢ Tree.leaf x → is_apart new (Tree.leaf x) u ≡ true
stays_apart older [] new put x u es asleep none apart = subst (λ b. is_apart b (Tree.leaf x) u ≡ true) (sym put) (apart_both older x u none apart)
stays_apart older (p ∷ more) new (y, same, free, walks, put) x u es asleep none apart =
    let (here, rest) = or_false (watches p.0 (equation (Tree.leaf x) u ∷ es) || watches p.1 (equation (Tree.leaf x) u ∷ es)) (is_woken more (equation (Tree.leaf x) u ∷ es)) asleep in
    let (not_left, not_right) = or_false (watches p.0 (equation (Tree.leaf x) u ∷ es)) (watches p.1 (equation (Tree.leaf x) u ∷ es)) here in
    let other : x ≢ y = λ e. not_watching x u es p.0 not_left (same ∙ ap Tree.leaf (sym e)) in
    let (none', apart') = stays_apart_once older y p.1 walks x u other (not_watching x u es p.1 not_right) none apart in
    stays_apart ((y, p.1) ∷ older) more new put x u es rest none' apart'

stays_by : (older : Pairs) (added : List (Tm × Tm)) (new : Pairs) → AddedTo older added new → (a u : Tm) (es : List Equation) →
    is_woken added (equation a u ∷ es) ≡ false → is_apart older a u ≡ true → is_apart new a u ≡ true
stays_by older added new put (Tree.leaf x) u es asleep h = let (none, apart) = apart_parts older x u h in stays_apart older added new put x u es asleep none apart
stays_by older added new put (Tree.sym s) u es asleep h = cc
stays_by older added new put (Tree.str s) u es asleep h = cc
stays_by older added new put (Tree.num n) u es asleep h = cc
stays_by older added new put (Tree.truth b) u es asleep h = cc
stays_by older added new put Tree.nil u es asleep h = cc
stays_by older added new put (Tree.pair a b) u es asleep h = cc

-- a disequality that no added pair wakes stays watchable
pub stays_watchable : (older : Pairs) (added : List (Tm × Tm)) (new : Pairs) → AddedTo older added new → (es : Disequality) →
    is_watchable older es ≡ true → (is_woken added es || is_watchable new es) ≡ true
stays_watchable older added new put [] h = cc
stays_watchable older added new put (e ∷ es) h = by (is_woken added (e ∷ es)) refl
  where
    by : (c : Bool) → is_woken added (e ∷ es) ≡ c → (c || is_watchable new (e ∷ es)) ≡ true
    by true asleep = refl
    by false asleep = stays_by older added new put e.left e.right es asleep h

-- unification adds nothing exactly where the sides are the same
pub adds_none : (bound : Pairs) → Grown bound → (es : List Equation) → Unifying bound es (Some []) → is_identical bound es ≡ true
adds_none bound g es d =
    let (new, put, gn, exact) = unifying_makes ℕ bound es (Some []) d g in
    unifies_identical bound es ((exact (ends bound)).0 (subst (IsSolution (ends bound)) (sym put) (full_solves bound g))).1

-- and then none that adds something or nothing at all
pub adds_some : (bound : Pairs) → Grown bound → (es : List Equation) (p : Tm × Tm) (more : List (Tm × Tm)) → HasNoCycle bound → Unifying bound es (Some (p ∷ more)) → is_identical bound es ≡ false
adds_some bound g es p more h d = false_from_ne_true (is_identical bound es) (λ same.
    let unified : Unifies (ends bound) (added_equations (p ∷ more)) = ((added_solve ℕ).0 bound es (p ∷ more) h d (ends bound) (full_solves bound g)).0 (identical_unifies bound es same) in
    true≢false (sym (unifies_identical bound (added_equations (p ∷ more)) unified) ∙ watchable_differs_grown bound g (added_equations (p ∷ more)) (added_watchable bound g es p more d)))

pub adds_never : (bound : Pairs) → Grown bound → (es : List Equation) → HasNoCycle bound → Unifying bound es None → is_identical bound es ≡ false
adds_never bound g es h d = false_from_ne_true (is_identical bound es) (λ same. (added_solve ℕ).1 bound es h d (ends bound) (full_solves bound g) (identical_unifies bound es same))
