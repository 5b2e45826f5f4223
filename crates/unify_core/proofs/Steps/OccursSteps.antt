-- The steps of looking for a variable.
use Rattle.std.proofs.Common.{◌≡◌, ◌≢◌, ℕ, ◌+◌, ◌<◌, Bool, true, false, ◌||◌, List, [], ◌∷◌, ◌++◌, sym, ap, refl, ◌∙◌, arith}
use Rattle.std.specs.Prelude.{Option, Some, None, is_some, if◌then◌else◌}
use Rattle.std.specs.Borrow.{Bor}
use Rattle.kan_terms.specs.Greatest.{greatest_in}
use Rattle.kan_terms.specs.Tree.{Tree, Tm, occurs, size}
use Rattle.kan_terms.specs.Terms.{tree}
use Rattle.kan_terms.specs.declared.terms.Term.{Term}
use Rattle.kan_terms.proofs.TreeLaws.{size-positive}
use Rattle.kan_terms.proofs.WaitingLaws.{waiting-push}
use Rattle.kan_model.specs.Stores.Kept.{is_variable}
use Rattle.unify_core.specs.Walking.{Pairs, walk, full}
use Rattle.unify_core.specs.Cycles.{HasNoCycle}
use Rattle.unify_core.specs.LentBindings.{parts_unless_ground}
use Rattle.kan_terms.specs.Waiting.{waiting_trees, parts_of}
use Rattle.unify_core.proofs.GrowthLaws.{ends-unbound}
use Rattle.unify_core.proofs.CycleLaws.{grown}
use Rattle.unify_core.proofs.WalkLaws.{full-walk, walk-end}
use Rattle.unify_core.proofs.NewLaws.{none_in_full}

pub parts_with_variables : (t : Tm) (o : Option ℕ) → o ≡ greatest_in t → o ≢ None → parts_unless_ground t ≡ parts_of t
parts_with_variables t None greatest some = absurd (some refl)
parts_with_variables t (Some g) greatest some = ap (λ o. if is_some o then parts_of t else []) (sym greatest)

-- a variable stands in the full value of one of some terms
abbrev pub stands_in : Pairs → ℕ → List Tm → Bool
stands_in bound x [] = false
stands_in bound x (t ∷ ts) = occurs x (full bound t) || stands_in bound x ts

-- the nodes of the full values of some terms
abbrev pub nodes : Pairs → List Tm → ℕ
nodes bound [] = 0
nodes bound (t ∷ ts) = size (full bound t) + nodes bound ts

or_assoc : (a b c : Bool) → ((a || b) || c) ≡ (a || (b || c))
or_assoc true b c = refl
or_assoc false b c = refl

-- the variable that was walked to is the one looked for
found_here : (bound : Pairs) → HasNoCycle bound → (x : ℕ) (t w : Tm) → w ≡ walk bound t → is_variable x w ≡ true → occurs x (full bound t) ≡ true
found_here bound h x t (Tree.leaf y) reached e =
    ap (occurs x) (sym (full-walk bound (grown bound h) t) ∙ ap (full bound) (sym reached) ∙ ends-unbound bound y (walk-end bound (grown bound h) t y (sym reached))) ∙ e
found_here bound h x t (Tree.sym s) reached e = cc
found_here bound h x t (Tree.str s) reached e = cc
found_here bound h x t (Tree.num n) reached e = cc
found_here bound h x t (Tree.truth b) reached e = cc
found_here bound h x t Tree.nil reached e = cc
found_here bound h x t (Tree.pair a b) reached e = cc

-- else it is looked for in the parts
in_parts : (bound : Pairs) → HasNoCycle bound → (x : ℕ) (t w : Tm) (ts : List Tm) → w ≡ walk bound t → is_variable x w ≡ false → stands_in bound x (parts_unless_ground w ++ ts) ≡ stands_in bound x (t ∷ ts)
in_parts bound h x t w ts reached e = by w (λ y same. ends-unbound bound y (walk-end bound (grown bound h) t y (sym reached ∙ same))) e ∙ ap (λ u. occurs x u || stands_in bound x ts) whole
  where
    whole : full bound w ≡ full bound t
    whole = ap (full bound) reached ∙ full-walk bound (grown bound h) t

    pair : (a b : Tm) (o : Option ℕ) → greatest_in (Tree.pair a b) ≡ o →
        stands_in bound x ((if is_some o then a ∷ b ∷ [] else []) ++ ts) ≡ ((occurs x (full bound a) || occurs x (full bound b)) || stands_in bound x ts)
    pair a b None none = sym (ap (λ c. c || stands_in bound x ts) (none_in_full bound x (Tree.pair a b) none))
    pair a b (Some g) some = sym (or_assoc (occurs x (full bound a)) (occurs x (full bound b)) (stands_in bound x ts))

    by : (w : Tm) → ((y : ℕ) → w ≡ Tree.leaf y → full bound (Tree.leaf y) ≡ Tree.leaf y) → is_variable x w ≡ false → stands_in bound x (parts_unless_ground w ++ ts) ≡ (occurs x (full bound w) || stands_in bound x ts)
    by (Tree.leaf y) own e = sym (ap (λ c. c || stands_in bound x ts) (ap (occurs x) (own y refl) ∙ e))
    by (Tree.sym s) own e = refl
    by (Tree.str s) own e = refl
    by (Tree.num n) own e = refl
    by (Tree.truth b) own e = refl
    by Tree.nil own e = refl
    by (Tree.pair a b) own e = pair a b (greatest_in (Tree.pair a b)) refl

-- fewer nodes wait
fewer_nodes : (bound : Pairs) → HasNoCycle bound → (t w : Tm) (ts : List Tm) → w ≡ walk bound t → nodes bound (parts_unless_ground w ++ ts) < nodes bound (t ∷ ts)
fewer_nodes bound h t w ts reached = by w whole
  where
    whole : size (full bound w) ≡ size (full bound t)
    whole = ap size (ap (full bound) reached ∙ full-walk bound (grown bound h) t)

    pair : (a b : Tm) (o : Option ℕ) → 1 + size (full bound a) + size (full bound b) ≡ size (full bound t) → nodes bound ((if is_some o then a ∷ b ∷ [] else []) ++ ts) < nodes bound (t ∷ ts)
    pair a b None same = omega (arith, same)
    pair a b (Some g) same = omega (arith, same)

    by : (w : Tm) → size (full bound w) ≡ size (full bound t) → nodes bound (parts_unless_ground w ++ ts) < nodes bound (t ∷ ts)
    by (Tree.leaf y) same = omega (arith, size-positive (full bound t))
    by (Tree.sym s) same = omega (arith, same)
    by (Tree.str s) same = omega (arith, same)
    by (Tree.num n) same = omega (arith, same)
    by (Tree.truth b) same = omega (arith, same)
    by Tree.nil same = omega (arith, same)
    by (Tree.pair a b) same = pair a b (greatest_in (Tree.pair a b)) same

-- one turn of the loop: the top is taken, and its parts wait
pub turn_finds : (bound : Pairs) → HasNoCycle bound → (x : ℕ) (old rest : List (Bor Term)) (t : Bor Term) (w : Tm) (whole : Bool) →
    old ≡ rest ++ t ∷ [] → w ≡ walk bound (tree t.now) → is_variable x w ≡ true → stands_in bound x (waiting_trees old) ≡ whole → true ≡ whole
turn_finds bound h x old rest t w whole split reached e kept =
    sym (ap (λ c. c || stands_in bound x (waiting_trees rest)) (found_here bound h x (tree t.now) w reached e))
    ∙ ap (stands_in bound x) (sym (waiting-push rest t)) ∙ ap (λ ts. stands_in bound x (waiting_trees ts)) (sym split) ∙ kept

pub turn_keeps : (bound : Pairs) → HasNoCycle bound → (x : ℕ) (old rest new : List (Bor Term)) (t : Bor Term) (w : Tm) (whole : Bool) →
    old ≡ rest ++ t ∷ [] → w ≡ walk bound (tree t.now) → is_variable x w ≡ false → waiting_trees new ≡ parts_unless_ground w ++ waiting_trees rest →
    stands_in bound x (waiting_trees old) ≡ whole → stands_in bound x (waiting_trees new) ≡ whole
turn_keeps bound h x old rest new t w whole split reached e parts kept =
    ap (stands_in bound x) parts ∙ in_parts bound h x (tree t.now) w (waiting_trees rest) reached e
    ∙ ap (stands_in bound x) (sym (waiting-push rest t)) ∙ ap (λ ts. stands_in bound x (waiting_trees ts)) (sym split) ∙ kept

pub turn_falls : (bound : Pairs) → HasNoCycle bound → (old rest new : List (Bor Term)) (t : Bor Term) (w : Tm) →
    old ≡ rest ++ t ∷ [] → w ≡ walk bound (tree t.now) → waiting_trees new ≡ parts_unless_ground w ++ waiting_trees rest → nodes bound (waiting_trees new) < nodes bound (waiting_trees old)
turn_falls bound h old rest new t w split reached parts =
    let before : nodes bound (waiting_trees old) ≡ nodes bound (tree t.now ∷ waiting_trees rest) = ap (nodes bound) (ap waiting_trees split ∙ waiting-push rest t) in
    omega (arith, fewer_nodes bound h (tree t.now) w (waiting_trees rest) reached, ap (nodes bound) parts, before)

-- nothing more stands in a term
or_nothing : (a : Bool) → (a || false) ≡ a
or_nothing true = refl
or_nothing false = refl

-- the first turn looks at the term itself
pub first_finds : (bound : Pairs) → HasNoCycle bound → (x : ℕ) (t : Tm) (found : Bool) → found ≡ is_variable x (walk bound t) → found ≡ true → true ≡ occurs x (full bound t)
first_finds bound h x t found is e = sym (found_here bound h x t (walk bound t) refl (sym is ∙ e))

pub first_keeps : (bound : Pairs) → HasNoCycle bound → (x : ℕ) (t : Tm) (found : Bool) (none new : List (Bor Term)) → none ≡ [] → found ≡ is_variable x (walk bound t) →
    (found ≡ false → waiting_trees new ≡ parts_unless_ground (walk bound t) ++ waiting_trees none) → found ≡ false → stands_in bound x (waiting_trees new) ≡ occurs x (full bound t)
first_keeps bound h x t found none new nothing is parts e =
    ap (stands_in bound x) (parts e) ∙ in_parts bound h x t (walk bound t) (waiting_trees none) refl (sym is ∙ e)
    ∙ ap (λ ts. occurs x (full bound t) || stands_in bound x (waiting_trees ts)) nothing ∙ or_nothing (occurs x (full bound t))
