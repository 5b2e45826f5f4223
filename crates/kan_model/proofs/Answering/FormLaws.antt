-- A solved form over named variables is a disequality in form, and different forms give different ones.
use Rattle.std.proofs.Common.{◌≡◌, ℕ, ◌<◌, ◌≤◌, Bool, true, false, ◌&&◌, not, eqb, nat_lt, List, [], ◌∷◌, map, length, sym, ap, ap₂, subst, refl, arith, ◌∙◌, if◌then◌else◌}
use Rattle.std.specs.List.{list_all}
use Rattle.std.proofs.lemmas.Bool.{and_from, and_parts, eq-eqb, eqb-true, eqb-false, lt-ltb, le-ltb, ltb-true, ltb-false, both_ways, false_from_ne_true, not_from_false, not-true, not-false}
use Rattle.std.proofs.lemmas.List.Folds.{list_all-append}
use Rattle.kan_terms.specs.Tree.{Tree, Tm, leaves, occurs, term_eq}
use Rattle.kan_terms.proofs.TreeLaws.{occurs-fill, term_eq-true, eq-term_eq}
use Rattle.kan_model.specs.Answers.Order.{in_order, put_in_order, place_of, stands_in}
use Rattle.kan_model.specs.Stores.Solve.{Replaced, Replacement}
use Rattle.kan_model.specs.Answers.Answer.{NamedPair, in_names, in_rank, rank, ranks_lower, all_named, same_pair, same_form, form_in_names}
use Rattle.kan_model.specs.Programs.Scope.{all_below}
use Rattle.kan_model.specs.Answers.InForm.{ascends, replaces_lower, pair_in_form, is_replaced, name_before, is_filled, difference_in_form, equal_pairs}
use Rattle.kan_model.proofs.ListLaws.{Each-like, Each-both, Each-map, Each-in_order, EachTwo-in_order, list_all-from_Each, Each-from_list_all, ascends-in_order, ascends_strictly, ascends-map}
use Rattle.kan_model.specs.Each.{Each}
use Rattle.kan_model.proofs.Answering.NameLaws.{place_below, place_of-one, all_below-in_names}
use Rattle.kan_model.proofs.Answering.SolvedForms.{rank-one, Rises, Rising, Once}

pub and_three : (a b c : Bool) → a ≡ true → b ≡ true → c ≡ true → (a && b && c) ≡ true
and_three a b c h k l = and_from (a && b) c (and_from a b h k) l

-- a pair over named variables
abbrev pub PairNamed : List ℕ → Replaced → Type 0
PairNamed vs p = (stands_in vs p.var ≡ true) × (list_all (stands_in vs) (leaves p.by) ≡ true)

abbrev pub Named : List ℕ → Replacement → Type 0
Named vs = Each (PairNamed vs)

pub Named-from_test : (vs : List ℕ) (f : Replacement) → all_named vs f ≡ true → Named vs f
Named-from_test vs f h =
    Each-like (λ p. (stands_in vs p.var && list_all (stands_in vs) (leaves p.by)) ≡ true) (PairNamed vs) (λ p e. and_parts (stands_in vs p.var) (list_all (stands_in vs) (leaves p.by)) e) f
    (Each-from_list_all (λ p. stands_in vs p.var && list_all (stands_in vs) (leaves p.by)) f h)

-- the rank of a named variable is its place
rank-place : (vs : List ℕ) (v : ℕ) → stands_in vs v ≡ true → rank vs v ≡ place_of vs v
rank-place vs v h = rw h refl

-- a variable that isn't in a term has a name that isn't in the term's
name_not_inside : (vs : List ℕ) (x : ℕ) (t : Tm) → stands_in vs x ≡ true → occurs x t ≡ false → occurs (place_of vs x) (in_names vs t) ≡ false
name_not_inside vs x t named out = false_from_ne_true (occurs (place_of vs x) (in_names vs t)) (λ h. by (occurs-fill (place_of vs x) (λ v. Tree.leaf (place_of vs v)) t h))
  where
    by : (y : ℕ) × (occurs y t ≡ true) × (eqb (place_of vs x) (place_of vs y) ≡ true) → ⊥
    by (y, inside, same) = both_ways (occurs x t) out (subst (λ w. occurs w t ≡ true) (sym (place_of-one vs x y named (eqb-true (place_of vs x) (place_of vs y) same))) inside)

-- terms over named variables that are named alike are the same
in_names-one : (vs : List ℕ) (a b : Tm) → list_all (stands_in vs) (leaves a) ≡ true → list_all (stands_in vs) (leaves b) ≡ true → in_names vs a ≡ in_names vs b → a ≡ b
in_names-one vs (Tree.leaf v) (Tree.leaf w) h k e = ap Tree.leaf (place_of-one vs v w (and_parts (stands_in vs v) true h).0 (cc))
in_names-one vs (Tree.sym s) (Tree.sym r) h k e = cc
in_names-one vs (Tree.str s) (Tree.str r) h k e = cc
in_names-one vs (Tree.num m) (Tree.num n) h k e = cc
in_names-one vs (Tree.truth m) (Tree.truth n) h k e = cc
in_names-one vs Tree.nil Tree.nil h k e = refl
in_names-one vs (Tree.pair a b) (Tree.pair c d) h k e =
    let (ha, hb) = and_parts (list_all (stands_in vs) (leaves a)) (list_all (stands_in vs) (leaves b)) (sym (list_all-append (stands_in vs) (leaves a) (leaves b)) ∙ h) in
    let (hc, hd) = and_parts (list_all (stands_in vs) (leaves c)) (list_all (stands_in vs) (leaves d)) (sym (list_all-append (stands_in vs) (leaves c) (leaves d)) ∙ k) in
    ap₂ Tree.pair (in_names-one vs a c ha hc (cc)) (in_names-one vs b d hb hd (cc))
in_names-one vs a b h k e = cc

abbrev named_pair : List ℕ → Replaced → NamedPair
named_pair vs p = record { name = place_of vs p.var; by = in_names vs p.by }

-- a rising pair over named variables is in form
lower_in_names : (vs : List ℕ) (x : ℕ) (t : Tm) → stands_in vs x ≡ true → list_all (stands_in vs) (leaves t) ≡ true → Rises (rank vs) x t → replaces_lower (place_of vs x) (in_names vs t) ≡ true
lower_in_names vs x (Tree.leaf w) named all rises =
    let inside = (and_parts (stands_in vs w) true all).0 in
    lt-ltb (place_of vs x) (place_of vs w) (rw (rank-place vs x named, rank-place vs w inside) at (rises w refl))
lower_in_names vs x (Tree.sym s) named all rises = refl
lower_in_names vs x (Tree.str s) named all rises = refl
lower_in_names vs x (Tree.num n) named all rises = refl
lower_in_names vs x (Tree.truth b) named all rises = refl
lower_in_names vs x Tree.nil named all rises = refl
lower_in_names vs x (Tree.pair a b) named all rises = refl

pair_formed : (vs : List ℕ) (p : Replaced) → PairNamed vs p → Rises (rank vs) p.var p.by → pair_in_form (length vs) (named_pair vs p) ≡ true
pair_formed vs p (named, all) rises =
    and_three (nat_lt (place_of vs p.var) (length vs)) (all_below (length vs) (in_names vs p.by)) (replaces_lower (place_of vs p.var) (in_names vs p.by))
    (lt-ltb (place_of vs p.var) (length vs) (place_below vs p.var named)) (all_below-in_names vs p.by all) (lower_in_names vs p.var p.by named all rises)

filled_put : (le : Replaced → Replaced → Bool) (x : Replaced) (xs : Replacement) → is_filled (put_in_order le x xs) ≡ true
filled_put le x [] = refl
filled_put le x (y ∷ ys) = by (le x y)
  where
    by : (c : Bool) → is_filled (if c then x ∷ y ∷ ys else y ∷ put_in_order le x ys) ≡ true
    by true = refl
    by false = refl

filled_in_order : (le : Replaced → Replaced → Bool) (xs : Replacement) → is_filled xs ≡ true → is_filled (in_order le xs) ≡ true
filled_in_order le [] h = h
filled_in_order le (x ∷ xs) h = filled_put le x (in_order le xs)

filled_map : {X Y : Type 0} (f : X → Y) (xs : List X) → is_filled xs ≡ true → is_filled (map f xs) ≡ true
filled_map f [] h = h
filled_map f (x ∷ xs) h = refl

-- what a solved form is
abbrev pub IsSolved : List ℕ → Replacement → Type 0
IsSolved vs s = Rising (rank vs) s × Once s × Each (λ p. Each (λ q. occurs p.var q.by ≡ false) s) s

abbrev not_behind : List ℕ → Replaced → Replaced → Bool
not_behind vs p q = not (ranks_lower vs q.var p.var)

module _ (vs : List ℕ) (s : Replacement) (filled : is_filled s ≡ true) (named : Named vs s) (solved : IsSolved vs s) where
  abbrev form : Replacement
  form = in_rank vs s

  named_form : Named vs form
  named_form = Each-in_order (PairNamed vs) (not_behind vs) s named

  rising_form : Rising (rank vs) form
  rising_form = Each-in_order (λ p. Rises (rank vs) p.var p.by) (not_behind vs) s solved.0

  gone_form : Each (λ p. Each (λ q. occurs p.var q.by ≡ false) form) form
  gone_form =
      Each-in_order (λ p. Each (λ q. occurs p.var q.by ≡ false) form) (not_behind vs) s
      (Each-like (λ p. Each (λ q. occurs p.var q.by ≡ false) s) (λ p. Each (λ q. occurs p.var q.by ≡ false) form) (λ p h. Each-in_order (λ q. occurs p.var q.by ≡ false) (not_behind vs) s h) s solved.2)

  abbrev lower : Replaced → Replaced → Bool
  lower p q = nat_lt (rank vs p.var) (rank vs q.var)

  total : (p q : Replaced) → not_behind vs p q ≡ false → not_behind vs q p ≡ true
  total p q h = not_from_false (lower p q) (turn (rank vs q.var) (rank vs p.var) (not-false (lower q p) h))
    where
      turn : (a b : ℕ) → nat_lt a b ≡ true → nat_lt b a ≡ false
      turn a b l = le-ltb b a (omega (arith, ltb-true a b l))

  strictly : (p q : Replaced) → eqb p.var q.var ≡ false → not_behind vs p q ≡ true → lower p q ≡ true
  strictly p q other h =
      lt-ltb (rank vs p.var) (rank vs q.var) (below (rank vs p.var) (rank vs q.var) (ltb-false (rank vs q.var) (rank vs p.var) (not-true (lower q p) h)) (λ e. eqb-false p.var q.var other (rank-one vs p.var q.var e)))
    where
      below : (a b : ℕ) → a ≤ b → (a ≡ b → ⊥) → a < b
      below a b l n = omega arith

  turned : (p q : Replaced) → eqb p.var q.var ≡ false → eqb q.var p.var ≡ false
  turned p q h = false_from_ne_true (eqb q.var p.var) (λ e. eqb-false p.var q.var h (sym (eqb-true q.var p.var e)))

  ascending : ascends lower form ≡ true
  ascending =
      ascends_strictly (not_behind vs) lower (λ p q. eqb p.var q.var ≡ false) strictly form
      (EachTwo-in_order (λ p q. eqb p.var q.var ≡ false) turned (not_behind vs) s solved.1) (ascends-in_order (not_behind vs) total s)

  names_ascending : ascends name_before (form_in_names vs form) ≡ true
  names_ascending =
      ascends-map name_before lower (named_pair vs) (PairNamed vs)
      (λ p q (a, _) (b, _) l. lt-ltb (place_of vs p.var) (place_of vs q.var) (rw (rank-place vs p.var a, rank-place vs q.var b) at (ltb-true (rank vs p.var) (rank vs q.var) l)))
      form named_form ascending

  pairs_formed : list_all (pair_in_form (length vs)) (form_in_names vs form) ≡ true
  pairs_formed =
      list_all-from_Each (pair_in_form (length vs)) (form_in_names vs form)
      (Each-map (λ n. pair_in_form (length vs) n ≡ true) (named_pair vs) form
      (Each-like (λ p. PairNamed vs p × Rises (rank vs) p.var p.by) (λ p. pair_in_form (length vs) (named_pair vs p) ≡ true) (λ p (n, r). pair_formed vs p n r) form
      (Each-both (PairNamed vs) (λ p. Rises (rank vs) p.var p.by) form named_form rising_form)))

  one_replaced : (p : Replaced) → PairNamed vs p → Each (λ q. occurs p.var q.by ≡ false) form → is_replaced (form_in_names vs form) (named_pair vs p) ≡ true
  one_replaced p (n, _) h =
      list_all-from_Each (λ r. not (occurs (place_of vs p.var) r.by)) (form_in_names vs form)
      (Each-map (λ r. not (occurs (place_of vs p.var) r.by) ≡ true) (named_pair vs) form
      (Each-like (λ q. occurs p.var q.by ≡ false) (λ q. not (occurs (place_of vs p.var) (in_names vs q.by)) ≡ true)
      (λ q out. not_from_false (occurs (place_of vs p.var) (in_names vs q.by)) (name_not_inside vs p.var q.by n out)) form h))

  all_replaced : list_all (is_replaced (form_in_names vs form)) (form_in_names vs form) ≡ true
  all_replaced =
      list_all-from_Each (is_replaced (form_in_names vs form)) (form_in_names vs form)
      (Each-map (λ r. is_replaced (form_in_names vs form) r ≡ true) (named_pair vs) form
      (Each-like (λ p. PairNamed vs p × Each (λ q. occurs p.var q.by ≡ false) form) (λ p. is_replaced (form_in_names vs form) (named_pair vs p) ≡ true) (λ p (n, h). one_replaced p n h) form
      (Each-both (PairNamed vs) (λ p. Each (λ q. occurs p.var q.by ≡ false) form) form named_form gone_form)))

  pub form_is_in_form : difference_in_form (length vs) (form_in_names vs form) ≡ true
  form_is_in_form =
      and_from (is_filled (form_in_names vs form) && list_all (pair_in_form (length vs)) (form_in_names vs form) && list_all (is_replaced (form_in_names vs form)) (form_in_names vs form))
      (ascends name_before (form_in_names vs form))
      (and_three (is_filled (form_in_names vs form)) (list_all (pair_in_form (length vs)) (form_in_names vs form)) (list_all (is_replaced (form_in_names vs form)) (form_in_names vs form))
      (filled_map (named_pair vs) form (filled_in_order (not_behind vs) s filled)) pairs_formed all_replaced)
      names_ascending

  pub form_is_named : Named vs form
  form_is_named = named_form

-- forms that are named alike are the same
pub form_in_names-one : (vs : List ℕ) (f g : Replacement) → Named vs f → Named vs g → form_in_names vs f ≡ form_in_names vs g → same_form f g ≡ true
form_in_names-one vs [] [] hf hg e = refl
form_in_names-one vs [] (q ∷ g) hf hg e = cc
form_in_names-one vs (p ∷ f) [] hf hg e = cc
form_in_names-one vs (p ∷ f) (q ∷ g) ((ph, pt), hf) ((qh, qt), hg) e =
    let first : named_pair vs p ≡ named_pair vs q = cc in
    let var : p.var ≡ q.var = place_of-one vs p.var q.var ph (ap (λ n. n.name) first) in
    let by : p.by ≡ q.by = in_names-one vs p.by q.by pt qt (ap (λ n. n.by) first) in
    and_from (same_pair p q) (same_form f g) (and_from (eqb p.var q.var) (term_eq p.by q.by) (eq-eqb p.var q.var var) (eq-term_eq p.by q.by by))
    (form_in_names-one vs f g hf hg (cc))

-- the test of pairs is exact
pub equal_pairs-same : (ps qs : List NamedPair) → equal_pairs ps qs ≡ true → ps ≡ qs
equal_pairs-same [] [] h = refl
equal_pairs-same [] (q ∷ qs) h = cc
equal_pairs-same (p ∷ ps) [] h = cc
equal_pairs-same (p ∷ ps) (q ∷ qs) h =
    let (first, last) = and_parts (eqb p.name q.name && term_eq p.by q.by) (equal_pairs ps qs) h in
    let (name, by) = and_parts (eqb p.name q.name) (term_eq p.by q.by) first in
    ap₂ (λ r rs. r ∷ rs) (same p q (eqb-true p.name q.name name) (term_eq-true p.by q.by by)) (equal_pairs-same ps qs last)
  where
    same : (p q : NamedPair) → p.name ≡ q.name → p.by ≡ q.by → p ≡ q
    same p q e f = λ i. record { name = e i; by = f i }
