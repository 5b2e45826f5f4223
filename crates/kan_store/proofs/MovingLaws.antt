-- The steps of moving what stands on bound variables.
use Rattle.std.proofs.Common.{◌≡◌, ℕ, zero, suc, ◌+◌, ◌<◌, Bool, true, false, List, [], ◌∷◌, map, drop, length, Option, Some, None, sym, ap, subst, refl, ◌∙◌, arith}
use Rattle.std.proofs.Math.Seq.{drop-cons}
use Rattle.std.specs.Prelude.{slice_index_or, if◌then◌else◌}
use Rattle.std.specs.List.{list_all}
use Rattle.std.proofs.lemmas.Bool.{and_parts, true≢false}
use Rattle.kan_terms.specs.Tree.{Tree, Tm, occurs}
use Rattle.kan_terms.specs.Terms.{tree, sides}
use Rattle.kan_terms.specs.declared.terms.Term.{Term}
use Rattle.kan_terms.specs.declared.terms.Term.TheVariants.{Var, Sym, Str, Num, Large, Truth, Nil, Pair}
use Rattle.kan_terms.specs.declared.terms.TermPair.{TermPair}
use Rattle.unify_core.specs.Walking.{Pairs, walk, full}
use Rattle.type_absence.specs.Types.{Types, MovesTypes}
use Rattle.type_absence.specs.Absent.{TagsOf, GivesTags}
use Rattle.kan_store.specs.Moving.{TypesMove, TagsMove, binds_variable}

-- the pairs from an index on
left_pairs : (xs : List TermPair) (i : ℕ) (d : TermPair) → i < length xs → map sides (drop i xs) ≡ sides (slice_index_or xs i d) ∷ map sides (drop (i + 1) xs)
left_pairs xs i d low =
    let next : suc i ≡ i + 1 = omega arith in
    ap (map sides) (drop-cons xs i d low) ∙ ap (λ j. sides (slice_index_or xs i d) ∷ map sides (drop j xs)) next

all-drop : {X : Type 0} (p : X → Bool) (f : TermPair → X) (xs : List TermPair) (i : ℕ) → list_all p (map f xs) ≡ true → list_all p (map f (drop i xs)) ≡ true
all-drop p f xs zero h = h
all-drop p f [] (suc i) h = h
all-drop p f (x ∷ xs) (suc i) h = all-drop p f xs i (and_parts (p (f x)) (list_all p (map f xs)) h).1

no_variable : (t : Term) (u : Tm) → ((x : ℕ) → t ≡ Var x → ⊥) → binds_variable (tree t, u) ≡ false
no_variable (Var x) u other = absurd (other x refl)
no_variable (Sym s) u other = refl
no_variable (Str s) u other = refl
no_variable (Num n) u other = refl
no_variable (Large number) u other = refl
no_variable (Truth b) u other = refl
no_variable Nil u other = refl
no_variable (Pair parts) u other = refl

-- each pair binds a variable
pub never_other : (xs shown : List TermPair) (i : ℕ) (item : TermPair) → list_all binds_variable (map sides xs) ≡ true → shown ≡ xs → i < length shown → item ≡ slice_index_or shown i item →
    ((x : ℕ) → item.first ≡ Var x → ⊥) → ⊥
never_other xs shown i item binds same low is other =
    let all : list_all binds_variable (map sides (drop i shown)) ≡ true = all-drop binds_variable sides shown i (subst (λ ys. list_all binds_variable (map sides ys) ≡ true) (sym same) binds) in
    let first = (and_parts (binds_variable (sides (slice_index_or shown i item))) (list_all binds_variable (map sides (drop (i + 1) shown))) (subst (λ ys. list_all binds_variable ys ≡ true) (left_pairs shown i item low) all)).0 in
    true≢false (sym first ∙ ap (λ y. binds_variable (sides y)) (sym is) ∙ no_variable item.first (tree item.rest) other)

-- the pairs that are left, with the first one as its variable and term
next_pairs : (xs shown : List TermPair) (i : ℕ) (item : TermPair) (x : ℕ) → shown ≡ xs → i < length shown → item ≡ slice_index_or shown i item → item.first ≡ Var x →
    (Tree.leaf x, tree item.rest) ∷ map sides (drop (i + 1) xs) ≡ map sides (drop i xs)
next_pairs xs shown i item x same low is var =
    ap (λ t. (t, tree item.rest) ∷ map sides (drop (i + 1) xs)) (sym (ap tree var))
    ∙ ap (λ y. sides y ∷ map sides (drop (i + 1) xs)) is ∙ ap (λ ys. sides (slice_index_or shown i item) ∷ map sides (drop (i + 1) ys)) (sym same)
    ∙ sym (left_pairs shown i item low) ∙ ap (λ ys. map sides (drop i ys)) same

-- nothing is left past the end
pub none_left : {X : Type 0} (xs : List X) (i : ℕ) → (i < length xs → ⊥) → drop i xs ≡ []
none_left [] zero past = refl
none_left [] (suc i) past = refl
none_left (x ∷ xs) zero past = absurd (past (omega arith))
none_left (x ∷ xs) (suc i) past = none_left xs i (λ low. past (omega (arith, low)))

-- all pairs are moved
pub all_left : (xs shown : List TermPair) (i : ℕ) → shown ≡ xs → (i < length shown → ⊥) → [] ≡ map sides (drop i xs)
all_left xs shown i same past = ap (map sides) (sym (none_left shown i past)) ∙ ap (λ ys. map sides (drop i ys)) same

module _ (bound : Pairs) (xs shown : List TermPair) (i : ℕ) (item : TermPair) (x : ℕ) (same : shown ≡ xs) (low : i < length shown) (is : item ≡ slice_index_or shown i item) (var : item.first ≡ Var x) where
  pub types_go_on : (old mid : Types) (r : Option Types) → MovesTypes old (old x) (walk bound (tree item.rest)) (Some mid) → TypesMove bound mid (map sides (drop (i + 1) xs)) r → TypesMove bound old (map sides (drop i xs)) r
  types_go_on old mid r one d = subst (λ ps. TypesMove bound old ps r) (next_pairs xs shown i item x same low is var) (TypesMove.moved_one one d)

  pub types_end : (old : Types) → MovesTypes old (old x) (walk bound (tree item.rest)) None → TypesMove bound old (map sides (drop i xs)) None
  types_end old one = subst (λ ps. TypesMove bound old ps None) (next_pairs xs shown i item x same low is var) (TypesMove.not_moved one)

  pub tags_go_on : (old mid : TagsOf) (r : Option TagsOf) → GivesTags old (old x) (full bound (tree item.rest)) (Some mid) → TagsMove bound mid (map sides (drop (i + 1) xs)) r → TagsMove bound old (map sides (drop i xs)) r
  tags_go_on old mid r one d = subst (λ ps. TagsMove bound old ps r) (next_pairs xs shown i item x same low is var) (TagsMove.moved_one one d)

  pub tags_end : (old : TagsOf) → GivesTags old (old x) (full bound (tree item.rest)) None → TagsMove bound old (map sides (drop i xs)) None
  tags_end old one = subst (λ ps. TagsMove bound old ps None) (next_pairs xs shown i item x same low is var) (TagsMove.not_moved one)

pub types_done : (bound : Pairs) (xs shown : List TermPair) (i : ℕ) (old : Types) → shown ≡ xs → (i < length shown → ⊥) → TypesMove bound old (map sides (drop i xs)) (Some old)
types_done bound xs shown i old same past = subst (λ ps. TypesMove bound old ps (Some old)) (all_left xs shown i same past) (TypesMove.all_moved (λ v. refl))

pub tags_done : (bound : Pairs) (xs shown : List TermPair) (i : ℕ) (old : TagsOf) → shown ≡ xs → (i < length shown → ⊥) → TagsMove bound old (map sides (drop i xs)) (Some old)
tags_done bound xs shown i old same past = subst (λ ps. TagsMove bound old ps (Some old)) (all_left xs shown i same past) (TagsMove.all_moved (λ v. refl))

-- where no variable has a type, nothing moves
module _ (bound : Pairs) (old : Types) (none : (v : ℕ) → old v ≡ None) where
  pub types_stay : (ps : List (Tm × Tm)) → list_all binds_variable ps ≡ true → TypesMove bound old ps (Some old)
  types_stay [] h = TypesMove.all_moved (λ v. refl)
  types_stay ((Tree.leaf x, t) ∷ ps) h =
      TypesMove.moved_one (subst (λ o. MovesTypes old o (walk bound t) (Some old)) (sym (none x)) (λ v. refl))
      (types_stay ps (and_parts (binds_variable (Tree.leaf x, t)) (list_all binds_variable ps) h).1)
  types_stay ((Tree.sym s, t) ∷ ps) h = absurd (true≢false (sym (and_parts (binds_variable (Tree.sym s, t)) (list_all binds_variable ps) h).0))
  types_stay ((Tree.str s, t) ∷ ps) h = absurd (true≢false (sym (and_parts (binds_variable (Tree.str s, t)) (list_all binds_variable ps) h).0))
  types_stay ((Tree.num n, t) ∷ ps) h = absurd (true≢false (sym (and_parts (binds_variable (Tree.num n, t)) (list_all binds_variable ps) h).0))
  types_stay ((Tree.truth b, t) ∷ ps) h = absurd (true≢false (sym (and_parts (binds_variable (Tree.truth b, t)) (list_all binds_variable ps) h).0))
  types_stay ((Tree.nil, t) ∷ ps) h = absurd (true≢false (sym (and_parts (binds_variable (Tree.nil, t)) (list_all binds_variable ps) h).0))
  types_stay ((Tree.pair a b, t) ∷ ps) h = absurd (true≢false (sym (and_parts (binds_variable (Tree.pair a b, t)) (list_all binds_variable ps) h).0))

if_same : {A : Type 0} (b : Bool) (x : A) → x ≡ (if b then x else x)
if_same true x = refl
if_same false x = refl

-- where no variable has a tag, nothing moves
module _ (bound : Pairs) (old : TagsOf) (none : (v : ℕ) → old v ≡ []) where
  pub tags_stay : (ps : List (Tm × Tm)) → list_all binds_variable ps ≡ true → TagsMove bound old ps (Some old)
  tags_stay [] h = TagsMove.all_moved (λ v. refl)
  tags_stay ((Tree.leaf x, t) ∷ ps) h =
      TagsMove.moved_one (subst (λ o. GivesTags old o (full bound t) (Some old)) (sym (none x)) (refl, λ v. if_same (occurs v (full bound t)) (old v)))
      (tags_stay ps (and_parts (binds_variable (Tree.leaf x, t)) (list_all binds_variable ps) h).1)
  tags_stay ((Tree.sym s, t) ∷ ps) h = absurd (true≢false (sym (and_parts (binds_variable (Tree.sym s, t)) (list_all binds_variable ps) h).0))
  tags_stay ((Tree.str s, t) ∷ ps) h = absurd (true≢false (sym (and_parts (binds_variable (Tree.str s, t)) (list_all binds_variable ps) h).0))
  tags_stay ((Tree.num n, t) ∷ ps) h = absurd (true≢false (sym (and_parts (binds_variable (Tree.num n, t)) (list_all binds_variable ps) h).0))
  tags_stay ((Tree.truth b, t) ∷ ps) h = absurd (true≢false (sym (and_parts (binds_variable (Tree.truth b, t)) (list_all binds_variable ps) h).0))
  tags_stay ((Tree.nil, t) ∷ ps) h = absurd (true≢false (sym (and_parts (binds_variable (Tree.nil, t)) (list_all binds_variable ps) h).0))
  tags_stay ((Tree.pair a b, t) ∷ ps) h = absurd (true≢false (sym (and_parts (binds_variable (Tree.pair a b, t)) (list_all binds_variable ps) h).0))
