-- A store with a solution is kept.
use Rattle.std.proofs.Common.{◌≡◌, ℕ, inl, inr, Bool, true, false, not, ◌&&◌, List, [], ◌∷◌, ◌++◌, Option, Some, None, refl, sym, ap, subst, ◌∙◌}
use Rattle.std.specs.List.{list_all}
use Rattle.std.proofs.lemmas.Bool.{and_parts, and_from, or_cases, eqb-true, true≢false}
use Rattle.std.proofs.lemmas.List.Folds.{list_all-append}
use Rattle.kan_terms.specs.Tree.{Tree, Tm, Gd, has_symbol, term_eq, ground_eq}
use Rattle.kan_terms.specs.Valuations.{value_at, value}
use Rattle.kan_terms.proofs.TreeLaws.{term_eq-true, Decides-ground_eq, fill-has_symbol}
use Rattle.kan_model.specs.Programs.Goals.{Primitive}
use Rattle.kan_model.specs.Stores.Store.{Store, equations, with_prim}
use Rattle.kan_model.specs.Stores.Solve.{Replacement, apply, left_first}
use Rattle.kan_model.specs.Stores.Unifiers.{Unifies, Factors}
use Rattle.kan_model.specs.Stores.Kept.{may_be, allows, is_variable, gives_type, has_type, lacks_type, gives_one_type, holds_under, holds_with, is_kept}
use Rattle.kan_model.specs.declared.prims.Kind.{Kind}
use Rattle.kan_model.specs.declared.prims.Kind.TheVariants.{Symbol, Number, Text}
use Rattle.kan_model.specs.Meaning.Holds.{is_symbol, is_number, is_string, holds_at}
use Rattle.kan_model.specs.Streams.Stream.{one, empty}
use Rattle.kan_model.proofs.Solving.UnifierLaws.{fill-apply, answer_most_general}
use Rattle.pull_bounds.specs.Finding.{SolvedIsKept, HoldingIsAdded}

-- the values of a common solution make the sides of all equations the same
pub values_unify : (us : List Gd) (ps : List (Primitive Tm)) → list_all (holds_at us) ps ≡ true → Unifies (value_at us) (equations ps)
values_unify us [] h = tt
values_unify us (Primitive.same a b ∷ ps) h =
    let (first, rest) = and_parts (ground_eq (value us a) (value us b)) (list_all (holds_at us) ps) h in
    ((Decides-ground_eq (value us a) (value us b)).0 first, values_unify us ps rest)
values_unify us (Primitive.differ a b ∷ ps) h = values_unify us ps (and_parts (holds_at us (Primitive.differ a b)) (list_all (holds_at us) ps) h).1
values_unify us (Primitive.symbol a ∷ ps) h = values_unify us ps (and_parts (holds_at us (Primitive.symbol a)) (list_all (holds_at us) ps) h).1
values_unify us (Primitive.number a ∷ ps) h = values_unify us ps (and_parts (holds_at us (Primitive.number a)) (list_all (holds_at us) ps) h).1
values_unify us (Primitive.text a ∷ ps) h = values_unify us ps (and_parts (holds_at us (Primitive.text a)) (list_all (holds_at us) ps) h).1
values_unify us (Primitive.absent tag a ∷ ps) h = values_unify us ps (and_parts (holds_at us (Primitive.absent tag a)) (list_all (holds_at us) ps) h).1

-- a ground term is of a type, and which type it is of
abbrev pub is_of : Kind → Gd → Bool
is_of Symbol = is_symbol
is_of Number = is_number
is_of Text = is_string

abbrev kind_of : Gd → Option Kind
kind_of (Tree.sym s) = Some Symbol
kind_of (Tree.num n) = Some Number
kind_of (Tree.str s) = Some Text
kind_of _ = None

is_of-kind : (kind : Kind) (u : Gd) → is_of kind u ≡ true → kind_of u ≡ Some kind
is_of-kind Symbol (Tree.sym s) h = refl
is_of-kind Number (Tree.num n) h = refl
is_of-kind Text (Tree.str s) h = refl
is_of-kind Symbol _ h = absurd (true≢false (sym h))
is_of-kind Number _ h = absurd (true≢false (sym h))
is_of-kind Text _ h = absurd (true≢false (sym h))

-- no value has two types
pub one_type : (kind other : Kind) (u : Gd) → is_of kind u ≡ true → is_of other u ≡ true → Some kind ≡ Some other
one_type kind other u h k = sym (is_of-kind kind u h) ∙ is_of-kind other u k

-- a term whose value has a type may have it
may_be-value : (kind : Kind) (us : List Gd) (t : Tm) → is_of kind (value us t) ≡ true → may_be kind t ≡ true
may_be-value Symbol us (Tree.leaf v) h = refl
may_be-value Symbol us (Tree.sym s) h = refl
may_be-value Symbol us t h = h
may_be-value Number us (Tree.leaf v) h = refl
may_be-value Number us (Tree.num n) h = refl
may_be-value Number us t h = h
may_be-value Text us (Tree.leaf v) h = refl
may_be-value Text us (Tree.str s) h = refl
may_be-value Text us t h = h

not_true : (b : Bool) → (b ≡ true → ⊥) → not b ≡ true
not_true true none = absurd (none refl)
not_true false none = refl

not_both : (b : Bool) → not b ≡ true → b ≡ true → ⊥
not_both true h k = true≢false (sym h)
not_both false h k = true≢false (sym k)

is_variable-true : (v : ℕ) (t : Tm) → is_variable v t ≡ true → t ≡ Tree.leaf v
is_variable-true v (Tree.leaf w) h = ap Tree.leaf (sym (eqb-true v w h))
is_variable-true v _ h = absurd (true≢false (sym h))

-- a solution whose values factor through an answer
module _ (us : List Gd) (s : Replacement) (factors : Factors (value_at us) s) where
  pub value-apply : (t : Tm) → value us (apply s t) ≡ value us t
  value-apply t = fill-apply (value_at us) s factors t

  of-answer : (kind : Kind) (t : Tm) → is_of kind (value us t) ≡ true → is_of kind (value us (apply s t)) ≡ true
  of-answer kind t h = subst (λ u. is_of kind u ≡ true) (sym (value-apply t)) h

  -- what holds of the values is allowed under the answer
  holds-allows : (p : Primitive Tm) → holds_at us p ≡ true → allows s p ≡ true
  holds-allows (Primitive.same a b) h = refl
  holds-allows (Primitive.differ a b) h =
      not_true (term_eq (apply s a) (apply s b)) (λ e. not_both (ground_eq (value us a) (value us b)) h
      ((Decides-ground_eq (value us a) (value us b)).1 (sym (value-apply a) ∙ ap (value us) (term_eq-true (apply s a) (apply s b) e) ∙ value-apply b)))
  holds-allows (Primitive.symbol a) h = may_be-value Symbol us (apply s a) (of-answer Symbol a h)
  holds-allows (Primitive.number a) h = may_be-value Number us (apply s a) (of-answer Number a h)
  holds-allows (Primitive.text a) h = may_be-value Text us (apply s a) (of-answer Text a h)
  holds-allows (Primitive.absent tag a) h =
      not_true (has_symbol tag (apply s a)) (λ e. not_both (has_symbol tag (value us a)) h
      (subst (λ u. has_symbol tag u ≡ true) (value-apply a) (fill-has_symbol tag (value_at us) (apply s a) e)))

  all-allowed : (ps : List (Primitive Tm)) → list_all (holds_at us) ps ≡ true → list_all (allows s) ps ≡ true
  all-allowed [] h = refl
  all-allowed (p ∷ ps) h =
      let (first, rest) = and_parts (holds_at us p) (list_all (holds_at us) ps) h in
      and_from (allows s p) (list_all (allows s) ps) (holds-allows p first) (all-allowed ps rest)

  -- a variable with a type has a value of it
  pub type-value : (kind : Kind) (v : ℕ) (ps : List (Primitive Tm)) → list_all (holds_at us) ps ≡ true → has_type kind s ps v ≡ true → is_of kind (value_at us v) ≡ true
  type-value kind v [] h k = absurd (true≢false (sym k))
  type-value kind v (p ∷ ps) h k =
      let (first, rest) = and_parts (holds_at us p) (list_all (holds_at us) ps) h in
      elim (or_cases (gives_type kind s v p) (has_type kind s ps v) k) [
        | inl here ↦ by kind p first here
        | inr later ↦ type-value kind v ps rest later
      ]
    where
      at : (kind : Kind) (a : Tm) → is_of kind (value us a) ≡ true → is_variable v (apply s a) ≡ true → is_of kind (value_at us v) ≡ true
      at kind a holds is = subst (λ u. is_of kind u ≡ true) (sym (value-apply a) ∙ ap (value us) (is_variable-true v (apply s a) is)) holds

      by : (kind : Kind) (p : Primitive Tm) → holds_at us p ≡ true → gives_type kind s v p ≡ true → is_of kind (value_at us v) ≡ true
      by Symbol (Primitive.symbol a) holds gives = at Symbol a holds gives
      by Number (Primitive.number a) holds gives = at Number a holds gives
      by Text (Primitive.text a) holds gives = at Text a holds gives
      by Symbol _ holds gives = absurd (true≢false (sym gives))
      by Number _ holds gives = absurd (true≢false (sym gives))
      by Text _ holds gives = absurd (true≢false (sym gives))

  type-lacks : (kind other : Kind) → (Some kind ≡ Some other → ⊥) → (ps : List (Primitive Tm)) → list_all (holds_at us) ps ≡ true →
      (t : Tm) → is_of kind (value us t) ≡ true → lacks_type other s ps t ≡ true
  type-lacks kind other apart ps h (Tree.leaf v) k =
      not_true (has_type other s ps v) (λ e. apart (one_type kind other (value_at us v) k (type-value other v ps h e)))
  type-lacks kind other apart ps h (Tree.sym x) k = refl
  type-lacks kind other apart ps h (Tree.str x) k = refl
  type-lacks kind other apart ps h (Tree.num n) k = refl
  type-lacks kind other apart ps h (Tree.truth b) k = refl
  type-lacks kind other apart ps h Tree.nil k = refl
  type-lacks kind other apart ps h (Tree.pair a b) k = refl

  one-type_given : (ps : List (Primitive Tm)) → list_all (holds_at us) ps ≡ true → (p : Primitive Tm) → holds_at us p ≡ true → gives_one_type s ps p ≡ true
  one-type_given ps h (Primitive.symbol a) k =
      and_from (lacks_type Number s ps (apply s a)) (lacks_type Text s ps (apply s a))
      (type-lacks Symbol Number (λ e. cc) ps h (apply s a) (of-answer Symbol a k)) (type-lacks Symbol Text (λ e. cc) ps h (apply s a) (of-answer Symbol a k))
  one-type_given ps h (Primitive.text a) k = type-lacks Text Number (λ e. cc) ps h (apply s a) (of-answer Text a k)
  one-type_given ps h (Primitive.same a b) k = refl
  one-type_given ps h (Primitive.differ a b) k = refl
  one-type_given ps h (Primitive.number a) k = refl
  one-type_given ps h (Primitive.absent tag a) k = refl

  all-given : (ps qs : List (Primitive Tm)) → list_all (holds_at us) ps ≡ true → list_all (holds_at us) qs ≡ true → list_all (gives_one_type s ps) qs ≡ true
  all-given ps [] h k = refl
  all-given ps (q ∷ qs) h k =
      let (first, rest) = and_parts (holds_at us q) (list_all (holds_at us) qs) k in
      and_from (gives_one_type s ps q) (list_all (gives_one_type s ps) qs) (one-type_given ps h q first) (all-given ps qs h rest)

  pub holds-under : (ps : List (Primitive Tm)) → list_all (holds_at us) ps ≡ true → holds_under ps s ≡ true
  holds-under ps h = and_from (list_all (allows s) ps) (list_all (gives_one_type s ps) ps) (all-allowed ps h) (all-given ps ps h h)

-- what holds of a valuation's values is kept
kept-from_holding : (us : List Gd) (st : Store) → list_all (holds_at us) st.prims ≡ true → is_kept st ≡ true
kept-from_holding us st h =
    let (s, found, factors) = answer_most_general left_first (equations st.prims) (value_at us) (values_unify us st.prims h) in
    subst (λ r. holds_with st.prims r ≡ true) (sym found) (holds-under us s factors st.prims h)

pub solved_is_kept : SolvedIsKept
solved_is_kept st us (long, h) = kept-from_holding us st h

pub holding_is_added : HoldingIsAdded
holding_is_added st us p (long, h) holds = by (is_kept (with_prim st p)) (kept-from_holding us (with_prim st p) all)
  where
    all : list_all (holds_at us) (st.prims ++ p ∷ []) ≡ true
    all = list_all-append (holds_at us) st.prims (p ∷ []) ∙ and_from (list_all (holds_at us) st.prims) (holds_at us p && true) h (and_from (holds_at us p) true holds refl)

    by : (kept : Bool) → kept ≡ true → elim kept [ true ↦ one (with_prim st p) | false ↦ empty ] ≡ one (with_prim st p)
    by true e = refl
    by false e = absurd (true≢false (sym e))
