-- What most general unifiers have in common.
use Rattle.std.proofs.Common.{◌≡◌, ℕ, Bool, true, false, inl, inr, ◌&&◌, not, List, [], ◌∷◌, ◌++◌, map, Option, Some, None, sym, ap, ap₂, subst, refl, ◌∙◌}
use Rattle.std.specs.List.{list_all}
use Rattle.std.proofs.lemmas.Bool.{eqb-true, eq-eqb, or_cases, or_left, or_right}
use Rattle.kan_terms.specs.Tree.{Tree, Tm, fill, has_symbol, term_eq}
use Rattle.kan_terms.proofs.TreeLaws.{fill-fill, fill-same, term_eq-true, eq-term_eq, fill-has_symbol}
use Rattle.kan_model.specs.Programs.Goals.{Primitive}
use Rattle.kan_model.specs.Stores.Store.{Equation, equations}
use Rattle.kan_model.specs.Stores.Solve.{Replacement, image, apply, solve_by, left_first}
use Rattle.kan_model.specs.Stores.Composition.{apply_sides}
use Rattle.kan_model.specs.Stores.Unifiers.{Unifies, Factors}
use Rattle.kan_model.specs.Stores.Kept.{may_be, allows, is_variable, gives_type, has_type, lacks_type, gives_one_type, holds_under, holds_with}
use Rattle.kan_model.specs.declared.prims.Kind.{Kind}
use Rattle.kan_model.specs.declared.prims.Kind.TheVariants.{Symbol, Number, Text}
use Rattle.kan_model.proofs.Solving.UnifierLaws.{fill-apply, answer_unifies}
use Rattle.kan_model.proofs.Solving.ReplacedLaws.{answer_clean}
use Rattle.kan_model.specs.Stores.Composition.{compose}
use Rattle.store_laws.specs.SolvedForms.{lower_first}
use Rattle.store_laws.specs.General.{IsGeneral, AnswerIsGeneral, ComposedIsGeneral, GeneralForOthers, HoldUnderAll, KeptUnderGeneral, GeneralIsTheForm}
use Rattle.kan_model.proofs.Solving.CompositionLaws.{image-compose}
use Rattle.store_laws.proofs.OneForm.{through_answer, unifies_other, also_answered, was_variable, same_images, answer_sends_higher}

pub answer_is_general : AnswerIsGeneral
answer_is_general left es s h = record { unifies = answer_unifies left es s h; factors = λ f u. through_answer left es s f h u }

-- equations in two pieces
unifies_both : (f : ℕ → Tm) (es fs : List Equation) → Unifies f es → Unifies f fs → Unifies f (es ++ fs)
unifies_both f [] fs u w = w
unifies_both f (e ∷ es) fs (same, u) w = (same, unifies_both f es fs u w)

pub unifies_first : (f : ℕ → Tm) (es fs : List Equation) → Unifies f (es ++ fs) → Unifies f es
unifies_first f [] fs u = tt
unifies_first f (e ∷ es) fs (same, u) = (same, unifies_first f es fs u)

pub unifies_second : (f : ℕ → Tm) (es fs : List Equation) → Unifies f (es ++ fs) → Unifies f fs
unifies_second f [] fs u = u
unifies_second f (e ∷ es) fs (same, u) = unifies_second f es fs u

-- f behind a replacement
unifies_behind : (f g : ℕ → Tm) (s : Replacement) → ((v : ℕ) → g v ≡ fill f (image s v)) → (es : List Equation) → Unifies (image s) es → Unifies g es
unifies_behind f g s is [] u = tt
unifies_behind f g s is (e ∷ es) (same, u) = (side e.left ∙ ap (fill f) same ∙ sym (side e.right), unifies_behind f g s is es u)
  where
    side : (t : Tm) → fill g t ≡ fill f (apply s t)
    side t = fill-same g (λ v. fill f (image s v)) is t ∙ sym (fill-fill f (image s) t)

unifies_sides : (f g : ℕ → Tm) (s : Replacement) → ((v : ℕ) → g v ≡ fill f (image s v)) → (fs : List Equation) → Unifies f (map (apply_sides s) fs) → Unifies g fs
unifies_sides f g s is [] u = tt
unifies_sides f g s is (e ∷ fs) (same, u) = (side e.left ∙ same ∙ sym (side e.right), unifies_sides f g s is fs u)
  where
    side : (t : Tm) → fill g t ≡ fill f (apply s t)
    side t = fill-same g (λ v. fill f (image s v)) is t ∙ sym (fill-fill f (image s) t)

pub sides_unify : (f : ℕ → Tm) (s : Replacement) → Factors f s → (fs : List Equation) → Unifies f fs → Unifies f (map (apply_sides s) fs)
sides_unify f s factors [] u = tt
sides_unify f s factors (e ∷ fs) (same, u) = (fill-apply f s factors e.left ∙ same ∙ sym (fill-apply f s factors e.right), sides_unify f s factors fs u)

pub composed_is_general : ComposedIsGeneral
composed_is_general es fs s r first second = record {
  unifies = unifies_both (image (compose s r)) es fs
      (unifies_behind (image r) (image (compose s r)) s (image-compose s r) es first.unifies)
      (unifies_sides (image r) (image (compose s r)) s (image-compose s r) fs second.unifies);
  factors = through;
}
  where
    through : (f : ℕ → Tm) → Unifies f (es ++ fs) → Factors f (compose s r)
    through f u v =
        let at_s = first.factors f (unifies_first f es fs u) in
        let at_r = second.factors f (sides_unify f s at_s fs (unifies_second f es fs u)) in
        at_s v ∙ sym (fill-apply f r at_r (image s v)) ∙ ap (fill f) (sym (image-compose s r v))

pub general_for_others : GeneralForOthers
general_for_others es fs s same general = record {
  unifies = unifies_other (image s) es fs (λ f. (same f).0) general.unifies;
  factors = λ f u. general.factors f (unifies_other f fs es (λ g. (same g).1) u);
}

-- two truth values of which each follows from the other
alike : (a b : Bool) → (a ≡ true → b ≡ true) → (b ≡ true → a ≡ true) → a ≡ b
alike true b f g = sym (f refl)
alike false true f g = g refl
alike false false f g = refl

-- what becomes an atom of a type or a variable was one
was_of_type : (kind : Kind) (f : ℕ → Tm) (t : Tm) → may_be kind (fill f t) ≡ true → may_be kind t ≡ true
was_of_type Symbol f (Tree.leaf v) h = refl
was_of_type Number f (Tree.leaf v) h = refl
was_of_type Text f (Tree.leaf v) h = refl
was_of_type kind f (Tree.sym s) h = h
was_of_type kind f (Tree.str s) h = h
was_of_type kind f (Tree.num n) h = h
was_of_type kind f (Tree.truth b) h = h
was_of_type kind f Tree.nil h = h
was_of_type Symbol f (Tree.pair a b) h = h
was_of_type Number f (Tree.pair a b) h = h
was_of_type Text f (Tree.pair a b) h = h

is_variable-true : (v : ℕ) (t : Tm) → is_variable v t ≡ true → t ≡ Tree.leaf v
is_variable-true v (Tree.leaf w) h = ap Tree.leaf (sym (eqb-true v w h))
is_variable-true v (Tree.sym s) h = cc
is_variable-true v (Tree.str s) h = cc
is_variable-true v (Tree.num n) h = cc
is_variable-true v (Tree.truth b) h = cc
is_variable-true v Tree.nil h = cc
is_variable-true v (Tree.pair a b) h = cc

is_variable-same : (v : ℕ) (t : Tm) → t ≡ Tree.leaf v → is_variable v t ≡ true
is_variable-same v t h = rw h (eq-eqb v v refl)

-- one of two replacements that factor through one another
module _ (s r : Replacement) (through : Factors (image r) s) (back : Factors (image s) r) where
  onward : (t : Tm) → apply r t ≡ apply r (apply s t)
  onward t = sym (fill-apply (image r) s through t)

  backward : (t : Tm) → apply s t ≡ apply s (apply r t)
  backward t = sym (fill-apply (image s) r back t)

  equal_there : (a b : Tm) → term_eq (apply s a) (apply s b) ≡ true → term_eq (apply r a) (apply r b) ≡ true
  equal_there a b h = eq-term_eq (apply r a) (apply r b) (onward a ∙ ap (apply r) (term_eq-true (apply s a) (apply s b) h) ∙ sym (onward b))

  type_there : (kind : Kind) (a : Tm) → may_be kind (apply s a) ≡ true → may_be kind (apply r a) ≡ true
  type_there kind a h = was_of_type kind (image s) (apply r a) (subst (λ t. may_be kind t ≡ true) (backward a) h)

  tag_there : (tag : ℕ) (a : Tm) → has_symbol tag (apply s a) ≡ true → has_symbol tag (apply r a) ≡ true
  tag_there tag a h = subst (λ t. has_symbol tag t ≡ true) (sym (onward a)) (fill-has_symbol tag (image r) (apply s a) h)

  -- terms that are one variable are one variable there
  variable_there : (a b : Tm) (v w : ℕ) → apply s a ≡ Tree.leaf v → apply r a ≡ Tree.leaf w → apply s b ≡ Tree.leaf v → apply r b ≡ Tree.leaf w
  variable_there a b v w h k l = onward b ∙ ap (apply r) (l ∙ sym h) ∙ sym (onward a) ∙ k

  types_there : (kind : Kind) (ps : List (Primitive Tm)) (a : Tm) (v w : ℕ) → apply s a ≡ Tree.leaf v → apply r a ≡ Tree.leaf w → has_type kind s ps v ≡ true → has_type kind r ps w ≡ true
  types_there kind [] a v w h k l = l
  types_there kind (p ∷ ps) a v w h k l = elim (or_cases (gives_type kind s v p) (has_type kind s ps v) l) [
    | inl here ↦ or_left (gives_type kind r w p) (has_type kind r ps w) (by kind p here)
    | inr later ↦ or_right (gives_type kind r w p) (has_type kind r ps w) (types_there kind ps a v w h k later)
  ]
    where
      one : (b : Tm) → is_variable v (apply s b) ≡ true → is_variable w (apply r b) ≡ true
      one b m = is_variable-same w (apply r b) (variable_there a b v w h k (is_variable-true v (apply s b) m))

      by : (kind : Kind) (p : Primitive Tm) → gives_type kind s v p ≡ true → gives_type kind r w p ≡ true
      by Symbol (Primitive.symbol b) m = one b m
      by Number (Primitive.number b) m = one b m
      by Text (Primitive.text b) m = one b m
      by Symbol (Primitive.number b) m = m
      by Symbol (Primitive.text b) m = m
      by Number (Primitive.symbol b) m = m
      by Number (Primitive.text b) m = m
      by Text (Primitive.symbol b) m = m
      by Text (Primitive.number b) m = m
      by Symbol (Primitive.same b c) m = m
      by Symbol (Primitive.differ b c) m = m
      by Symbol (Primitive.absent tag b) m = m
      by Number (Primitive.same b c) m = m
      by Number (Primitive.differ b c) m = m
      by Number (Primitive.absent tag b) m = m
      by Text (Primitive.same b c) m = m
      by Text (Primitive.differ b c) m = m
      by Text (Primitive.absent tag b) m = m

  lacks_back : (kind : Kind) (ps : List (Primitive Tm)) (a : Tm) → lacks_type kind r ps (apply r a) ≡ true → lacks_type kind s ps (apply s a) ≡ true
  lacks_back kind ps a h = by (apply s a) refl
    where
      by : (t : Tm) → apply s a ≡ t → lacks_type kind s ps t ≡ true
      by (Tree.leaf v) e = at_variable (was_variable (image s) v (apply r a) (sym (backward a) ∙ e))
        where
          at_variable : (w : ℕ) × (apply r a ≡ Tree.leaf w) × (image s w ≡ Tree.leaf v) → not (has_type kind s ps v) ≡ true
          at_variable (w, there, _) = none (has_type kind s ps v) (has_type kind r ps w) (types_there kind ps a v w e there) (subst (λ t. lacks_type kind r ps t ≡ true) there h)
            where
              none : (b c : Bool) → (b ≡ true → c ≡ true) → not c ≡ true → not b ≡ true
              none true true f n = n
              none true false f n = f refl
              none false c f n = refl
      by (Tree.sym x) e = refl
      by (Tree.str x) e = refl
      by (Tree.num n) e = refl
      by (Tree.truth b) e = refl
      by Tree.nil e = refl
      by (Tree.pair b c) e = refl

module _ (s r : Replacement) (through : Factors (image r) s) (back : Factors (image s) r) where
  allows_alike : (p : Primitive Tm) → allows s p ≡ allows r p
  allows_alike (Primitive.same a b) = refl
  allows_alike (Primitive.differ a b) =
      ap not (alike (term_eq (apply s a) (apply s b)) (term_eq (apply r a) (apply r b)) (equal_there s r through back a b) (equal_there r s back through a b))
  allows_alike (Primitive.symbol a) = alike (may_be Symbol (apply s a)) (may_be Symbol (apply r a)) (type_there s r through back Symbol a) (type_there r s back through Symbol a)
  allows_alike (Primitive.number a) = alike (may_be Number (apply s a)) (may_be Number (apply r a)) (type_there s r through back Number a) (type_there r s back through Number a)
  allows_alike (Primitive.text a) = alike (may_be Text (apply s a)) (may_be Text (apply r a)) (type_there s r through back Text a) (type_there r s back through Text a)
  allows_alike (Primitive.absent tag a) =
      ap not (alike (has_symbol tag (apply s a)) (has_symbol tag (apply r a)) (tag_there s r through back tag a) (tag_there r s back through tag a))

  lacks_alike : (kind : Kind) (ps : List (Primitive Tm)) (a : Tm) → lacks_type kind s ps (apply s a) ≡ lacks_type kind r ps (apply r a)
  lacks_alike kind ps a =
      alike (lacks_type kind s ps (apply s a)) (lacks_type kind r ps (apply r a)) (lacks_back r s back through kind ps a) (lacks_back s r through back kind ps a)

  types_alike : (ps : List (Primitive Tm)) (p : Primitive Tm) → gives_one_type s ps p ≡ gives_one_type r ps p
  types_alike ps (Primitive.symbol a) = ap₂ (λ b c. b && c) (lacks_alike Number ps a) (lacks_alike Text ps a)
  types_alike ps (Primitive.text a) = lacks_alike Number ps a
  types_alike ps (Primitive.same a b) = refl
  types_alike ps (Primitive.differ a b) = refl
  types_alike ps (Primitive.number a) = refl
  types_alike ps (Primitive.absent tag a) = refl

  pub holds_alike : (ps : List (Primitive Tm)) → holds_under ps s ≡ holds_under ps r
  holds_alike ps = ap₂ (λ a b. a && b) (all_alike (allows s) (allows r) allows_alike ps) (all_alike (gives_one_type s ps) (gives_one_type r ps) (types_alike ps) ps)
    where
      all_alike : {X : Type 0} (p q : X → Bool) → ((x : X) → p x ≡ q x) → (xs : List X) → list_all p xs ≡ list_all q xs
      all_alike p q same [] = refl
      all_alike p q same (x ∷ xs) = ap₂ (λ a b. a && b) (same x) (all_alike p q same xs)

pub hold_under_all : HoldUnderAll
hold_under_all es s r ps one two = holds_alike s r (one.factors (image r) two.unifies) (two.factors (image s) one.unifies) ps

-- the solver's answer stands for every most general unifier
pub holds_with-general : (left : ℕ → ℕ → Bool) (es : List Equation) (s : Replacement) (ps : List (Primitive Tm)) → IsGeneral es s → holds_with ps (solve_by left es) ≡ holds_under ps s
holds_with-general left es s ps general = by (solve_by left es) refl
  where
    by : (q : Option Replacement) → solve_by left es ≡ q → holds_with ps q ≡ holds_under ps s
    by None h = absurd (also_answered left es es (image s) (λ f u. u) general.unifies h)
    by (Some q) h = hold_under_all es q s ps (answer_is_general left es q h) general

pub kept_under_general : KeptUnderGeneral
kept_under_general st s general = holds_with-general left_first (equations st.prims) s st.prims general

pub general_is_the_form : GeneralIsTheForm
general_is_the_form rank es s r one general higher h v =
    let answer = answer_is_general (lower_first rank) es r h in
    sym (same_images rank r s (answer_sends_higher rank es r one h) higher (general.factors (image r) answer.unifies) (answer.factors (image s) general.unifies) (answer_clean (lower_first rank) es r h).2 v)
