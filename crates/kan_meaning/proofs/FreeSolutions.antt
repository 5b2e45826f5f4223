-- Values for the variables that an answer doesn't replace solve a store, where they have its types, none of its tags, and make no disequality false.
use Rattle.std.proofs.Common.{◌≡◌, ℕ, true, false, eqb, List, [], ◌∷◌, filter, inl, inr, refl, sym, ap, ◌∙◌}
use Rattle.std.specs.List.{list_all}
use Rattle.std.proofs.lemmas.Bool.{and_from, and_parts, or_left, or_right, eq-eqb, both_ways, not-true, not_from_false, false_from_ne_true}
use Rattle.kan_terms.specs.Tree.{Tree, Tm, Gd, fill, occurs, has_symbol, ground_eq}
use Rattle.kan_terms.specs.Valuations.{value_at, value}
use Rattle.kan_terms.proofs.TreeLaws.{fill-fill, fill-same_occurs, has_symbol-fill, leaves-occurs, eq-ground_eq, ground_eq-true}
use Rattle.kan_model.specs.Answers.Answer.{is_no_difference, keeps_out, has_absence}
use Rattle.kan_model.specs.Meaning.Holds.{is_symbol, is_number, is_string, holds_at}
use Rattle.kan_model.specs.Programs.Goals.{Primitive}
use Rattle.kan_model.specs.Programs.Scope.{all_below, sides_below}
use Rattle.kan_model.specs.Stores.Kept.{may_be, allows, is_variable, gives_type, has_type}
use Rattle.kan_model.specs.Stores.Solve.{Replacement, image, apply}
use Rattle.kan_model.specs.declared.prims.Kind.{Kind}
use Rattle.kan_model.specs.declared.prims.Kind.TheVariants.{Symbol, Number, Text}
use Rattle.kan_model.specs.Each.{Each}
use Rattle.pull_bounds.proofs.KeptStores.{is_of}
use Rattle.kan_meaning.proofs.GroundLaws.{below_occurs}
use Rattle.kan_meaning.proofs.Instances.OwnValues.{first_values, first_at}
use Rattle.kan_meaning.proofs.Instances.SolvedLaws.{EqualSides}

-- the valuation of the first variables under an answer
abbrev pub under_answer : Replacement → (ℕ → Gd) → ℕ → List Gd
under_answer s f counter = first_values (λ v. fill f (image s v)) counter

-- a disequality's sides have different values
abbrev pub Apart : Replacement → (ℕ → Gd) → Primitive Tm → Type 0
Apart s f (Primitive.differ a b) = fill f (apply s a) ≡ fill f (apply s b) → ⊥
Apart s f _ = Unit {0}

module _ (s : Replacement) (f : ℕ → Gd) (counter : ℕ) where
  abbrev us : List Gd
  us = under_answer s f counter

  pub value_is : (t : Tm) → all_below counter t ≡ true → value us t ≡ fill f (apply s t)
  value_is t below =
      fill-same_occurs (value_at us) (λ v. fill f (image s v)) t (λ x inside. first_at (λ v. fill f (image s v)) counter x (below_occurs counter x t below inside))
      ∙ sym (fill-fill f (image s) t)

  -- a term that may have a type, and has a variable of that type where it is one, is of it
  of_kind : (kind : Kind) (w : Tm) → may_be kind w ≡ true → ((v : ℕ) → is_variable v w ≡ true → is_of kind (f v) ≡ true) → is_of kind (fill f w) ≡ true
  of_kind kind (Tree.leaf v) may typed = typed v (eq-eqb v v refl)
  of_kind Symbol (Tree.sym x) may typed = refl
  of_kind Symbol (Tree.str x) may typed = may
  of_kind Symbol (Tree.num m) may typed = may
  of_kind Symbol (Tree.truth b) may typed = may
  of_kind Symbol Tree.nil may typed = may
  of_kind Symbol (Tree.pair a b) may typed = may
  of_kind Number (Tree.sym x) may typed = may
  of_kind Number (Tree.str x) may typed = may
  of_kind Number (Tree.num m) may typed = refl
  of_kind Number (Tree.truth b) may typed = may
  of_kind Number Tree.nil may typed = may
  of_kind Number (Tree.pair a b) may typed = may
  of_kind Text (Tree.sym x) may typed = may
  of_kind Text (Tree.str x) may typed = refl
  of_kind Text (Tree.num m) may typed = may
  of_kind Text (Tree.truth b) may typed = may
  of_kind Text Tree.nil may typed = may
  of_kind Text (Tree.pair a b) may typed = may

  -- what is known of one primitive
  record Suits (p : Primitive Tm) : Type 0 where
    pub below : sides_below counter p ≡ true
    pub allowed : allows s p ≡ true
    pub equal : EqualSides s p
    pub typed : (kind : Kind) (v : ℕ) → gives_type kind s v p ≡ true → is_of kind (f v) ≡ true
    pub clear : (tag v : ℕ) → keeps_out s tag v p ≡ true → has_symbol tag (f v) ≡ false

  one_holds : (p : Primitive Tm) → Suits p → Apart s f p → holds_at us p ≡ true
  one_holds (Primitive.same a b) suits apart =
      let (l, r) = and_parts (all_below counter a) (all_below counter b) suits.below in
      eq-ground_eq (value us a) (value us b) (value_is a l ∙ ap (fill f) suits.equal ∙ sym (value_is b r))
  one_holds (Primitive.differ a b) suits apart =
      let (l, r) = and_parts (all_below counter a) (all_below counter b) suits.below in
      not_from_false (ground_eq (value us a) (value us b)) (false_from_ne_true (ground_eq (value us a) (value us b))
      (λ e. apart (sym (value_is a l) ∙ ground_eq-true (value us a) (value us b) e ∙ value_is b r)))
  one_holds (Primitive.symbol a) suits apart = ap is_symbol (value_is a suits.below) ∙ of_kind Symbol (apply s a) suits.allowed (suits.typed Symbol)
  one_holds (Primitive.number a) suits apart = ap is_number (value_is a suits.below) ∙ of_kind Number (apply s a) suits.allowed (suits.typed Number)
  one_holds (Primitive.text a) suits apart = ap is_string (value_is a suits.below) ∙ of_kind Text (apply s a) suits.allowed (suits.typed Text)
  one_holds (Primitive.absent tag a) suits apart =
      not_from_false (has_symbol tag (value us a)) (ap (has_symbol tag) (value_is a suits.below)
      ∙ false_from_ne_true (has_symbol tag (fill f (apply s a))) (λ e. elim (has_symbol-fill tag f (apply s a) e) [
        | inl inside ↦ both_ways (has_symbol tag (apply s a)) (not-true (has_symbol tag (apply s a)) suits.allowed) inside
        | inr (v, here, there) ↦ both_ways (has_symbol tag (f v))
            (suits.clear tag v (and_from (eqb tag tag) (occurs v (apply s a)) (eq-eqb tag tag refl) (leaves-occurs v (apply s a) here))) there
      ]))

  -- where a disequality's sides are apart it holds, and all else holds
  pub each_holds : (ps : List (Primitive Tm)) → list_all (sides_below counter) ps ≡ true → list_all (allows s) ps ≡ true → Each (EqualSides s) ps →
      ((kind : Kind) (v : ℕ) → has_type kind s ps v ≡ true → is_of kind (f v) ≡ true) →
      ((tag v : ℕ) → has_absence s ps tag v ≡ true → has_symbol tag (f v) ≡ false) → Each (λ p. Apart s f p → holds_at us p ≡ true) ps
  each_holds [] below allowed equal typed clear = tt
  each_holds (p ∷ ps) below allowed (equal, equals) typed clear =
      let (below_first, below_rest) = and_parts (sides_below counter p) (list_all (sides_below counter) ps) below in
      let (allowed_first, allowed_rest) = and_parts (allows s p) (list_all (allows s) ps) allowed in (
        one_holds p (record {
          below = below_first;
          allowed = allowed_first;
          equal = equal;
          typed = λ kind v e. typed kind v (or_left (gives_type kind s v p) (has_type kind s ps v) e);
          clear = λ tag v e. clear tag v (or_left (keeps_out s tag v p) (has_absence s ps tag v) e);
        }),
        each_holds ps below_rest allowed_rest equals (λ kind v e. typed kind v (or_right (gives_type kind s v p) (has_type kind s ps v) e))
            (λ tag v e. clear tag v (or_right (keeps_out s tag v p) (has_absence s ps tag v) e)),
      )

  -- the primitives that aren't disequalities hold
  pub others_hold : (ps : List (Primitive Tm)) → Each (λ p. Apart s f p → holds_at us p ≡ true) ps → list_all (holds_at us) (filter is_no_difference ps) ≡ true
  others_hold [] h = refl
  others_hold (Primitive.differ a b ∷ ps) (h, hs) = others_hold ps hs
  others_hold (Primitive.same a b ∷ ps) (h, hs) = and_from (holds_at us (Primitive.same a b)) (list_all (holds_at us) (filter is_no_difference ps)) (h tt) (others_hold ps hs)
  others_hold (Primitive.symbol a ∷ ps) (h, hs) = and_from (holds_at us (Primitive.symbol a)) (list_all (holds_at us) (filter is_no_difference ps)) (h tt) (others_hold ps hs)
  others_hold (Primitive.number a ∷ ps) (h, hs) = and_from (holds_at us (Primitive.number a)) (list_all (holds_at us) (filter is_no_difference ps)) (h tt) (others_hold ps hs)
  others_hold (Primitive.text a ∷ ps) (h, hs) = and_from (holds_at us (Primitive.text a)) (list_all (holds_at us) (filter is_no_difference ps)) (h tt) (others_hold ps hs)
  others_hold (Primitive.absent tag a ∷ ps) (h, hs) = and_from (holds_at us (Primitive.absent tag a)) (list_all (holds_at us) (filter is_no_difference ps)) (h tt) (others_hold ps hs)

  pub all_hold : (ps : List (Primitive Tm)) → Each (λ p. Apart s f p → holds_at us p ≡ true) ps → Each (Apart s f) ps → list_all (holds_at us) ps ≡ true
  all_hold [] h k = refl
  all_hold (p ∷ ps) (h, hs) (k, ks) = and_from (holds_at us p) (list_all (holds_at us) ps) (h k) (all_hold ps hs ks)
