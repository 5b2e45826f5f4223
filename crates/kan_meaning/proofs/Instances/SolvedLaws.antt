-- A kept store has a solution.
use Rattle.std.proofs.Common.{◌≡◌, ℕ, suc, ◌+◌, ◌<◌, ◌≤◌, max, Bool, true, false, not, List, [], ◌∷◌, inl, inr, sym, ap, refl, arith, ◌∙◌}
use Rattle.std.specs.List.{list_all}
use Rattle.std.proofs.lemmas.Bool.{and_from, and_parts, or_left, or_right, both_ways, eq-eqb, not-true, not_from_false, false_from_ne_true}
use Rattle.kan_terms.specs.Tree.{Tree, Tm, Gd, fill, has_symbol, term_eq, ground_eq}
use Rattle.kan_terms.specs.Valuations.{value_at, value}
use Rattle.kan_terms.proofs.TreeLaws.{fill-fill, fill-same_occurs, has_symbol-fill, eq-term_eq, eq-ground_eq, ground_eq-true}
use Rattle.kan_model.specs.Meaning.Holds.{is_symbol, is_number, is_string, holds_at, IsSolution}
use Rattle.kan_model.specs.Programs.Goals.{Primitive}
use Rattle.kan_model.specs.Programs.Scope.{all_below, sides_below}
use Rattle.kan_model.specs.Stores.Kept.{may_be, allows, is_variable, gives_type, has_type, lacks_type, gives_one_type, holds_under}
use Rattle.kan_model.specs.Stores.Solve.{Replacement, image, apply}
use Rattle.kan_model.specs.Stores.Store.{equations}
use Rattle.kan_model.specs.Stores.Unifiers.{Unifies}
use Rattle.kan_model.specs.declared.prims.Kind.{Kind}
use Rattle.kan_model.specs.declared.prims.Kind.TheVariants.{Symbol, Number, Text}
use Rattle.kan_model.specs.Each.{Each}
use Rattle.kan_meaning.proofs.GroundLaws.{below_occurs}
use Rattle.kan_meaning.proofs.Instances.OwnValues.{own_of, own, above_atoms, separated, own_apart, first_values, first-length, first_at}

-- a variable of no type gets a symbol
abbrev pub kind_by : Bool → Bool → Kind
kind_by true text = Number
kind_by false true = Text
kind_by false false = Symbol

-- a number above those of all symbols, numbers and strings that a primitive sees under an answer
abbrev pub bound_of : Replacement → Primitive Tm → ℕ
bound_of s (Primitive.differ a b) = max (above_atoms (apply s a)) (above_atoms (apply s b))
bound_of s (Primitive.absent tag a) = suc tag
bound_of s _ = 0

abbrev pub bound_all : Replacement → List (Primitive Tm) → ℕ
bound_all s [] = 0
bound_all s (p ∷ ps) = max (bound_of s p) (bound_all s ps)

-- the sides of an equation are the same under an answer
abbrev pub EqualSides : Replacement → Primitive Tm → Type 0
EqualSides s (Primitive.same a b) = apply s a ≡ apply s b
EqualSides s _ = Unit {0}

pub each_equal : (s : Replacement) (ps : List (Primitive Tm)) → Unifies (image s) (equations ps) → Each (EqualSides s) ps
each_equal s [] u = tt
each_equal s (Primitive.same a b ∷ ps) (same, u) = (same, each_equal s ps u)
each_equal s (Primitive.differ a b ∷ ps) u = (tt, each_equal s ps u)
each_equal s (Primitive.symbol a ∷ ps) u = (tt, each_equal s ps u)
each_equal s (Primitive.number a ∷ ps) u = (tt, each_equal s ps u)
each_equal s (Primitive.text a ∷ ps) u = (tt, each_equal s ps u)
each_equal s (Primitive.absent tag a ∷ ps) u = (tt, each_equal s ps u)

module _ (ps : List (Primitive Tm)) (s : Replacement) (n counter : ℕ) where
  abbrev pub kinds : ℕ → Kind
  kinds v = kind_by (has_type Number s ps v) (has_type Text s ps v)

  -- each variable that isn't replaced gets a value of its own, and each other one that of its term
  abbrev pub free_values : ℕ → Gd
  free_values = own n kinds

  abbrev pub all_values : ℕ → Gd
  all_values v = fill free_values (image s v)

  abbrev pub solution : List Gd
  solution = first_values all_values counter

  value_is : (t : Tm) → all_below counter t ≡ true → value solution t ≡ fill free_values (apply s t)
  value_is t below =
      fill-same_occurs (value_at solution) all_values t (λ x inside. first_at all_values counter x (below_occurs counter x t below inside))
      ∙ sym (fill-fill free_values (image s) t)

  -- a term that may have a type is of it
  kind_symbol : (m : ℕ) (number text : Bool) → not number ≡ true → not text ≡ true → is_symbol (own_of m (kind_by number text)) ≡ true
  kind_symbol m true text d e = cc
  kind_symbol m false true d e = cc
  kind_symbol m false false d e = refl

  kind_number : (m : ℕ) (number text : Bool) → number ≡ true → is_number (own_of m (kind_by number text)) ≡ true
  kind_number m true text e = refl
  kind_number m false text e = cc

  kind_text : (m : ℕ) (number text : Bool) → not number ≡ true → text ≡ true → is_string (own_of m (kind_by number text)) ≡ true
  kind_text m true text d e = cc
  kind_text m false true d e = refl
  kind_text m false false d e = cc

  symbol_of : (w : Tm) → may_be Symbol w ≡ true → lacks_type Number s ps w ≡ true → lacks_type Text s ps w ≡ true → is_symbol (fill free_values w) ≡ true
  symbol_of (Tree.leaf v) may no_number no_text = kind_symbol (n + v) (has_type Number s ps v) (has_type Text s ps v) no_number no_text
  symbol_of (Tree.sym x) may no_number no_text = refl
  symbol_of (Tree.str x) may no_number no_text = may
  symbol_of (Tree.num m) may no_number no_text = may
  symbol_of (Tree.truth b) may no_number no_text = may
  symbol_of Tree.nil may no_number no_text = may
  symbol_of (Tree.pair a b) may no_number no_text = may

  number_of : (w : Tm) → may_be Number w ≡ true → ((v : ℕ) → is_variable v w ≡ true → has_type Number s ps v ≡ true) → is_number (fill free_values w) ≡ true
  number_of (Tree.leaf v) may typed = kind_number (n + v) (has_type Number s ps v) (has_type Text s ps v) (typed v (eq-eqb v v refl))
  number_of (Tree.sym x) may typed = may
  number_of (Tree.str x) may typed = may
  number_of (Tree.num m) may typed = refl
  number_of (Tree.truth b) may typed = may
  number_of Tree.nil may typed = may
  number_of (Tree.pair a b) may typed = may

  text_of : (w : Tm) → may_be Text w ≡ true → lacks_type Number s ps w ≡ true → ((v : ℕ) → is_variable v w ≡ true → has_type Text s ps v ≡ true) → is_string (fill free_values w) ≡ true
  text_of (Tree.leaf v) may no_number typed = kind_text (n + v) (has_type Number s ps v) (has_type Text s ps v) no_number (typed v (eq-eqb v v refl))
  text_of (Tree.sym x) may no_number typed = may
  text_of (Tree.str x) may no_number typed = refl
  text_of (Tree.num m) may no_number typed = may
  text_of (Tree.truth b) may no_number typed = may
  text_of Tree.nil may no_number typed = may
  text_of (Tree.pair a b) may no_number typed = may

  -- a tag below that stands nowhere in a term stands nowhere in its value
  tag_outside : (tag : ℕ) (w : Tm) → tag < n → has_symbol tag w ≡ false → has_symbol tag (fill free_values w) ≡ false
  tag_outside tag w low out =
      false_from_ne_true (has_symbol tag (fill free_values w)) (λ e. elim (has_symbol-fill tag free_values w e) [
        | inl inside ↦ both_ways (has_symbol tag w) out inside
        | inr (v, here, there) ↦ both_ways (has_symbol tag (free_values v)) (own_apart tag (n + v) (kinds v) (omega (arith, low))) there
      ])

  -- what is known of one primitive
  record Fine (p : Primitive Tm) : Type 0 where
    pub below : sides_below counter p ≡ true
    pub allowed : allows s p ≡ true
    pub one_type : gives_one_type s ps p ≡ true
    pub typed : (kind : Kind) (v : ℕ) → gives_type kind s v p ≡ true → has_type kind s ps v ≡ true
    pub low : bound_of s p ≤ n
    pub equal : EqualSides s p

  one_holds : (p : Primitive Tm) → Fine p → holds_at solution p ≡ true
  one_holds (Primitive.same a b) fine =
      let (l, r) = and_parts (all_below counter a) (all_below counter b) fine.below in
      eq-ground_eq (value solution a) (value solution b) (value_is a l ∙ ap (fill free_values) fine.equal ∙ sym (value_is b r))
  one_holds (Primitive.differ a b) fine =
      let (l, r) = and_parts (all_below counter a) (all_below counter b) fine.below in
      not_from_false (ground_eq (value solution a) (value solution b)) (false_from_ne_true (ground_eq (value solution a) (value solution b)) (λ e.
      both_ways (term_eq (apply s a) (apply s b)) (not-true (term_eq (apply s a) (apply s b)) fine.allowed)
      (eq-term_eq (apply s a) (apply s b) (separated n kinds (apply s a) (apply s b) (omega (arith, fine.low)) (omega (arith, fine.low))
      (sym (value_is a l) ∙ ground_eq-true (value solution a) (value solution b) e ∙ value_is b r)))))
  one_holds (Primitive.symbol a) fine =
      let (no_number, no_text) = and_parts (lacks_type Number s ps (apply s a)) (lacks_type Text s ps (apply s a)) fine.one_type in
      ap is_symbol (value_is a fine.below) ∙ symbol_of (apply s a) fine.allowed no_number no_text
  one_holds (Primitive.number a) fine = ap is_number (value_is a fine.below) ∙ number_of (apply s a) fine.allowed (fine.typed Number)
  one_holds (Primitive.text a) fine = ap is_string (value_is a fine.below) ∙ text_of (apply s a) fine.allowed fine.one_type (fine.typed Text)
  one_holds (Primitive.absent tag a) fine =
      not_from_false (has_symbol tag (value solution a))
      (ap (has_symbol tag) (value_is a fine.below) ∙ tag_outside tag (apply s a) (omega (arith, fine.low)) (not-true (has_symbol tag (apply s a)) fine.allowed))

  all_hold : (qs : List (Primitive Tm)) → list_all (sides_below counter) qs ≡ true → list_all (allows s) qs ≡ true → list_all (gives_one_type s ps) qs ≡ true →
      ((kind : Kind) (v : ℕ) → has_type kind s qs v ≡ true → has_type kind s ps v ≡ true) → bound_all s qs ≤ n → Each (EqualSides s) qs → list_all (holds_at solution) qs ≡ true
  all_hold [] below allowed one_type typed low equal = refl
  all_hold (p ∷ qs) below allowed one_type typed low (equal, equals) =
      let (below_first, below_rest) = and_parts (sides_below counter p) (list_all (sides_below counter) qs) below in
      let (allowed_first, allowed_rest) = and_parts (allows s p) (list_all (allows s) qs) allowed in
      let (one_first, one_rest) = and_parts (gives_one_type s ps p) (list_all (gives_one_type s ps) qs) one_type in
      and_from (holds_at solution p) (list_all (holds_at solution) qs)
      (one_holds p (record {
        below = below_first;
        allowed = allowed_first;
        one_type = one_first;
        typed = λ kind v e. typed kind v (or_left (gives_type kind s v p) (has_type kind s qs v) e);
        low = omega (arith, low);
        equal = equal;
      }))
      (all_hold qs below_rest allowed_rest one_rest (λ kind v e. typed kind v (or_right (gives_type kind s v p) (has_type kind s qs v) e)) (omega (arith, low)) equals)

-- under an answer under which the primitives hold there is a solution as long as the counter
pub solved_under : (ps : List (Primitive Tm)) (counter : ℕ) (s : Replacement) → list_all (sides_below counter) ps ≡ true → Unifies (image s) (equations ps) → holds_under ps s ≡ true →
    IsSolution (record { prims = ps; counter = counter }) (solution ps s (bound_all s ps) counter)
solved_under ps counter s below unifies held =
    let (allowed, one_type) = and_parts (list_all (allows s) ps) (list_all (gives_one_type s ps) ps) held in (
      first-length (all_values ps s (bound_all s ps) counter) counter,
      all_hold ps s (bound_all s ps) counter ps below allowed one_type (λ kind v e. e) (omega arith) (each_equal s ps unifies),
    )
