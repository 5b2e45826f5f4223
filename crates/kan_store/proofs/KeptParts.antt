-- What it is that a store is kept: each primitive is allowed, and no variable has two types.
use Rattle.std.proofs.Common.{◌≡◌, ℕ, Bool, true, false, not, eqb, List, [], ◌∷◌, inl, inr, sym, ap, subst, refl, ◌∙◌}
use Rattle.std.specs.List.{list_all, list_any}
use Rattle.std.proofs.lemmas.Bool.{eq-eqb, eqb-true, and_parts, and_from, or_cases, true≢false}
use Rattle.kan_terms.specs.Tree.{Tree, Tm, occurs}
use Rattle.diseq.specs.Among.{Among}
use Rattle.diseq.proofs.AmongLaws.{any-among}
use Rattle.kan_model.specs.Programs.Goals.{Primitive}
use Rattle.kan_model.specs.Stores.Solve.{Replacement, apply}
use Rattle.kan_model.specs.Stores.Kept.{allows, is_variable, gives_type, has_type, lacks_type, gives_one_type, holds_under}
use Rattle.kan_model.specs.Answers.Answer.{keeps_out, has_absence}
use Rattle.kan_model.specs.declared.prims.Kind.{Kind}
use Rattle.kan_model.specs.declared.prims.Kind.TheVariants.{Symbol, Number, Text}

-- tests of all of a list, and of some
pub all-among : {X : Type 0} (p : X → Bool) (xs : List X) → list_all p xs ≡ true → (x : X) → Among x xs → p x ≡ true
all-among p [] h x none = absurd none
all-among p (y ∷ xs) h x (inl e) = subst (λ z. p z ≡ true) e (and_parts (p y) (list_all p xs) h).0
all-among p (y ∷ xs) h x (inr a) = all-among p xs (and_parts (p y) (list_all p xs) h).1 x a

pub all-from : {X : Type 0} (p : X → Bool) (xs : List X) → ((x : X) → Among x xs → p x ≡ true) → list_all p xs ≡ true
all-from p [] h = refl
all-from p (x ∷ xs) h = and_from (p x) (list_all p xs) (h x (inl refl)) (all-from p xs (λ y a. h y (inr a)))

pub any-found : {X : Type 0} (p : X → Bool) (xs : List X) → list_any p xs ≡ true → (x : X) × Among x xs × (p x ≡ true)
any-found p [] h = absurd (true≢false (sym h))
any-found p (x ∷ xs) h = elim (or_cases (p x) (list_any p xs) h) [
  | inl first ↦ (x, inl refl, first)
  | inr rest ↦ (let (y, a, k) = any-found p xs rest in (y, inr a, k))
]

-- the primitive that asks a type of a term
abbrev pub typing : Kind → Tm → Primitive Tm
typing Symbol a = Primitive.symbol a
typing Number a = Primitive.number a
typing Text a = Primitive.text a

pub is_variable-true : (v : ℕ) (t : Tm) → is_variable v t ≡ true → t ≡ Tree.leaf v
is_variable-true v (Tree.leaf w) h = ap Tree.leaf (sym (eqb-true v w h))
is_variable-true v (Tree.sym s) h = cc
is_variable-true v (Tree.str s) h = cc
is_variable-true v (Tree.num n) h = cc
is_variable-true v (Tree.truth b) h = cc
is_variable-true v Tree.nil h = cc
is_variable-true v (Tree.pair a b) h = cc

pub is_variable-same : (v : ℕ) (t : Tm) → t ≡ Tree.leaf v → is_variable v t ≡ true
is_variable-same v t h = rw h (eq-eqb v v refl)

module _ (s : Replacement) (ps : List (Primitive Tm)) where
  -- a variable has a type where a primitive asks it of a term that is the variable under the answer
  pub has_type-from : (kind : Kind) (v : ℕ) (a : Tm) → Among (typing kind a) ps → apply s a ≡ Tree.leaf v → has_type kind s ps v ≡ true
  has_type-from kind v a among is = any-among (gives_type kind s v) ps (typing kind a) among (by kind)
    where
      by : (kind : Kind) → gives_type kind s v (typing kind a) ≡ true
      by Symbol = is_variable-same v (apply s a) is
      by Number = is_variable-same v (apply s a) is
      by Text = is_variable-same v (apply s a) is

  pub has_type-asked : (kind : Kind) (v : ℕ) → has_type kind s ps v ≡ true → (a : Tm) × Among (typing kind a) ps × (apply s a ≡ Tree.leaf v)
  has_type-asked kind v h = let (p, among, gives) = any-found (gives_type kind s v) ps h in by kind p among gives
    where
      by : (kind : Kind) (p : Primitive Tm) → Among p ps → gives_type kind s v p ≡ true → (a : Tm) × Among (typing kind a) ps × (apply s a ≡ Tree.leaf v)
      by Symbol (Primitive.symbol a) among gives = (a, among, is_variable-true v (apply s a) gives)
      by Number (Primitive.number a) among gives = (a, among, is_variable-true v (apply s a) gives)
      by Text (Primitive.text a) among gives = (a, among, is_variable-true v (apply s a) gives)
      by Symbol (Primitive.number a) among gives = absurd (true≢false (sym gives))
      by Symbol (Primitive.text a) among gives = absurd (true≢false (sym gives))
      by Number (Primitive.symbol a) among gives = absurd (true≢false (sym gives))
      by Number (Primitive.text a) among gives = absurd (true≢false (sym gives))
      by Text (Primitive.symbol a) among gives = absurd (true≢false (sym gives))
      by Text (Primitive.number a) among gives = absurd (true≢false (sym gives))
      by Symbol (Primitive.same a b) among gives = absurd (true≢false (sym gives))
      by Symbol (Primitive.differ a b) among gives = absurd (true≢false (sym gives))
      by Symbol (Primitive.absent t a) among gives = absurd (true≢false (sym gives))
      by Number (Primitive.same a b) among gives = absurd (true≢false (sym gives))
      by Number (Primitive.differ a b) among gives = absurd (true≢false (sym gives))
      by Number (Primitive.absent t a) among gives = absurd (true≢false (sym gives))
      by Text (Primitive.same a b) among gives = absurd (true≢false (sym gives))
      by Text (Primitive.differ a b) among gives = absurd (true≢false (sym gives))
      by Text (Primitive.absent t a) among gives = absurd (true≢false (sym gives))

  -- and an absence where a primitive asks it of a term in which the variable stands
  pub has_absence-from : (tag v : ℕ) (a : Tm) → Among (Primitive.absent tag a) ps → occurs v (apply s a) ≡ true → has_absence s ps tag v ≡ true
  has_absence-from tag v a among stands = any-among (keeps_out s tag v) ps (Primitive.absent tag a) among (and_from (eqb tag tag) (occurs v (apply s a)) (eq-eqb tag tag refl) stands)

  pub has_absence-asked : (tag v : ℕ) → has_absence s ps tag v ≡ true → (a : Tm) × Among (Primitive.absent tag a) ps × (occurs v (apply s a) ≡ true)
  has_absence-asked tag v h = let (p, among, keeps) = any-found (keeps_out s tag v) ps h in by p among keeps
    where
      by : (p : Primitive Tm) → Among p ps → keeps_out s tag v p ≡ true → (a : Tm) × Among (Primitive.absent tag a) ps × (occurs v (apply s a) ≡ true)
      by (Primitive.absent t a) among keeps =
          let (same, stands) = and_parts (eqb tag t) (occurs v (apply s a)) keeps in
          (a, subst (λ u. Among (Primitive.absent u a) ps) (sym (eqb-true tag t same)) among, stands)
      by (Primitive.same a b) among keeps = absurd (true≢false (sym keeps))
      by (Primitive.differ a b) among keeps = absurd (true≢false (sym keeps))
      by (Primitive.symbol a) among keeps = absurd (true≢false (sym keeps))
      by (Primitive.number a) among keeps = absurd (true≢false (sym keeps))
      by (Primitive.text a) among keeps = absurd (true≢false (sym keeps))

  -- each primitive is allowed
  abbrev pub Allowed : Type 0
  Allowed = (p : Primitive Tm) → Among p ps → allows s p ≡ true

  -- no variable has two types
  abbrev pub OneType : Type 0
  OneType = (v : ℕ) (k l : Kind) → has_type k s ps v ≡ true → has_type l s ps v ≡ true → k ≡ l

  -- a variable that lacks a type
  lacks-parts : (kind : Kind) (t : Tm) (v : ℕ) → lacks_type kind s ps t ≡ true → t ≡ Tree.leaf v → has_type kind s ps v ≡ true → ⊥
  lacks-parts kind t v lacks is has = by (has_type kind s ps v) refl (subst (λ u. lacks_type kind s ps u ≡ true) is lacks)
    where
      by : (c : Bool) → has_type kind s ps v ≡ c → not (has_type kind s ps v) ≡ true → ⊥
      by c e n = true≢false (sym n ∙ ap not has)

  lacks-from : (kind : Kind) (t : Tm) → ((v : ℕ) → t ≡ Tree.leaf v → has_type kind s ps v ≡ true → ⊥) → lacks_type kind s ps t ≡ true
  lacks-from kind (Tree.leaf v) none = by (has_type kind s ps v) refl
    where
      by : (c : Bool) → has_type kind s ps v ≡ c → not (has_type kind s ps v) ≡ true
      by true e = absurd (none v refl e)
      by false e = ap not e
  lacks-from kind (Tree.sym x) none = refl
  lacks-from kind (Tree.str x) none = refl
  lacks-from kind (Tree.num n) none = refl
  lacks-from kind (Tree.truth b) none = refl
  lacks-from kind Tree.nil none = refl
  lacks-from kind (Tree.pair a b) none = refl

  pub holds-parts : holds_under ps s ≡ true → Allowed × OneType
  holds-parts h = (all-among (allows s) ps parts.0, one)
    where
      parts : (list_all (allows s) ps ≡ true) × (list_all (gives_one_type s ps) ps ≡ true)
      parts = and_parts (list_all (allows s) ps) (list_all (gives_one_type s ps) ps) h

      -- a symbol is neither a number nor a string, and a string is no number
      no_symbol : (v : ℕ) → has_type Symbol s ps v ≡ true → (has_type Number s ps v ≡ true → ⊥) × (has_type Text s ps v ≡ true → ⊥)
      no_symbol v has =
          let (a, among, is) = has_type-asked Symbol v has in
          let (number, text) = and_parts (lacks_type Number s ps (apply s a)) (lacks_type Text s ps (apply s a)) (all-among (gives_one_type s ps) ps parts.1 (Primitive.symbol a) among) in
          (lacks-parts Number (apply s a) v number is, lacks-parts Text (apply s a) v text is)

      no_text : (v : ℕ) → has_type Text s ps v ≡ true → has_type Number s ps v ≡ true → ⊥
      no_text v has =
          let (a, among, is) = has_type-asked Text v has in
          lacks-parts Number (apply s a) v (all-among (gives_one_type s ps) ps parts.1 (Primitive.text a) among) is

      one : OneType
      one v Symbol Symbol h k = refl
      one v Number Number h k = refl
      one v Text Text h k = refl
      one v Symbol Number h k = absurd ((no_symbol v h).0 k)
      one v Number Symbol h k = absurd ((no_symbol v k).0 h)
      one v Symbol Text h k = absurd ((no_symbol v h).1 k)
      one v Text Symbol h k = absurd ((no_symbol v k).1 h)
      one v Text Number h k = absurd (no_text v h k)
      one v Number Text h k = absurd (no_text v k h)

  pub holds-from : Allowed → OneType → holds_under ps s ≡ true
  holds-from allowed one = and_from (list_all (allows s) ps) (list_all (gives_one_type s ps) ps) (all-from (allows s) ps allowed) (all-from (gives_one_type s ps) ps by)
    where
      different : (v : ℕ) (k l : Kind) (a : Tm) → Among (typing k a) ps → (k ≡ l → ⊥) → (apply s a ≡ Tree.leaf v) → has_type l s ps v ≡ true → ⊥
      different v k l a among apart is has = apart (one v k l (has_type-from k v a among is) has)

      by : (p : Primitive Tm) → Among p ps → gives_one_type s ps p ≡ true
      by (Primitive.symbol a) among = and_from (lacks_type Number s ps (apply s a)) (lacks_type Text s ps (apply s a))
          (lacks-from Number (apply s a) (λ v is. different v Symbol Number a among (λ e. cc) is))
          (lacks-from Text (apply s a) (λ v is. different v Symbol Text a among (λ e. cc) is))
      by (Primitive.text a) among = lacks-from Number (apply s a) (λ v is. different v Text Number a among (λ e. cc) is)
      by (Primitive.same a b) among = refl
      by (Primitive.differ a b) among = refl
      by (Primitive.number a) among = refl
      by (Primitive.absent t a) among = refl
