-- The laws of trees: filling, leaves, equality, occurrence and size.
use Rattle.std.specs.Prelude.{◌≡◌, ◌≢◌, ℕ, suc, ◌≤◌, Bool, true, false, ◌&&◌, ◌||◌, eqb, [], ◌∷◌, refl, Contains}
use Rattle.std.specs.Bool.{Decides}
use Rattle.std.proofs.Common.{sym, ◌∙◌, ap, arith, inl, inr, ◌⊎◌}
use Rattle.std.proofs.lemmas.Bool.{eqb-true, eq-eqb}
use Rattle.std.proofs.lemmas.Bool.Decides.{Decides-int_eq}
use Rattle.std.proofs.lemmas.List.Elements.{Contains-append_left, Contains-append_right, Contains-append_cases, Contains-push_cases}
use Rattle.kan_terms.specs.Tree.{Tree, Tm, Gd, fill, leaves, occurs, has_symbol, bool_eq, tree_eq, term_eq, ground_eq, size}

-- filling twice is filling once
pub fill-fill : {U V W : Type 0} (f : V → Tree W) (g : U → Tree V) (t : Tree U) → fill f (fill g t) ≡ fill (λ u. fill f (g u)) t
fill-fill f g (Tree.leaf v) = refl
fill-fill f g (Tree.sym s) = refl
fill-fill f g (Tree.str s) = refl
fill-fill f g (Tree.num n) = refl
fill-fill f g (Tree.truth b) = refl
fill-fill f g Tree.nil = refl
fill-fill f g (Tree.pair a b) = rw (fill-fill f g a, fill-fill f g b)

-- functions that agree everywhere fill alike
pub fill-same : {V W : Type 0} (f g : V → Tree W) → ((v : V) → f v ≡ g v) → (t : Tree V) → fill f t ≡ fill g t
fill-same f g e (Tree.leaf v) = e v
fill-same f g e (Tree.sym s) = refl
fill-same f g e (Tree.str s) = refl
fill-same f g e (Tree.num n) = refl
fill-same f g e (Tree.truth b) = refl
fill-same f g e Tree.nil = refl
fill-same f g e (Tree.pair a b) = rw (fill-same f g e a, fill-same f g e b)

-- functions that agree on the leaves that stand in a tree fill it alike
pub fill-same_leaves : {V W : Type 0} (f g : V → Tree W) (t : Tree V) → ((v : V) → Contains (leaves t) v → f v ≡ g v) → fill f t ≡ fill g t
fill-same_leaves f g (Tree.leaf v) e = e v (0, omega arith, refl)
fill-same_leaves f g (Tree.sym s) e = refl
fill-same_leaves f g (Tree.str s) e = refl
fill-same_leaves f g (Tree.num n) e = refl
fill-same_leaves f g (Tree.truth b) e = refl
fill-same_leaves f g Tree.nil e = refl
fill-same_leaves f g (Tree.pair a b) e =
    rw (fill-same_leaves f g a (λ v h. e v (Contains-append_left (leaves a) (leaves b) v h)), fill-same_leaves f g b (λ v h. e v (Contains-append_right (leaves a) (leaves b) v h)))

-- filling each leaf with itself changes nothing
pub fill-leaf : {V : Type 0} (t : Tree V) → fill Tree.leaf t ≡ t
fill-leaf (Tree.leaf v) = refl
fill-leaf (Tree.sym s) = refl
fill-leaf (Tree.str s) = refl
fill-leaf (Tree.num n) = refl
fill-leaf (Tree.truth b) = refl
fill-leaf Tree.nil = refl
fill-leaf (Tree.pair a b) = rw (fill-leaf a, fill-leaf b)

-- a list of one item has no other
one-item : {V : Type 0} (w v : V) → Contains (w ∷ []) v → w ≡ v
one-item w v h = elim (Contains-push_cases [] w v h) [ inl none ↦ absurd (omega arith) | inr same ↦ same ]

-- functions that fill a tree alike agree on the leaves that stand in it
pub leaves-same_fill : {V W : Type 0} (f g : V → Tree W) (t : Tree V) → fill f t ≡ fill g t → (v : V) → Contains (leaves t) v → f v ≡ g v
leaves-same_fill f g (Tree.leaf w) e v h = let same = one-item w v h in cc
leaves-same_fill f g (Tree.sym s) e v h = absurd (omega arith)
leaves-same_fill f g (Tree.str s) e v h = absurd (omega arith)
leaves-same_fill f g (Tree.num n) e v h = absurd (omega arith)
leaves-same_fill f g (Tree.truth b) e v h = absurd (omega arith)
leaves-same_fill f g Tree.nil e v h = absurd (omega arith)
leaves-same_fill f g (Tree.pair a b) e v h =
    elim (Contains-append_cases (leaves a) (leaves b) v h) [
      | inl in_a ↦ leaves-same_fill f g a (cc) v in_a
      | inr in_b ↦ leaves-same_fill f g b (cc) v in_b
    ]

-- two truth values are the same exactly where the test says so
pub Decides-bool_eq : (a b : Bool) → Decides (bool_eq a b) (a ≡ b)
Decides-bool_eq true true = (λ _. refl, λ _. refl)
Decides-bool_eq true false = (λ e. cc, λ e. cc)
Decides-bool_eq false true = (λ e. cc, λ e. cc)
Decides-bool_eq false false = (λ _. refl, λ _. refl)

-- two tests that are true together are both true
and-split : (a b : Bool) → (a && b) ≡ true → (a ≡ true) × (b ≡ true)
and-split true true e = (refl, refl)
and-split true false e = cc
and-split false true e = cc
and-split false false e = cc

-- trees that the test calls the same are the same, where the test of leaves is exact
pub tree_eq-true : {V : Type 0} (same : V → V → Bool) → ((v w : V) → same v w ≡ true → v ≡ w) → (s t : Tree V) → tree_eq same s t ≡ true → s ≡ t
tree_eq-true same exact (Tree.leaf v) (Tree.leaf w) e = ap Tree.leaf (exact v w e)
tree_eq-true same exact (Tree.sym v) (Tree.sym w) e = ap Tree.sym (eqb-true v w e)
tree_eq-true same exact (Tree.str v) (Tree.str w) e = ap Tree.str (eqb-true v w e)
tree_eq-true same exact (Tree.num v) (Tree.num w) e = ap Tree.num ((Decides-int_eq v w).0 e)
tree_eq-true same exact (Tree.truth v) (Tree.truth w) e = ap Tree.truth ((Decides-bool_eq v w).0 e)
tree_eq-true same exact Tree.nil Tree.nil e = refl
tree_eq-true same exact (Tree.pair a b) (Tree.pair c d) e =
    let both = and-split (tree_eq same a c) (tree_eq same b d) e in
    let first = tree_eq-true same exact a c both.0 in
    let rest = tree_eq-true same exact b d both.1 in cc
tree_eq-true same exact _ _ e = cc

-- the test calls a tree the same as itself, where the test of leaves does
pub tree_eq-same : {V : Type 0} (same : V → V → Bool) → ((v : V) → same v v ≡ true) → (t : Tree V) → tree_eq same t t ≡ true
tree_eq-same same self (Tree.leaf v) = self v
tree_eq-same same self (Tree.sym v) = eq-eqb v v refl
tree_eq-same same self (Tree.str v) = eq-eqb v v refl
tree_eq-same same self (Tree.num v) = (Decides-int_eq v v).1 refl
tree_eq-same same self (Tree.truth v) = (Decides-bool_eq v v).1 refl
tree_eq-same same self Tree.nil = refl
tree_eq-same same self (Tree.pair a b) = rw (tree_eq-same same self a, tree_eq-same same self b)

-- the test of trees is exact where the test of leaves is
pub Decides-tree_eq : {V : Type 0} (same : V → V → Bool) → ((v w : V) → Decides (same v w) (v ≡ w)) → (s t : Tree V) → Decides (tree_eq same s t) (s ≡ t)
Decides-tree_eq same exact s t =
    (tree_eq-true same (λ v w. (exact v w).0) s t, λ e. rw (← e) (tree_eq-same same (λ v. (exact v v).1 refl) s))

-- the test of terms is exact
pub Decides-term_eq : (s t : Tm) → Decides (term_eq s t) (s ≡ t)
Decides-term_eq s t = Decides-tree_eq eqb (λ v w. (eqb-true v w, eq-eqb v w)) s t

pub term_eq-true : (s t : Tm) → term_eq s t ≡ true → s ≡ t
term_eq-true s t = (Decides-term_eq s t).0

pub eq-term_eq : (s t : Tm) → s ≡ t → term_eq s t ≡ true
eq-term_eq s t = (Decides-term_eq s t).1

-- the test of ground terms is exact
pub Decides-ground_eq : (s t : Gd) → Decides (ground_eq s t) (s ≡ t)
Decides-ground_eq s t = Decides-tree_eq (λ none. absurd none) (λ none. absurd none) s t

pub ground_eq-true : (s t : Gd) → ground_eq s t ≡ true → s ≡ t
ground_eq-true s t = (Decides-ground_eq s t).0

pub eq-ground_eq : (s t : Gd) → s ≡ t → ground_eq s t ≡ true
eq-ground_eq s t = (Decides-ground_eq s t).1

-- a variable that stands in one of two trees stands in one of them
or-split : (a b : Bool) → (a || b) ≡ true → (a ≡ true) ⊎ (b ≡ true)
or-split true b e = inl refl
or-split false b e = inr e

or-left : (a b : Bool) → a ≡ true → (a || b) ≡ true
or-left true b e = refl
or-left false b e = cc

or-right : (a b : Bool) → b ≡ true → (a || b) ≡ true
or-right true b e = refl
or-right false b e = e

or-none : (a b : Bool) → (a || b) ≡ false → (a ≡ false) × (b ≡ false)
or-none true b e = cc
or-none false b e = (refl, e)

-- a variable that stands in a term is one of its leaves
pub occurs-leaves : (x : ℕ) (t : Tm) → occurs x t ≡ true → Contains (leaves t) x
occurs-leaves x (Tree.leaf v) e = (0, omega arith, sym (eqb-true x v e))
occurs-leaves x (Tree.sym s) e = cc
occurs-leaves x (Tree.str s) e = cc
occurs-leaves x (Tree.num n) e = cc
occurs-leaves x (Tree.truth b) e = cc
occurs-leaves x Tree.nil e = cc
occurs-leaves x (Tree.pair a b) e =
    elim (or-split (occurs x a) (occurs x b) e) [
      | inl in_a ↦ Contains-append_left (leaves a) (leaves b) x (occurs-leaves x a in_a)
      | inr in_b ↦ Contains-append_right (leaves a) (leaves b) x (occurs-leaves x b in_b)
    ]

-- each leaf of a term stands in it
pub leaves-occurs : (x : ℕ) (t : Tm) → Contains (leaves t) x → occurs x t ≡ true
leaves-occurs x (Tree.leaf v) h = eq-eqb x v (sym (one-item v x h))
leaves-occurs x (Tree.sym s) h = absurd (omega arith)
leaves-occurs x (Tree.str s) h = absurd (omega arith)
leaves-occurs x (Tree.num n) h = absurd (omega arith)
leaves-occurs x (Tree.truth b) h = absurd (omega arith)
leaves-occurs x Tree.nil h = absurd (omega arith)
leaves-occurs x (Tree.pair a b) h =
    elim (Contains-append_cases (leaves a) (leaves b) x h) [
      | inl in_a ↦ or-left (occurs x a) (occurs x b) (leaves-occurs x a in_a)
      | inr in_b ↦ or-right (occurs x a) (occurs x b) (leaves-occurs x b in_b)
    ]

-- functions that agree on the variables of a term fill it alike
pub fill-same_occurs : {W : Type 0} (f g : ℕ → Tree W) (t : Tm) → ((x : ℕ) → occurs x t ≡ true → f x ≡ g x) → fill f t ≡ fill g t
fill-same_occurs f g t e = fill-same_leaves f g t (λ v h. e v (leaves-occurs v t h))

-- functions that differ only at a variable that doesn't stand in a term fill it alike
pub fill-absent : {W : Type 0} (x : ℕ) (f g : ℕ → Tree W) → ((y : ℕ) → eqb x y ≡ false → f y ≡ g y) → (t : Tm) → occurs x t ≡ false → fill f t ≡ fill g t
fill-absent x f g e (Tree.leaf v) h = e v h
fill-absent x f g e (Tree.sym s) h = refl
fill-absent x f g e (Tree.str s) h = refl
fill-absent x f g e (Tree.num n) h = refl
fill-absent x f g e (Tree.truth b) h = refl
fill-absent x f g e Tree.nil h = refl
fill-absent x f g e (Tree.pair a b) h =
    let none = or-none (occurs x a) (occurs x b) h in
    rw (fill-absent x f g e a none.0, fill-absent x f g e b none.1)

-- a function that leaves every other variable alone changes no term in which the variable doesn't stand
pub fill-absent_leaf : (x : ℕ) (f : ℕ → Tm) → ((y : ℕ) → eqb x y ≡ false → f y ≡ Tree.leaf y) → (t : Tm) → occurs x t ≡ false → fill f t ≡ t
fill-absent_leaf x f e t h = fill-absent x f Tree.leaf e t h ∙ fill-leaf t

-- a variable stands in a filled term exactly where it stands in the tree of one of its variables
pub occurs-fill : (x : ℕ) (f : ℕ → Tm) (t : Tm) → occurs x (fill f t) ≡ true → (y : ℕ) × (occurs y t ≡ true) × (occurs x (f y) ≡ true)
occurs-fill x f (Tree.leaf v) e = (v, eq-eqb v v refl, e)
occurs-fill x f (Tree.sym s) e = cc
occurs-fill x f (Tree.str s) e = cc
occurs-fill x f (Tree.num n) e = cc
occurs-fill x f (Tree.truth b) e = cc
occurs-fill x f Tree.nil e = cc
occurs-fill x f (Tree.pair a b) e =
    elim (or-split (occurs x (fill f a)) (occurs x (fill f b)) e) [
      | inl in_a ↦ (let found = occurs-fill x f a in_a in (found.0, or-left (occurs found.0 a) (occurs found.0 b) found.1, found.2))
      | inr in_b ↦ (let found = occurs-fill x f b in_b in (found.0, or-right (occurs found.0 a) (occurs found.0 b) found.1, found.2))
    ]

pub fill-occurs : (x y : ℕ) (f : ℕ → Tm) (t : Tm) → occurs y t ≡ true → occurs x (f y) ≡ true → occurs x (fill f t) ≡ true
fill-occurs x y f (Tree.leaf v) e h = rw (← eqb-true y v e) h
fill-occurs x y f (Tree.sym s) e h = cc
fill-occurs x y f (Tree.str s) e h = cc
fill-occurs x y f (Tree.num n) e h = cc
fill-occurs x y f (Tree.truth b) e h = cc
fill-occurs x y f Tree.nil e h = cc
fill-occurs x y f (Tree.pair a b) e h =
    elim (or-split (occurs y a) (occurs y b) e) [
      | inl in_a ↦ or-left (occurs x (fill f a)) (occurs x (fill f b)) (fill-occurs x y f a in_a h)
      | inr in_b ↦ or-right (occurs x (fill f a)) (occurs x (fill f b)) (fill-occurs x y f b in_b h)
    ]

-- a symbol that stands in a filled tree stands in the tree, or in what fills one of its leaves
pub has_symbol-fill : {V W : Type 0} (s : ℕ) (f : V → Tree W) (t : Tree V) → has_symbol s (fill f t) ≡ true
    → (has_symbol s t ≡ true) ⊎ ((v : V) × Contains (leaves t) v × (has_symbol s (f v) ≡ true))
has_symbol-fill s f (Tree.leaf v) e = inr (v, (0, omega arith, refl), e)
has_symbol-fill s f (Tree.sym r) e = inl e
has_symbol-fill s f (Tree.str r) e = inl e
has_symbol-fill s f (Tree.num n) e = cc
has_symbol-fill s f (Tree.truth b) e = cc
has_symbol-fill s f Tree.nil e = cc
has_symbol-fill s f (Tree.pair a b) e =
    elim (or-split (has_symbol s (fill f a)) (has_symbol s (fill f b)) e) [
      | inl in_a ↦ elim (has_symbol-fill s f a in_a) [
        | inl h ↦ inl (or-left (has_symbol s a) (has_symbol s b) h)
        | inr h ↦ inr (h.0, Contains-append_left (leaves a) (leaves b) h.0 h.1, h.2)
      ]
      | inr in_b ↦ elim (has_symbol-fill s f b in_b) [
        | inl h ↦ inl (or-right (has_symbol s a) (has_symbol s b) h)
        | inr h ↦ inr (h.0, Contains-append_right (leaves a) (leaves b) h.0 h.1, h.2)
      ]
    ]

-- a symbol of a tree stands in the filled tree
pub fill-has_symbol : {V W : Type 0} (s : ℕ) (f : V → Tree W) (t : Tree V) → has_symbol s t ≡ true → has_symbol s (fill f t) ≡ true
fill-has_symbol s f (Tree.leaf v) e = cc
fill-has_symbol s f (Tree.sym r) e = e
fill-has_symbol s f (Tree.str r) e = e
fill-has_symbol s f (Tree.num n) e = cc
fill-has_symbol s f (Tree.truth b) e = cc
fill-has_symbol s f Tree.nil e = cc
fill-has_symbol s f (Tree.pair a b) e =
    elim (or-split (has_symbol s a) (has_symbol s b) e) [
      | inl in_a ↦ or-left (has_symbol s (fill f a)) (has_symbol s (fill f b)) (fill-has_symbol s f a in_a)
      | inr in_b ↦ or-right (has_symbol s (fill f a)) (has_symbol s (fill f b)) (fill-has_symbol s f b in_b)
    ]

-- and so does a symbol of what fills one of its leaves
pub leaves-has_symbol : {V W : Type 0} (s : ℕ) (f : V → Tree W) (t : Tree V) (v : V) → Contains (leaves t) v → has_symbol s (f v) ≡ true → has_symbol s (fill f t) ≡ true
leaves-has_symbol s f (Tree.leaf w) v h e = rw (one-item w v h) e
leaves-has_symbol s f (Tree.sym r) v h e = absurd (omega arith)
leaves-has_symbol s f (Tree.str r) v h e = absurd (omega arith)
leaves-has_symbol s f (Tree.num n) v h e = absurd (omega arith)
leaves-has_symbol s f (Tree.truth b) v h e = absurd (omega arith)
leaves-has_symbol s f Tree.nil v h e = absurd (omega arith)
leaves-has_symbol s f (Tree.pair a b) v h e =
    elim (Contains-append_cases (leaves a) (leaves b) v h) [
      | inl in_a ↦ or-left (has_symbol s (fill f a)) (has_symbol s (fill f b)) (leaves-has_symbol s f a v in_a e)
      | inr in_b ↦ or-right (has_symbol s (fill f a)) (has_symbol s (fill f b)) (leaves-has_symbol s f b v in_b e)
    ]

-- a tree has at least one node
pub size-positive : {V : Type 0} (t : Tree V) → 1 ≤ size t
size-positive (Tree.leaf v) = omega arith
size-positive (Tree.sym s) = omega arith
size-positive (Tree.str s) = omega arith
size-positive (Tree.num n) = omega arith
size-positive (Tree.truth b) = omega arith
size-positive Tree.nil = omega arith
size-positive (Tree.pair a b) = omega arith

-- a variable that stands in a term has a value that is no larger than the filled term
pub size-fill : {W : Type 0} (x : ℕ) (f : ℕ → Tree W) (t : Tm) → occurs x t ≡ true → size (f x) ≤ size (fill f t)
size-fill x f (Tree.leaf v) e = rw (eqb-true x v e) (omega arith)
size-fill x f (Tree.sym s) e = cc
size-fill x f (Tree.str s) e = cc
size-fill x f (Tree.num n) e = cc
size-fill x f (Tree.truth b) e = cc
size-fill x f Tree.nil e = cc
size-fill x f (Tree.pair a b) e =
    elim (or-split (occurs x a) (occurs x b) e) [
      | inl in_a ↦ omega (arith, size-fill x f a in_a)
      | inr in_b ↦ omega (arith, size-fill x f b in_b)
    ]

-- a variable that stands inside a pair has a value that is smaller than the filled pair
pub size-fill_pair : {W : Type 0} (x : ℕ) (f : ℕ → Tree W) (a b : Tm) → occurs x (Tree.pair a b) ≡ true → suc (size (f x)) ≤ size (fill f (Tree.pair a b))
size-fill_pair x f a b e =
    elim (or-split (occurs x a) (occurs x b) e) [
      | inl in_a ↦ omega (arith, size-fill x f a in_a, size-positive (fill f b))
      | inr in_b ↦ omega (arith, size-fill x f b in_b, size-positive (fill f a))
    ]

-- no filling makes a variable the same as a larger term in which it stands
pub occurs-cyclic : {W : Type 0} (x : ℕ) (f : ℕ → Tree W) (t : Tm) → occurs x t ≡ true → t ≢ Tree.leaf x → f x ≢ fill f t
occurs-cyclic x f (Tree.leaf v) e differs same = differs (ap Tree.leaf (sym (eqb-true x v e)))
occurs-cyclic x f (Tree.sym s) e differs same = cc
occurs-cyclic x f (Tree.str s) e differs same = cc
occurs-cyclic x f (Tree.num n) e differs same = cc
occurs-cyclic x f (Tree.truth b) e differs same = cc
occurs-cyclic x f Tree.nil e differs same = cc
occurs-cyclic x f (Tree.pair a b) e differs same = omega (arith, size-fill_pair x f a b e, ap size same)
