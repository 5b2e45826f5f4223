-- Trees: what terms, templates and ground terms have in common. The leaves that stand for something
-- else are of any type.
use Rattle.std.specs.Prelude.{ℕ, ◌+◌, ◌-◌, ◌^◌, min, ℤ, Bool, true, false, ◌&&◌, ◌||◌, eqb, List}
use Rattle.std.specs.Prelude.{[], ◌∷◌, ◌++◌}
use Rattle.std.specs.Ordering.{int_eq}

-- a tree with leaves of the type V beside the six kinds of constants
pub data Tree (V : Type 0) : Type 0 where
  leaf : V → Tree V
  sym : ℕ → Tree V
  str : ℕ → Tree V
  num : ℤ → Tree V
  truth : Bool → Tree V
  nil : Tree V
  pair : Tree V → Tree V → Tree V

-- a term has variables for its leaves
abbrev pub Tm : Type 0
Tm = Tree ℕ

-- a ground term has no leaf
abbrev pub Gd : Type 0
Gd = Tree ⊥

-- each leaf is replaced by a tree
abbrev pub fill : {V W : Type 0} → (V → Tree W) → Tree V → Tree W
fill f (Tree.leaf v) = f v
fill f (Tree.sym s) = Tree.sym s
fill f (Tree.str s) = Tree.str s
fill f (Tree.num n) = Tree.num n
fill f (Tree.truth b) = Tree.truth b
fill f Tree.nil = Tree.nil
fill f (Tree.pair a b) = Tree.pair (fill f a) (fill f b)

-- the leaves from left to right
abbrev pub leaves : {V : Type 0} → Tree V → List V
leaves (Tree.leaf v) = v ∷ []
leaves (Tree.sym s) = []
leaves (Tree.str s) = []
leaves (Tree.num n) = []
leaves (Tree.truth b) = []
leaves Tree.nil = []
leaves (Tree.pair a b) = leaves a ++ leaves b

-- a variable stands in a term
abbrev pub occurs : ℕ → Tm → Bool
occurs x (Tree.leaf v) = eqb x v
occurs x (Tree.sym s) = false
occurs x (Tree.str s) = false
occurs x (Tree.num n) = false
occurs x (Tree.truth b) = false
occurs x Tree.nil = false
occurs x (Tree.pair a b) = occurs x a || occurs x b

-- a symbol stands in a tree
abbrev pub has_symbol : {V : Type 0} → ℕ → Tree V → Bool
has_symbol s (Tree.leaf v) = false
has_symbol s (Tree.sym r) = eqb s r
has_symbol s (Tree.str r) = false
has_symbol s (Tree.num n) = false
has_symbol s (Tree.truth b) = false
has_symbol s Tree.nil = false
has_symbol s (Tree.pair a b) = has_symbol s a || has_symbol s b

-- two truth values are the same
abbrev pub bool_eq : Bool → Bool → Bool
bool_eq true true = true
bool_eq true false = false
bool_eq false true = false
bool_eq false false = true

-- two trees are the same, where same tells it of leaves
abbrev pub tree_eq : {V : Type 0} → (V → V → Bool) → Tree V → Tree V → Bool
tree_eq same (Tree.leaf v) (Tree.leaf w) = same v w
tree_eq same (Tree.sym s) (Tree.sym r) = eqb s r
tree_eq same (Tree.str s) (Tree.str r) = eqb s r
tree_eq same (Tree.num m) (Tree.num n) = int_eq m n
tree_eq same (Tree.truth a) (Tree.truth b) = bool_eq a b
tree_eq same Tree.nil Tree.nil = true
tree_eq same (Tree.pair a b) (Tree.pair c d) = tree_eq same a c && tree_eq same b d
tree_eq same _ _ = false

-- two terms are the same
abbrev pub term_eq : Tm → Tm → Bool
term_eq = tree_eq eqb

-- two ground terms are the same
abbrev pub ground_eq : Gd → Gd → Bool
ground_eq = tree_eq (λ none. absurd none)

-- how many nodes a tree has
abbrev pub size : {V : Type 0} → Tree V → ℕ
size (Tree.leaf v) = 1
size (Tree.sym s) = 1
size (Tree.str s) = 1
size (Tree.num n) = 1
size (Tree.truth b) = 1
size Tree.nil = 1
size (Tree.pair a b) = 1 + size a + size b

-- the same, as far as the greatest number of 64 bits
abbrev pub noted_size : {V : Type 0} → Tree V → ℕ
noted_size t = min (size t) (2 ^ 64 - 1)

-- the first two trees, joined
abbrev pub join_two : {V : Type 0} → List (Tree V) → List (Tree V)
join_two [] = []
join_two (only ∷ []) = only ∷ []
join_two (first ∷ second ∷ more) = Tree.pair first second ∷ more

-- the first of some trees
abbrev pub first_tree : {V : Type 0} → List (Tree V) → Tree V
first_tree [] = Tree.nil
first_tree (first ∷ more) = first
