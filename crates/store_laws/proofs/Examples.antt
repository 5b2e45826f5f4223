-- Small equations, solved.
use Rattle.std.specs.Prelude.{◌≡◌, ℕ, [], ◌∷◌, ◌++◌, Some, None, refl}
use Rattle.kan_terms.specs.Tree.{Tree, Tm}
use Rattle.kan_model.specs.Stores.Store.{Equation}
use Rattle.kan_model.specs.Stores.Solve.{Replaced, solve, solve_by, rounds, steps, left_first}
use Rattle.kan_model.specs.Stores.Composition.{go_on}
use Rattle.store_laws.specs.SolvedForms.{lower_first}

abbrev equal : Tm → Tm → Equation
equal a b = record { left = a; right = b }

abbrev becomes : ℕ → Tm → Replaced
becomes x t = record { var = x; by = t }

abbrev x : Tm
x = Tree.leaf 0

abbrev y : Tm
y = Tree.leaf 1

abbrev both : Tm
both = Tree.pair (Tree.leaf 2) Tree.nil

-- two lists of the same unifiers have one form in the order of numbers
from_the_first : solve_by (lower_first (λ v. v)) (equal x y ∷ equal y both ∷ []) ≡ Some (becomes 0 both ∷ becomes 1 both ∷ [])
unfolding solve_by rounds steps
from_the_first = refl

from_the_last : solve_by (lower_first (λ v. v)) (equal (Tree.pair both y) (Tree.pair y x) ∷ []) ≡ Some (becomes 1 both ∷ becomes 0 both ∷ [])
unfolding solve_by rounds steps
from_the_last = refl

-- without an order they haven't
left_replaced : solve (equal x y ∷ []) ≡ Some (becomes 0 y ∷ [])
unfolding solve_by rounds steps
left_replaced = refl

right_replaced : solve (equal y x ∷ []) ≡ Some (becomes 1 x ∷ [])
unfolding solve_by rounds steps
right_replaced = refl

-- the solver goes on
in_two_pieces : solve ((equal x y ∷ []) ++ equal x both ∷ []) ≡ go_on left_first (equal x both ∷ []) (solve (equal x y ∷ []))
unfolding solve_by rounds steps
in_two_pieces = refl

the_whole : solve ((equal x y ∷ []) ++ equal x both ∷ []) ≡ Some (becomes 0 both ∷ becomes 1 both ∷ [])
unfolding solve_by rounds steps
the_whole = refl

no_further : solve ((equal x y ∷ []) ++ equal x (Tree.pair y y) ∷ []) ≡ None
unfolding solve_by rounds steps
no_further = refl
