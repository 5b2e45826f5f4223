-- Worked examples of the bound: an answer behind one, two and three goals that never answer.
use Rattle.std.proofs.Common.{◌≡◌, true, [], ◌∷◌, refl}
use Rattle.kan_terms.specs.Tree.{Tree, Gd}
use Rattle.kan_model.specs.Programs.Goals.{Primitive, Goal, Relation, Program}
use Rattle.kan_model.specs.Stores.Store.{Store, bare, with_prim}
use Rattle.kan_model.specs.Stores.Solve.{solve_by, rounds, steps}
use Rattle.kan_model.specs.Streams.Running.{start}
use Rattle.kan_model.specs.Streams.Pulls.{pulls_for}
use Rattle.kan_model.specs.Meaning.Derivations.{Derivation, derives}
use Rattle.kan_model.specs.Streams.Taking.{stores_within}

-- a relation that only calls itself
abbrev pub nevero : Relation
nevero = record { params = 0; body = Goal.call 0 [] }

abbrev pub program : Program
program = record { relations = nevero ∷ []; goals = nevero.body ∷ [] }

-- what has an answer at once, and a goal behind one that never answers
abbrev pub equals_a : Goal
equals_a = Goal.prim (Primitive.same (Tree.leaf 0) (Tree.sym 0))

abbrev pub behind_never : Goal → Goal
behind_never g = Goal.either (Goal.call 0 []) g

abbrev pub one : Goal
one = behind_never equals_a

abbrev pub two : Goal
two = behind_never one

abbrev pub three : Goal
three = behind_never two

abbrev pub a : Gd
a = Tree.sym 0

abbrev pub answer : Store
answer = with_prim (bare 1) (Primitive.same (Tree.leaf 0) (Tree.sym 0))

-- the derivation goes right at each
abbrev pub to_one : Derivation
to_one = Derivation.right Derivation.holds

abbrev pub to_two : Derivation
to_two = Derivation.right to_one

abbrev pub to_three : Derivation
to_three = Derivation.right to_two

pub derived : derives program three (a ∷ []) to_three ≡ true
derived = refl

-- the bounds are 1, 3 and 7
pub bound_of_one : pulls_for program one to_one ≡ 1
bound_of_one = refl

pub bound_of_two : pulls_for program two to_two ≡ 3
bound_of_two = refl

pub bound_of_three : pulls_for program three to_three ≡ 7
bound_of_three = refl

-- and the answer comes there, and no sooner
pub comes_behind_one : stores_within program 1 (start one) ≡ answer ∷ []
unfolding solve_by rounds steps
comes_behind_one = refl

pub none_behind_one : stores_within program 0 (start one) ≡ []
unfolding solve_by rounds steps
none_behind_one = refl

pub comes_behind_two : stores_within program 3 (start two) ≡ answer ∷ []
unfolding solve_by rounds steps
comes_behind_two = refl

pub none_behind_two : stores_within program 2 (start two) ≡ []
unfolding solve_by rounds steps
none_behind_two = refl

pub comes_behind_three : stores_within program 7 (start three) ≡ answer ∷ []
unfolding solve_by rounds steps
comes_behind_three = refl

pub none_behind_three : stores_within program 6 (start three) ≡ []
unfolding solve_by rounds steps
none_behind_three = refl
