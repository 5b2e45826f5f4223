-- A worked example of the bound: a conjunction whose first goal has answers at 0, 1 and 2 pulls.
use Rattle.std.proofs.Common.{◌≡◌, ℕ, true, [], ◌∷◌, length, refl}
use Rattle.kan_terms.specs.Tree.{Tree}
use Rattle.kan_model.specs.Programs.Goals.{Primitive, Goal, Relation, Program}
use Rattle.kan_model.specs.Stores.Solve.{solve_by, rounds, steps}
use Rattle.kan_model.specs.Streams.Running.{start}
use Rattle.kan_model.specs.Streams.Pulls.{answers_within, pulls_for}
use Rattle.kan_model.specs.Meaning.Derivations.{Derivation, derives}
use Rattle.kan_model.specs.Streams.Taking.{stores_within}

abbrev pub is : ℕ → Goal
is s = Goal.prim (Primitive.same (Tree.leaf 0) (Tree.sym s))

-- a relation that has the symbol 2, and one that has 1 and calls that one
abbrev pub last_one : Relation
last_one = record { params = 1; body = is 2 }

abbrev pub next_one : Relation
next_one = record { params = 1; body = Goal.either (is 1) (Goal.call 0 (Tree.leaf 0 ∷ [])) }

abbrev pub program : Program
program = record { relations = last_one ∷ next_one ∷ []; goals = last_one.body ∷ next_one.body ∷ [] }

-- the symbol 0 at once, 1 after a pull, and 2 after one more
abbrev pub first : Goal
first = Goal.either (is 0) (Goal.call 1 (Tree.leaf 0 ∷ []))

-- a second goal that holds of 2 alone, after a pull
abbrev pub second : Goal
second = Goal.call 0 (Tree.leaf 0 ∷ [])

abbrev pub whole : Goal
whole = Goal.both first second

pub first_at_once : length (stores_within program 0 (start first)) ≡ 1
unfolding solve_by rounds steps
first_at_once = refl

pub first_after_one : length (stores_within program 1 (start first)) ≡ 2
unfolding solve_by rounds steps
first_after_one = refl

pub first_after_two : length (stores_within program 2 (start first)) ≡ 3
unfolding solve_by rounds steps
first_after_two = refl

-- no more are counted for it
pub counted_at_once : answers_within program first 0 ≡ 1
counted_at_once = refl

pub counted_after_one : answers_within program first 1 ≡ 2
counted_after_one = refl

pub counted_after_two : answers_within program first 2 ≡ 3
counted_after_two = refl

-- the derivation of the third answer, and of both goals at it
abbrev pub to_first : Derivation
to_first = Derivation.right (Derivation.enter (Derivation.right (Derivation.enter Derivation.holds)))

abbrev pub to_whole : Derivation
to_whole = Derivation.both to_first (Derivation.enter Derivation.holds)

pub derived : derives program whole (Tree.sym 2 ∷ []) to_whole ≡ true
derived = refl

pub bound_of_first : pulls_for program first to_first ≡ 9
bound_of_first = refl

-- 2 to the power of 3 answers, times 9 + 2 + 1
pub bound_of_whole : pulls_for program whole to_whole ≡ 96
bound_of_whole = refl

-- the answer comes sooner, with the fifth pull: two for the first goal, and one for the second at each of its answers
pub none_with_four : stores_within program 4 (start whole) ≡ []
unfolding solve_by rounds steps
none_with_four = refl

pub comes_with_five : length (stores_within program 5 (start whole)) ≡ 1
unfolding solve_by rounds steps
comes_with_five = refl
