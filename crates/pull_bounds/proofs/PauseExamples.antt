-- Worked examples of the bound where goals pause: the same goals behind a pause, whose bounds are one more.
use Rattle.std.proofs.Common.{◌≡◌, true, [], ◌∷◌, length, refl}
use Rattle.kan_terms.specs.Tree.{Tree}
use Rattle.kan_model.specs.Programs.Goals.{Goal}
use Rattle.kan_model.specs.Stores.Solve.{solve_by, rounds, steps}
use Rattle.kan_model.specs.Streams.Running.{start}
use Rattle.kan_model.specs.Streams.Pulls.{answers_within, pulls_for}
use Rattle.kan_model.specs.Meaning.Derivations.{Derivation, derives}
use Rattle.kan_model.specs.Streams.Taking.{stores_within}
use Rattle.pull_bounds.proofs.NeverExamples.{program, one, two, three, a, answer, to_one, to_two, to_three}
use Rattle.pull_bounds.proofs.ConjunctionExamples.{is}

-- clauses that pause: the goals behind one, two and three that never answer
pub derived : derives program (Goal.later three) (a ∷ []) (Derivation.enter to_three) ≡ true
derived = refl

pub bound_of_one : pulls_for program (Goal.later one) (Derivation.enter to_one) ≡ 2
bound_of_one = refl

pub bound_of_two : pulls_for program (Goal.later two) (Derivation.enter to_two) ≡ 4
bound_of_two = refl

pub bound_of_three : pulls_for program (Goal.later three) (Derivation.enter to_three) ≡ 8
bound_of_three = refl

pub comes_behind_one : stores_within program 2 (start (Goal.later one)) ≡ answer ∷ []
unfolding solve_by rounds steps
comes_behind_one = refl

pub none_behind_one : stores_within program 1 (start (Goal.later one)) ≡ []
unfolding solve_by rounds steps
none_behind_one = refl

pub comes_behind_two : stores_within program 4 (start (Goal.later two)) ≡ answer ∷ []
unfolding solve_by rounds steps
comes_behind_two = refl

pub comes_behind_three : stores_within program 8 (start (Goal.later three)) ≡ answer ∷ []
unfolding solve_by rounds steps
comes_behind_three = refl

pub none_behind_three : stores_within program 7 (start (Goal.later three)) ≡ []
unfolding solve_by rounds steps
none_behind_three = refl

-- a conjunction whose first goal has the symbol 0 at once, 1 after a pause, and 2 after one more, under a fresh variable
abbrev first : Goal
first = Goal.either (is 0) (Goal.later (Goal.either (is 1) (Goal.later (Goal.fresh 1 (is 2)))))

-- and whose second goal holds of 2 alone, after a pause
abbrev whole : Goal
whole = Goal.both first (Goal.later (is 2))

pub first_after_two : length (stores_within program 2 (start first)) ≡ 3
unfolding solve_by rounds steps
first_after_two = refl

pub counted_at_once : answers_within program first 0 ≡ 1
counted_at_once = refl

pub counted_after_one : answers_within program first 1 ≡ 2
counted_after_one = refl

pub counted_after_two : answers_within program first 2 ≡ 3
counted_after_two = refl

abbrev to_first : Derivation
to_first = Derivation.right (Derivation.enter (Derivation.right (Derivation.enter (Derivation.choose (a ∷ []) Derivation.holds))))

abbrev to_whole : Derivation
to_whole = Derivation.both to_first (Derivation.enter Derivation.holds)

pub whole_derived : derives program whole (Tree.sym 2 ∷ []) to_whole ≡ true
whole_derived = refl

pub bound_of_whole : pulls_for program whole to_whole ≡ 96
bound_of_whole = refl

pub none_with_four : stores_within program 4 (start whole) ≡ []
unfolding solve_by rounds steps
none_with_four = refl

pub comes_with_five : length (stores_within program 5 (start whole)) ≡ 1
unfolding solve_by rounds steps
comes_with_five = refl
