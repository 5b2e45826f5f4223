-- Worked examples of runs over relations: fair turns, the fuel, and the end.
use Rattle.std.proofs.Common.{◌≡◌, ℕ, refl, List, [], ◌∷◌, ◌++◌, Option, None, Some, codes}
use Rattle.kan_terms.specs.Tree.{Tree}
use Rattle.kan_model.specs.Programs.Goals.{Primitive, Goal, Relation, Program, Template}
use Rattle.kan_model.specs.Stores.Solve.{solve_by, rounds, steps}
use Rattle.kan_model.specs.Answers.Decimals.{decimal_text}
use Rattle.kan_model.specs.Answers.Output.{runs_output, line}

abbrev q : Template
q = Tree.leaf 0

abbrev equal : Template → Template → Goal
equal a b = Goal.prim (Primitive.same a b)

-- the first argument is the second one, over and over
abbrev always : Relation
always = record { params = 2; body = Goal.either (equal (Tree.leaf 0) (Tree.leaf 1)) (Goal.call 0 (Tree.leaf 0 ∷ Tree.leaf 1 ∷ [])) }

-- a relation that only calls itself
abbrev never : Relation
never = record { params = 0; body = Goal.call 0 [] }

abbrev program_of : Relation → Program
program_of r = record { relations = r ∷ []; goals = r.body ∷ [] }

abbrev output_of : Relation → ℕ → Option ℕ → Goal → List ℕ
output_of r fuel limit g = runs_output (record { symbols = codes "a" ∷ codes "b" ∷ []; strings = [] }) (program_of r) fuel (record { goal = g; limit = limit } ∷ [])

abbrev always_is : ℕ → Goal
always_is s = Goal.call 0 (q ∷ Tree.sym s ∷ [])

-- two relations that answer for ever take turns
pub fair_turns : output_of always 100 (Some 4) (Goal.either (always_is 0) (always_is 1)) ≡
    line (codes "a") ++ line (codes "b") ++ line (codes "a") ++ line (codes "b") ++ line (codes "; 4 answers, 5 pulls, limit")
unfolding solve_by rounds steps decimal_text
fair_turns = refl

-- a relation that calls itself spends the fuel
pub spent_fuel : output_of never 10 None (Goal.both (Goal.call 0 []) Goal.fail) ≡ line (codes "; 0 answers, 10 pulls, fuel")
unfolding solve_by rounds steps decimal_text
spent_fuel = refl

-- what fails first ends without a pull
pub failed_first : output_of never 10 None (Goal.both Goal.fail (Goal.call 0 [])) ≡ line (codes "; 0 answers, 0 pulls, end")
unfolding solve_by rounds steps decimal_text
failed_first = refl

-- a limit of no answer is reached at once
pub no_answer_wanted : output_of never 10 (Some 0) (Goal.call 0 []) ≡ line (codes "; 0 answers, 0 pulls, limit")
unfolding solve_by rounds steps decimal_text
no_answer_wanted = refl

-- an answer beside a relation that calls itself comes after a pull, and behind two of them after three
pub beside_never : output_of never 10 (Some 1) (Goal.either (Goal.call 0 []) (equal q (Tree.sym 0))) ≡ line (codes "a") ++ line (codes "; 1 answers, 1 pulls, limit")
unfolding solve_by rounds steps decimal_text
beside_never = refl

pub behind_two_nevers : output_of never 10 (Some 1) (Goal.either (Goal.call 0 []) (Goal.either (Goal.call 0 []) (equal q (Tree.sym 0)))) ≡
    line (codes "a") ++ line (codes "; 1 answers, 3 pulls, limit")
unfolding solve_by rounds steps decimal_text
behind_two_nevers = refl

pub behind_three_nevers :
    output_of never 10 (Some 1) (Goal.either (Goal.call 0 []) (Goal.either (Goal.call 0 []) (Goal.either (Goal.call 0 []) (equal q (Tree.sym 0))))) ≡
    line (codes "a") ++ line (codes "; 1 answers, 7 pulls, limit")
unfolding solve_by rounds steps decimal_text
behind_three_nevers = refl

-- a goal that comes later takes a pull, also where it gives two answers
pub one_pause : output_of never 10 None (Goal.later (Goal.either (equal q (Tree.sym 0)) (equal q (Tree.sym 1)))) ≡
    line (codes "a") ++ line (codes "b") ++ line (codes "; 2 answers, 1 pulls, end")
unfolding solve_by rounds steps decimal_text
one_pause = refl

-- an answer that comes later is behind a relation that only calls itself, whose calls come later too
pub pause_behind_never :
    output_of never 10 (Some 1) (Goal.later (Goal.either (Goal.call 0 []) (equal q (Tree.sym 0)))) ≡ line (codes "a") ++ line (codes "; 1 answers, 2 pulls, limit")
unfolding solve_by rounds steps decimal_text
pause_behind_never = refl

-- Appending, where each disjunction and each fresh comes later: a list is empty and the other one the whole, or its first
-- element is the whole's, and the rests are appended.
abbrev appending : Relation
appending = record {
  params = 3;
  body = Goal.later (Goal.either
      (Goal.both (equal (Tree.leaf 0) Tree.nil) (equal (Tree.leaf 1) (Tree.leaf 2)))
      (Goal.later (Goal.fresh 3 (Goal.both (equal (Tree.pair (Tree.leaf 3) (Tree.leaf 4)) (Tree.leaf 0))
      (Goal.both (equal (Tree.pair (Tree.leaf 3) (Tree.leaf 5)) (Tree.leaf 2)) (Goal.call 0 (Tree.leaf 4 ∷ Tree.leaf 1 ∷ Tree.leaf 5 ∷ [])))))));
}

abbrev two_of : Template → Template → Template
two_of a b = Tree.pair a (Tree.pair b Tree.nil)

-- one pull for the run's own fresh, and three for each level: a call, a disjunction and a fresh
pub three_levels : output_of appending 100 None (Goal.later (Goal.fresh 2 (Goal.both (equal (two_of (Tree.leaf 1) (Tree.leaf 2)) q)
    (Goal.call 0 (Tree.leaf 1 ∷ Tree.leaf 2 ∷ two_of (Tree.sym 0) (Tree.sym 1) ∷ []))))) ≡
    line (codes "(() (a b))") ++ line (codes "((a) (b))") ++ line (codes "((a b) ())") ++ line (codes "; 3 answers, 10 pulls, end")
unfolding solve_by rounds steps decimal_text
three_levels = refl
