-- Worked examples over the definitions alone: runs with their output.
use Rattle.std.proofs.Common.{◌≡◌, ℕ, refl, List, [], ◌∷◌, ◌++◌, None, pos, codes}
use Rattle.kan_terms.specs.Tree.{Tree}
use Rattle.kan_terms.specs.Table.{Table, no_names}
use Rattle.kan_model.specs.Programs.Goals.{Primitive, Goal, Program, Template}
use Rattle.kan_model.specs.Stores.Solve.{solve_by, rounds, steps}
use Rattle.kan_model.specs.Answers.Decimals.{decimal_text}
use Rattle.kan_model.specs.Answers.Output.{runs_output, line}

abbrev no_relations : Program
no_relations = record { relations = []; goals = [] }

abbrev q : Template
q = Tree.leaf 0

abbrev x : Template
x = Tree.leaf 1

abbrev y : Template
y = Tree.leaf 2

abbrev equal : Template → Template → Goal
equal a b = Goal.prim (Primitive.same a b)

-- the output of a run of one goal, where these are the texts of symbols and strings
abbrev output_for : Table → Goal → List ℕ
output_for table g = runs_output table no_relations 100 (record { goal = g; limit = None } ∷ [])

abbrev two_of : Template → Template → Template
two_of a b = Tree.pair a (Tree.pair b Tree.nil)

-- one equation with a symbol
pub one_symbol : output_for (record { symbols = codes "a" ∷ []; strings = [] }) (equal q (Tree.sym 0)) ≡ line (codes "a") ++ line (codes "; 1 answers, 0 pulls, end")
unfolding solve_by rounds steps decimal_text
one_symbol = refl

-- a term isn't equal to a pair in which it stands
pub occurs_check : output_for no_names (equal q (Tree.pair (Tree.num (pos 1)) q)) ≡ line (codes "; 0 answers, 0 pulls, end")
unfolding solve_by rounds steps decimal_text
occurs_check = refl

-- names go by first occurrence
pub names_by_occurrence :
    output_for no_names (Goal.fresh 2 (equal q (Tree.pair x (two_of y x)))) ≡ line (codes "(_0 _1 _0)") ++ line (codes "; 1 answers, 0 pulls, end")
unfolding solve_by rounds steps decimal_text
names_by_occurrence = refl

-- equal answers are written as often as they come
pub equal_answers :
    output_for no_names (Goal.either (equal q (Tree.num (pos 1))) (equal q (Tree.num (pos 1)))) ≡ line (codes "1") ++ line (codes "1") ++ line (codes "; 2 answers, 0 pulls, end")
unfolding solve_by rounds steps decimal_text
equal_answers = refl

-- a string is written in quotation marks, with the spellings of those inside
pub quoted_string : output_for (record { symbols = []; strings = codes "a\"b" ∷ [] }) (equal q (Tree.str 0)) ≡
    line (codes "\"a\\\"b\"") ++ line (codes "; 1 answers, 0 pulls, end")
unfolding solve_by rounds steps decimal_text
quoted_string = refl

-- a string isn't the symbol of the same text
pub string_is_no_symbol : output_for (record { symbols = codes "a" ∷ []; strings = codes "a" ∷ [] }) (equal (Tree.str 0) (Tree.sym 0)) ≡ line (codes "; 0 answers, 0 pulls, end")
unfolding solve_by rounds steps decimal_text
string_is_no_symbol = refl
