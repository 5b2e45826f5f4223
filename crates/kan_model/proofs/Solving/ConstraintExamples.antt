-- Worked examples of constraints: which answers they leave, and how they are written.
use Rattle.std.proofs.Common.{◌≡◌, ℕ, refl, List, [], ◌∷◌, ◌++◌, None, pos, codes}
use Rattle.kan_terms.specs.Tree.{Tree}
use Rattle.kan_model.specs.Programs.Goals.{Primitive, Goal, Template}
use Rattle.kan_model.specs.Stores.Solve.{solve_by, rounds, steps}
use Rattle.kan_model.specs.Answers.Decimals.{decimal_text}
use Rattle.kan_model.specs.Answers.Output.{runs_output, line}

abbrev q : Template
q = Tree.leaf 0

abbrev x : Template
x = Tree.leaf 1

abbrev y : Template
y = Tree.leaf 2

abbrev num : ℕ → Template
num n = Tree.num (pos n)

abbrev equal : Template → Template → Goal
equal a b = Goal.prim (Primitive.same a b)

abbrev different : Template → Template → Goal
different a b = Goal.prim (Primitive.differ a b)

-- the text of a run of one goal, where a and b are the symbols and the strings
abbrev output_for : Goal → List ℕ
output_for g = runs_output (record { symbols = codes "a" ∷ codes "b" ∷ []; strings = codes "a" ∷ codes "b" ∷ [] }) (record { relations = []; goals = [] }) 100 (record { goal = g; limit = None } ∷ [])

-- a run that asks for two values
abbrev for_two : Goal → Goal
for_two g = Goal.fresh 2 (Goal.both (equal (Tree.pair x (Tree.pair y Tree.nil)) q) g)

abbrev one_answer : List ℕ → List ℕ
one_answer text = line text ++ line (codes "; 1 answers, 0 pulls, end")

abbrev no_answer : List ℕ
no_answer = line (codes "; 0 answers, 0 pulls, end")

abbrev one_two : Template
one_two = Tree.pair (num 1) (num 2)

-- a disequality of pairs names both of their parts
pub two_pairs : output_for (for_two (different (Tree.pair x y) one_two)) ≡ one_answer (codes "(_0 _1) where (=/= ((_0 1) (_1 2)))")
unfolding solve_by rounds steps decimal_text
two_pairs = refl

-- a symbol is no number anyway
pub symbol_aside : output_for (Goal.both (Goal.prim (Primitive.symbol q)) (different q (num 5))) ≡ one_answer (codes "_0 where (sym _0)")
unfolding solve_by rounds steps decimal_text
symbol_aside = refl

-- a disequality with a variable that has no name isn't written
pub unnamed : output_for (Goal.fresh 1 (different q x)) ≡ one_answer (codes "_0")
unfolding solve_by rounds steps decimal_text
unnamed = refl

-- a tag that is kept out doesn't come in later
pub kept_out : output_for (Goal.both (Goal.prim (Primitive.absent 0 q)) (equal q (Tree.pair (Tree.sym 1) (Tree.pair (Tree.sym 0) Tree.nil)))) ≡ no_answer
unfolding solve_by rounds steps decimal_text
kept_out = refl

-- disequalities are written in the order of their bytes, and those that can't be false are left out
pub in_byte_order :
    output_for (Goal.both (different q (num 3)) (Goal.both (different (Tree.pair q (num 2)) one_two) (different q (num 1)))) ≡
    one_answer (codes "_0 where (=/= ((_0 1))) (=/= ((_0 3)))")
unfolding solve_by rounds steps decimal_text
in_byte_order = refl

-- a disequality that a stronger one implies is left out, and the stronger one stays
pub stronger_stays :
    output_for (for_two (Goal.both (different x y) (Goal.both (different x (num 1)) (different (Tree.pair x y) one_two)))) ≡
    one_answer (codes "(_0 _1) where (=/= ((_0 1))) (=/= ((_0 _1)))")
unfolding solve_by rounds steps decimal_text
stronger_stays = refl

-- numbers, symbols and absences, in this order; a number has no absence
pub all_kinds :
    output_for (for_two (Goal.both (Goal.prim (Primitive.number x)) (Goal.both (Goal.prim (Primitive.symbol y))
    (Goal.both (Goal.prim (Primitive.absent 1 y)) (Goal.prim (Primitive.absent 0 (Tree.pair x y))))))) ≡
    one_answer (codes "(_0 _1) where (num _0) (sym _1) (absent a _1) (absent b _1)")
unfolding solve_by rounds steps decimal_text
all_kinds = refl

-- a string is no number anyway, and has no absence
pub string_aside :
    output_for (Goal.both (Goal.prim (Primitive.text q)) (Goal.both (different q (num 5)) (different q (Tree.str 0)))) ≡
    one_answer (codes "_0 where (=/= ((_0 \"a\"))) (str _0)")
unfolding solve_by rounds steps decimal_text
string_aside = refl

pub no_tag_in_string : output_for (Goal.both (Goal.prim (Primitive.text q)) (Goal.prim (Primitive.absent 0 q))) ≡ one_answer (codes "_0 where (str _0)")
unfolding solve_by rounds steps decimal_text
no_tag_in_string = refl

-- nothing is a string and a symbol, or a string and a number
pub string_or_symbol : output_for (Goal.both (Goal.prim (Primitive.text q)) (Goal.prim (Primitive.symbol q))) ≡ no_answer
unfolding solve_by rounds steps decimal_text
string_or_symbol = refl

pub string_or_number : output_for (Goal.both (Goal.prim (Primitive.text q)) (Goal.prim (Primitive.number q))) ≡ no_answer
unfolding solve_by rounds steps decimal_text
string_or_number = refl

-- two sides that can't be equal any more leave no disequality
pub never_equal : output_for (Goal.both (equal q (Tree.pair (num 1) (num 3))) (different q one_two)) ≡ one_answer (codes "(1 . 3)")
unfolding solve_by rounds steps decimal_text
never_equal = refl

-- identical sides leave no answer
pub identical_sides : output_for (Goal.both (equal q (num 1)) (different q (num 1))) ≡ no_answer
unfolding solve_by rounds steps decimal_text
identical_sides = refl
