-- How many slots must be in scope for a template and for a goal, and the heights and widths that
-- tables note.
use Rattle.std.specs.Prelude.{ℕ, ◌+◌, ◌-◌, ◌^◌, min, max, List, [], ◌∷◌}
use Rattle.kan_terms.specs.Tree.{Tree}
use Rattle.kan_model.specs.Programs.Goals.{Template, Primitive, Goal}
use Rattle.kan_model.specs.Programs.Scope.{height, width}

-- one more than the greatest slot of a template
abbrev pub slots : Template → ℕ
slots (Tree.leaf i) = i + 1
slots (Tree.sym s) = 0
slots (Tree.str s) = 0
slots (Tree.num n) = 0
slots (Tree.truth b) = 0
slots Tree.nil = 0
slots (Tree.pair a b) = max (slots a) (slots b)

-- the same of several templates
abbrev pub most_slots : List Template → ℕ
most_slots [] = 0
most_slots (t ∷ ts) = max (slots t) (most_slots ts)

-- the same of the sides of a primitive
abbrev pub sides_slots : Primitive Template → ℕ
sides_slots (Primitive.same a b) = max (slots a) (slots b)
sides_slots (Primitive.differ a b) = max (slots a) (slots b)
sides_slots (Primitive.symbol a) = slots a
sides_slots (Primitive.number a) = slots a
sides_slots (Primitive.text a) = slots a
sides_slots (Primitive.absent tag a) = slots a

-- how many slots a goal finds outside it: each fresh brings some itself
abbrev pub goal_slots : Goal → ℕ
goal_slots (Goal.prim p) = sides_slots p
goal_slots Goal.succeed = 0
goal_slots Goal.fail = 0
goal_slots (Goal.both g h) = max (goal_slots g) (goal_slots h)
goal_slots (Goal.either g h) = max (goal_slots g) (goal_slots h)
goal_slots (Goal.fresh k g) = goal_slots g - k
goal_slots (Goal.later g) = goal_slots g
goal_slots (Goal.call r args) = most_slots args

-- heights are noted as far as the first one that is too high, widths as far as the greatest number
-- of 32 bits
abbrev pub noted_height : Template → ℕ
noted_height t = min (height t) 2049

abbrev pub noted_width : Goal → ℕ
noted_width g = min (width g) (2 ^ 32 - 1)
