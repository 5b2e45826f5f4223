-- Widths of goals, small programs, and which slots, variables and relations are there.
use Rattle.std.specs.Prelude.{ℕ, suc, ◌+◌, ◌^◌, max, Bool, true, false, ◌&&◌, eqb, nat_lt, nat_le}
use Rattle.std.specs.Prelude.{List, length, Option, Some, None, slice_get}
use Rattle.std.specs.List.{list_all}
use Rattle.kan_terms.specs.Tree.{Tree}
use Rattle.kan_model.specs.Programs.Goals.{Template, Primitive, Goal, Relation, Program}
use Rattle.kan_model.specs.Stores.Store.{Store}

-- the width of a goal: how many variables it can take before its calls are forced, those that name
-- a call's arguments among them
abbrev pub width : Goal → ℕ
width (Goal.prim p) = 0
width Goal.succeed = 0
width Goal.fail = 0
width (Goal.both g h) = width g + width h
width (Goal.either g h) = width g + width h
width (Goal.fresh k g) = k + width g
width (Goal.later g) = width g
width (Goal.call r args) = length args

abbrev pub is_narrow : Goal → Bool
is_narrow g = nat_lt (width g) (2 ^ 21)

-- a program is small where each goal in it is narrow, also one that no body uses
abbrev pub is_small : Program → Bool
is_small program = list_all is_narrow program.goals

-- all leaves of a tree are lower than a number: the slots of a template, the variables of a term
abbrev pub all_below : ℕ → Tree ℕ → Bool
all_below n (Tree.leaf v) = nat_lt v n
all_below n (Tree.sym s) = true
all_below n (Tree.str s) = true
all_below n (Tree.num m) = true
all_below n (Tree.truth b) = true
all_below n Tree.nil = true
all_below n (Tree.pair a b) = all_below n a && all_below n b

-- the same of the sides of a primitive
abbrev pub sides_below : ℕ → Primitive (Tree ℕ) → Bool
sides_below n (Primitive.same a b) = all_below n a && all_below n b
sides_below n (Primitive.differ a b) = all_below n a && all_below n b
sides_below n (Primitive.symbol a) = all_below n a
sides_below n (Primitive.number a) = all_below n a
sides_below n (Primitive.text a) = all_below n a
sides_below n (Primitive.absent tag a) = all_below n a

-- a store's counter lies above all its variables
abbrev pub is_counted : Store → Bool
is_counted st = list_all (sides_below st.counter) st.prims

-- a goal uses only the first n slots, and those that each fresh adds
abbrev pub in_scope : ℕ → Goal → Bool
in_scope n (Goal.prim p) = sides_below n p
in_scope n Goal.succeed = true
in_scope n Goal.fail = true
in_scope n (Goal.both g h) = in_scope n g && in_scope n h
in_scope n (Goal.either g h) = in_scope n g && in_scope n h
in_scope n (Goal.fresh k g) = in_scope (n + k) g
in_scope n (Goal.later g) = in_scope n g
in_scope n (Goal.call r args) = list_all (all_below n) args

-- a relation is there, and takes so many arguments
abbrev pub takes : Option Relation → ℕ → Bool
takes None n = false
takes (Some r) n = eqb r.params n

-- each call in a goal names a relation and has as many arguments as that takes
abbrev pub calls_there : List Relation → Goal → Bool
calls_there rs (Goal.prim p) = true
calls_there rs Goal.succeed = true
calls_there rs Goal.fail = true
calls_there rs (Goal.both g h) = calls_there rs g && calls_there rs h
calls_there rs (Goal.either g h) = calls_there rs g && calls_there rs h
calls_there rs (Goal.fresh k g) = calls_there rs g
calls_there rs (Goal.later g) = calls_there rs g
calls_there rs (Goal.call r args) = takes (slice_get rs r) (length args)

-- how many pairs high a tree is
abbrev pub height : {V : Type 0} → Tree V → ℕ
height (Tree.leaf v) = 0
height (Tree.sym s) = 0
height (Tree.str s) = 0
height (Tree.num n) = 0
height (Tree.truth b) = 0
height Tree.nil = 0
height (Tree.pair a b) = suc (max (height a) (height b))

abbrev pub is_low : Template → Bool
is_low t = nat_le (height t) 2048

-- a relation's body uses only the slots of its arguments
abbrev pub body_in_scope : Relation → Bool
body_in_scope r = in_scope r.params r.body

-- a program with these templates and goals of runs, which have slot 0, is complete: templates are
-- low, calls are answered, and slots are in scope
abbrev pub is_closed : List Template → Program → List Goal → Bool
is_closed templates program goals =
    list_all is_low templates && list_all (calls_there program.relations) program.goals
    && list_all body_in_scope program.relations && list_all (in_scope 1) goals
