-- Programs: goals over templates, relations, and the goals of runs.
use Rattle.std.specs.Prelude.{ℕ, List, Option}
use Rattle.kan_terms.specs.Tree.{Tree}

-- a template is a tree whose leaves are slots
abbrev pub Template : Type 0
Template = Tree ℕ

-- the six primitives, over sides of the type X
pub data Primitive (X : Type 0) : Type 0 where
  same : X → X → Primitive X
  differ : X → X → Primitive X
  symbol : X → Primitive X
  number : X → Primitive X
  text : X → Primitive X
  absent : ℕ → X → Primitive X

-- a primitive with a function applied to its sides
abbrev pub on_sides : {X Y : Type 0} → (X → Y) → Primitive X → Primitive Y
on_sides f (Primitive.same a b) = Primitive.same (f a) (f b)
on_sides f (Primitive.differ a b) = Primitive.differ (f a) (f b)
on_sides f (Primitive.symbol a) = Primitive.symbol (f a)
on_sides f (Primitive.number a) = Primitive.number (f a)
on_sides f (Primitive.text a) = Primitive.text (f a)
on_sides f (Primitive.absent tag a) = Primitive.absent tag (f a)

-- a goal: the slots of its templates are the arguments, and behind them those that each enclosing
-- fresh adds; later suspends the goal in it
pub data Goal : Type 0 where
  prim : Primitive Template → Goal
  succeed : Goal
  fail : Goal
  both : Goal → Goal → Goal
  either : Goal → Goal → Goal
  fresh : ℕ → Goal → Goal
  later : Goal → Goal
  call : ℕ → List Template → Goal

-- a relation takes a number of arguments and has a goal for its body
pub record Relation : Type 0 where
  pub params : ℕ
  pub body : Goal

-- a program is a list of relations, beside all the goals that its table holds, whether a body uses
-- them or not
pub record Program : Type 0 where
  pub relations : List Relation
  pub goals : List Goal

-- a run asks for the values of slot 0 at which its goal holds, up to a limit of answers or without
-- one
pub record Query : Type 0 where
  pub goal : Goal
  pub limit : Option ℕ
