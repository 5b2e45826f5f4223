-- Variables and their names.
use Rattle.std.specs.Prelude.{ℕ, if◌then◌else◌, List, [], ◌∷◌, ◌++◌, Option, Some, None}
use Rattle.kan_model.specs.Answers.Order.{place_of, stands_in}
use Rattle.kan_model.specs.declared.letters.Letter.{Letter}
use Rattle.kan_model.specs.declared.letters.Letter.TheVariants as letters
use Rattle.reify.specs.declared.naming.Name.{Name}
use Rattle.reify.specs.declared.shaping.Shape.{Shape}
use Rattle.reify.specs.declared.shaping.Shape.TheVariants as shapes

-- the number that an entry of the tree of names is
abbrev pub number_of : Name → ℕ
number_of name = name.number

-- the name of a variable, where it has one
abbrev pub name_in : List ℕ → ℕ → Option ℕ
name_in vs v = if stands_in vs v then Some (place_of vs v) else None

-- variables with one more at the end, where it isn't there
abbrev pub with_variable : List ℕ → ℕ → List ℕ
with_variable vs v = if stands_in vs v then vs else vs ++ v ∷ []

-- variables with that of a letter
abbrev pub with_letter : List ℕ → Letter → List ℕ
with_letter vs (letters.Var v) = with_variable vs v
with_letter vs letters.Pair = vs
with_letter vs (letters.Sym s) = vs
with_letter vs (letters.Str s) = vs
with_letter vs (letters.Num n) = vs
with_letter vs (letters.Truth b) = vs
with_letter vs letters.Nil = vs

-- the variables among letters, in their order
abbrev pub variables_of : List Letter → List ℕ
variables_of [] = []
variables_of (letters.Var v ∷ xs) = v ∷ variables_of xs
variables_of (x ∷ xs) = variables_of xs

-- the shape of a letter whose variable is named
abbrev pub shape_in : List ℕ → Letter → Shape
shape_in vs (letters.Var v) = shapes.Name (place_of vs v)
shape_in vs letters.Pair = shapes.Pair
shape_in vs (letters.Sym s) = shapes.Sym s
shape_in vs (letters.Str s) = shapes.Str s
shape_in vs (letters.Num n) = shapes.Num n
shape_in vs (letters.Truth b) = shapes.Truth b
shape_in vs letters.Nil = shapes.Nil
