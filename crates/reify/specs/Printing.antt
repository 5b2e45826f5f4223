-- The text of shapes.
use Rattle.std.specs.Prelude.{ℕ, List, [], ◌∷◌, ◌++◌, codes}
use Rattle.kan_terms.specs.Table.{Table}
use Rattle.kan_model.specs.Answers.Decimals.{number_text}
use Rattle.kan_model.specs.Answers.Text.{name_text, symbol_text, string_text, truth_text}
use Rattle.reify.specs.declared.shaping.Shape.{Shape}
use Rattle.reify.specs.declared.shaping.Shape.TheVariants.{Pair, Name, Sym, Str, Num, Truth, Nil}
use Rattle.reify.specs.declared.printing.Place.{Place}
use Rattle.reify.specs.declared.printing.Place.TheVariants.{Element, Rest}

-- a shape alone, and nothing for a pair
abbrev pub atom_text : Table → Shape → List ℕ
atom_text table Pair = []
atom_text table (Name n) = name_text n
atom_text table (Sym s) = symbol_text table s
atom_text table (Str s) = string_text table s
atom_text table (Num n) = number_text n
atom_text table (Truth b) = truth_text b
atom_text table Nil = codes "()"

-- a shape behind an element: a space before the next element, the close of the list, or a dot, the
-- last part and the close
abbrev pub rest_text : Table → Shape → List ℕ
rest_text table Pair = 32 ∷ []
rest_text table (Name n) = codes " . " ++ name_text n ++ 41 ∷ []
rest_text table (Sym s) = codes " . " ++ symbol_text table s ++ 41 ∷ []
rest_text table (Str s) = codes " . " ++ string_text table s ++ 41 ∷ []
rest_text table (Num n) = codes " . " ++ number_text n ++ 41 ∷ []
rest_text table (Truth b) = codes " . " ++ truth_text b ++ 41 ∷ []
rest_text table Nil = 41 ∷ []

-- a shape as an element: the first bracket of its list, or its atom
abbrev pub element_text : Table → Shape → List ℕ
element_text table Pair = 40 ∷ []
element_text table (Name n) = name_text n
element_text table (Sym s) = symbol_text table s
element_text table (Str s) = string_text table s
element_text table (Num n) = number_text n
element_text table (Truth b) = truth_text b
element_text table Nil = codes "()"

-- a shape at a place
abbrev pub shape_text : Table → Place → Shape → List ℕ
shape_text table Element = element_text table
shape_text table Rest = rest_text table

-- the places of what follows a shape, the next one first
abbrev pub places_after : Shape → List Place → List Place
places_after Pair ps = Element ∷ Rest ∷ ps
places_after (Name n) ps = ps
places_after (Sym s) ps = ps
places_after (Str s) ps = ps
places_after (Num n) ps = ps
places_after (Truth b) ps = ps
places_after Nil ps = ps

-- the text of shapes of which each stands at the next place, as long as there is one
abbrev pub shapes_text : Table → List Place → List Shape → List ℕ
shapes_text table [] xs = []
shapes_text table (p ∷ ps) [] = []
shapes_text table (p ∷ ps) (x ∷ xs) =
    shape_text table p x ++ shapes_text table (places_after x ps) xs
