-- What is looked up under an answer, and what lists are made of.
use Rattle.std.specs.Prelude.{ℕ, Bool, false, eqb, List, [], ◌∷◌, Option, Some, None, if◌then◌else◌}
use Rattle.kan_terms.specs.Tree.{Tree, Tm, occurs}
use Rattle.kan_model.specs.Programs.Goals.{Primitive}
use Rattle.kan_model.specs.Stores.Store.{Equation}
use Rattle.kan_model.specs.Stores.Solve.{Replacement, image, apply}
use Rattle.kan_model.specs.Stores.Kept.{has_type}
use Rattle.kan_model.specs.declared.prims.Kind.{Kind}
use Rattle.kan_model.specs.declared.prims.Kind.TheVariants.{Symbol, Number, Text}
use Rattle.kan_model.specs.declared.letters.Letter.{Letter}
use Rattle.kan_model.specs.declared.letters.Letter.TheVariants.{Sym}

-- the image of a term that is a variable, and any other term itself
abbrev pub shallow_image : Replacement → Tm → Tm
shallow_image s (Tree.leaf v) = image s v
shallow_image s t = t

-- the letter is this symbol
abbrev pub is_symbol_of : ℕ → Letter → Bool
is_symbol_of tag (Sym s) = eqb tag s
is_symbol_of tag _ = false

-- the type that primitives give a variable under an answer, where they give one
abbrev pub kind_under : Replacement → List (Primitive Tm) → ℕ → Option Kind
kind_under s ps v =
    if has_type Symbol s ps v then Some Symbol
    else (if has_type Number s ps v then Some Number
    else (if has_type Text s ps v then Some Text else None))

-- the tag that a primitive keeps out of a variable, where it keeps one out
abbrev pub tag_at : Replacement → ℕ → Primitive Tm → List ℕ
tag_at s v (Primitive.absent tag a) = if occurs v (apply s a) then tag ∷ [] else []
tag_at s v _ = []

-- the sides of a disequality as the one pair of a list
abbrev pub difference_at : Primitive Tm → List (List Equation)
difference_at (Primitive.differ a b) = (record { left = a; right = b } ∷ []) ∷ []
difference_at _ = []
