-- What the primitives and types of the code stand for.
use Rattle.kan_terms.specs.Tree.{Tm}
use Rattle.kan_terms.specs.Terms.{tree}
use Rattle.kan_terms.specs.declared.terms.TermPair.{TermPair}
use Rattle.kan_model.specs.Programs.Goals.{Primitive}
use Rattle.kan_model.specs.Stores.Store.{Equation}
use Rattle.kan_model.specs.declared.prims.Asserted.{Asserted}
use Rattle.kan_model.specs.declared.prims.Asserted.TheVariants.{Same, Differ, Symbol, Number, Text}
use Rattle.kan_model.specs.declared.prims.Asserted.TheVariants.{Absent}

abbrev pub prim : Asserted → Primitive Tm
prim (Same a b) = Primitive.same (tree a) (tree b)
prim (Differ a b) = Primitive.differ (tree a) (tree b)
prim (Symbol a) = Primitive.symbol (tree a)
prim (Number a) = Primitive.number (tree a)
prim (Text a) = Primitive.text (tree a)
prim (Absent tag a) = Primitive.absent tag (tree a)

-- a pair of terms is the equation of its two parts
abbrev pub equation : TermPair → Equation
equation e = record { left = tree e.first; right = tree e.rest }
