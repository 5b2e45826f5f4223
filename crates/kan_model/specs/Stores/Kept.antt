-- Which stores are kept: those whose equations have an answer under which the constraints hold.
use Rattle.std.specs.Prelude.{ℕ, Bool, true, false, ◌&&◌, not, eqb, List, Option, Some, None}
use Rattle.std.specs.List.{list_all, list_any}
use Rattle.kan_terms.specs.Tree.{Tree, Tm, has_symbol, term_eq}
use Rattle.kan_model.specs.Programs.Goals.{Primitive}
use Rattle.kan_model.specs.Stores.Store.{Store}
use Rattle.kan_model.specs.Stores.Solve.{Replacement, apply, solve_store}
use Rattle.kan_model.specs.declared.prims.Kind.{Kind}
use Rattle.kan_model.specs.declared.prims.Kind.TheVariants.{Symbol, Number, Text}

-- a variable, or an atom of the type
abbrev pub may_be : Kind → Tm → Bool
may_be kind (Tree.leaf v) = true
may_be Symbol (Tree.sym s) = true
may_be Number (Tree.num n) = true
may_be Text (Tree.str s) = true
may_be _ _ = false

-- what one primitive asks of its sides under the answer
abbrev pub allows : Replacement → Primitive Tm → Bool
allows s (Primitive.same a b) = true
allows s (Primitive.differ a b) = not (term_eq (apply s a) (apply s b))
allows s (Primitive.symbol a) = may_be Symbol (apply s a)
allows s (Primitive.number a) = may_be Number (apply s a)
allows s (Primitive.text a) = may_be Text (apply s a)
allows s (Primitive.absent tag a) = not (has_symbol tag (apply s a))

-- the term is this variable
abbrev pub is_variable : ℕ → Tm → Bool
is_variable v (Tree.leaf w) = eqb v w
is_variable v _ = false

-- the primitive gives this variable a type under the answer
abbrev pub gives_type : Kind → Replacement → ℕ → Primitive Tm → Bool
gives_type Symbol s v (Primitive.symbol a) = is_variable v (apply s a)
gives_type Number s v (Primitive.number a) = is_variable v (apply s a)
gives_type Text s v (Primitive.text a) = is_variable v (apply s a)
gives_type kind s v _ = false

-- a variable has a type
abbrev pub has_type : Kind → Replacement → List (Primitive Tm) → ℕ → Bool
has_type kind s ps v = list_any (gives_type kind s v) ps

-- the term isn't a variable that has the type
abbrev pub lacks_type : Kind → Replacement → List (Primitive Tm) → Tm → Bool
lacks_type kind s ps (Tree.leaf v) = not (has_type kind s ps v)
lacks_type kind s ps _ = true

-- the primitive gives no variable a second type; each two of the three types are compared once
abbrev pub gives_one_type : Replacement → List (Primitive Tm) → Primitive Tm → Bool
gives_one_type s ps (Primitive.symbol a) =
    lacks_type Number s ps (apply s a) && lacks_type Text s ps (apply s a)
gives_one_type s ps (Primitive.text a) = lacks_type Number s ps (apply s a)
gives_one_type s ps _ = true

-- under the answer each primitive is allowed, and no variable has two types
abbrev pub holds_under : List (Primitive Tm) → Replacement → Bool
holds_under ps s = list_all (allows s) ps && list_all (gives_one_type s ps) ps

abbrev pub holds_with : List (Primitive Tm) → Option Replacement → Bool
holds_with ps None = false
holds_with ps (Some s) = holds_under ps s

-- a store is kept
abbrev pub is_kept : Store → Bool
is_kept st = holds_with st.prims (solve_store st)
