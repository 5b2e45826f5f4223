-- Types of variables, as a map that gives a variable the type that stands on it.
use Rattle.std.specs.Prelude.{◌≡◌, ℕ, Bool, true, false, eqb, Option, Some, None, if◌then◌else◌}
use Rattle.kan_terms.specs.Tree.{Tree, Tm, Gd}
use Rattle.kan_model.specs.Meaning.Holds.{is_symbol, is_number, is_string}
use Rattle.kan_model.specs.Stores.Kept.{may_be}
use Rattle.kan_model.specs.declared.prims.Kind.{Kind}
use Rattle.kan_model.specs.declared.prims.Kind.TheVariants.{Symbol, Number, Text}

-- types of variables
abbrev pub Types : Type 0
Types = ℕ → Option Kind

-- two types are the same
abbrev pub same_kind : Kind → Kind → Bool
same_kind Symbol Symbol = true
same_kind Number Number = true
same_kind Text Text = true
same_kind _ _ = false

-- there is no other type
abbrev pub no_other : Kind → Option Kind → Bool
no_other kind None = true
no_other kind (Some known) = same_kind kind known

-- a variable of no other type, or an atom of the type
abbrev pub may_have : Types → Kind → Tm → Bool
may_have types kind (Tree.leaf v) = no_other kind (types v)
may_have types kind t = may_be kind t

-- the types with one of a variable more; all other terms add none
abbrev pub with_type : Types → Kind → Tm → Types
with_type types kind (Tree.leaf v) = λ x. if eqb x v then Some kind else types x
with_type types kind t = types

-- the types with that of a term, and none exactly where the term can't have it
abbrev pub GivesTypes : Types → Kind → Tm → Option Types → Type 0
GivesTypes old kind t None = may_have old kind t ≡ false
GivesTypes old kind t (Some new) =
    (may_have old kind t ≡ true) × ((v : ℕ) → new v ≡ with_type old kind t v)

-- the types where a variable's type goes over to a term; a variable without a type leaves them as
-- they are
abbrev pub MovesTypes : Types → Option Kind → Tm → Option Types → Type 0
MovesTypes old (Some kind) t new = GivesTypes old kind t new
MovesTypes old None t None = ⊥
MovesTypes old None t (Some new) = (v : ℕ) → new v ≡ old v

-- a ground term is of a type
abbrev pub is_of : Kind → Gd → Bool
is_of Symbol = is_symbol
is_of Number = is_number
is_of Text = is_string

-- what f puts for variables is of their types
abbrev pub Typed : (ℕ → Gd) → Types → Type 0
Typed f types = (v : ℕ) (kind : Kind) → types v ≡ Some kind → is_of kind (f v) ≡ true

-- what was made, if it was made
abbrev pub made_if : {A : Type 0} → Bool → A → Option A
made_if true made = Some made
made_if false made = None
