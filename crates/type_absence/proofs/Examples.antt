-- The definitions on small examples.
use Rattle.std.proofs.Common.{◌≡◌, ℕ, true, false, [], ◌∷◌, None, pos, refl}
use Rattle.kan_terms.specs.Tree.{Tree}
use Rattle.kan_model.specs.declared.prims.Kind.TheVariants.{Symbol, Number, Text}
use Rattle.type_absence.specs.Tags.{with_tags, has_any, is_once}
use Rattle.type_absence.specs.Types.{Types, may_have, with_type}

-- a tag that is there stays in its place, and new ones stand last in their order
tags_in_order : with_tags (1 ∷ 2 ∷ 3 ∷ 1 ∷ []) (2 ∷ 5 ∷ []) ≡ 2 ∷ 5 ∷ 1 ∷ 3 ∷ []
tags_in_order = refl

once : is_once (2 ∷ 5 ∷ 1 ∷ []) ≡ true
once = refl

not_once : is_once (2 ∷ 5 ∷ 2 ∷ []) ≡ false
not_once = refl

-- the symbol 7 stands in the rest of a pair; the string 7 is no symbol
inside : has_any {V = ℕ} (3 ∷ 7 ∷ []) (Tree.pair (Tree.leaf 7) (Tree.sym 7)) ≡ true
inside = refl

a_string : has_any {V = ℕ} (3 ∷ 7 ∷ []) (Tree.pair (Tree.leaf 7) (Tree.str 7)) ≡ false
a_string = refl

-- types in which variable 0 is a number
abbrev one_number : Types
one_number = with_type (λ v. None) Number (Tree.leaf 0)

same_type : may_have one_number Number (Tree.leaf 0) ≡ true
same_type = refl

other_type : may_have one_number Symbol (Tree.leaf 0) ≡ false
other_type = refl

no_type : may_have one_number Text (Tree.leaf 1) ≡ true
no_type = refl

an_atom : may_have one_number Number (Tree.num (pos 4)) ≡ true
an_atom = refl

a_pair : may_have one_number Number (Tree.pair (Tree.leaf 0) Tree.nil) ≡ false
a_pair = refl

-- an atom adds no type
atoms_add_none : with_type one_number Symbol (Tree.sym 3) 1 ≡ None
atoms_add_none = refl
