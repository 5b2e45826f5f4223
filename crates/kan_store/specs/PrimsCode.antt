-- How primitives are stored where only clauses read them.
use Rattle.std.specs.Prelude.{◌≡◌, ℕ, ◌⊎◌, List, refl}
use Rattle.std.specs.Coded.{Coded, code_by, coded⊎, coded×, coded_ℕ, coded_list}
use Rattle.std.proofs.Common.{inl, inr}
use Rattle.kan_terms.specs.Tree.{Tm}
use Rattle.kan_terms.specs.TermCode.{term_code, sides_code}
use Rattle.kan_model.specs.Programs.Goals.{Primitive}

-- the sides of a primitive, by its kind: an equation or a disequality; a type, or an absence
abbrev pub Parts : Type 0
Parts = ((Tm × Tm) ⊎ (Tm × Tm)) ⊎ ((Tm ⊎ (Tm ⊎ Tm)) ⊎ (ℕ × Tm))

abbrev pub parts : Primitive Tm → Parts
parts (Primitive.same a b) = inl (inl (a, b))
parts (Primitive.differ a b) = inl (inr (a, b))
parts (Primitive.symbol a) = inr (inl (inl a))
parts (Primitive.number a) = inr (inl (inr (inl a)))
parts (Primitive.text a) = inr (inl (inr (inr a)))
parts (Primitive.absent tag a) = inr (inr (tag, a))

abbrev pub of_parts : Parts → Primitive Tm
of_parts (inl (inl (a, b))) = Primitive.same a b
of_parts (inl (inr (a, b))) = Primitive.differ a b
of_parts (inr (inl (inl a))) = Primitive.symbol a
of_parts (inr (inl (inr (inl a)))) = Primitive.number a
of_parts (inr (inl (inr (inr a)))) = Primitive.text a
of_parts (inr (inr (tag, a))) = Primitive.absent tag a

pub of_parts-parts : (p : Primitive Tm) → of_parts (parts p) ≡ p
of_parts-parts (Primitive.same a b) = refl
of_parts-parts (Primitive.differ a b) = refl
of_parts-parts (Primitive.symbol a) = refl
of_parts-parts (Primitive.number a) = refl
of_parts-parts (Primitive.text a) = refl
of_parts-parts (Primitive.absent tag a) = refl

abbrev pub parts_code : Coded Parts
parts_code =
    coded⊎ (coded⊎ sides_code sides_code)
    (coded⊎ (coded⊎ term_code (coded⊎ term_code term_code)) (coded× coded_ℕ term_code))

abbrev pub prim_code : Coded (Primitive Tm)
prim_code = code_by Parts parts_code parts of_parts of_parts-parts

-- primitives are stored one after the other
abbrev pub prims_code : Coded (List (Primitive Tm))
prims_code = coded_list prim_code
