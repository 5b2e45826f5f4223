-- Terms and forms over named variables, under values for the names.
use Rattle.std.proofs.Common.{◌≡◌, ℕ, Bool, true, ◌&&◌, eqb, List, [], ◌∷◌, refl, sym, ap₂, subst, ◌∙◌, if◌then◌else◌, false}
use Rattle.std.specs.List.{list_all}
use Rattle.std.proofs.lemmas.Bool.{and_from, and_parts, eqb-true}
use Rattle.std.proofs.lemmas.List.Folds.{list_all-append}
use Rattle.kan_terms.specs.Tree.{Tree, Tm, Gd, fill, leaves}
use Rattle.kan_terms.specs.Valuations.{value_at, value}
use Rattle.kan_model.specs.Answers.Answer.{in_names, all_named, form_in_names}
use Rattle.kan_model.specs.Answers.Covers.{pair_met}
use Rattle.kan_model.specs.Answers.Order.{place_of, stands_in}
use Rattle.kan_model.specs.Stores.Solve.{Replaced, Replacement, image}
use Rattle.kan_model.specs.Stores.Unifiers.{Factors}
use Rattle.kan_model.specs.Each.{Each}
use Rattle.kan_terms.proofs.TreeLaws.{eq-ground_eq, ground_eq-true}

-- a replaced variable has the value of its term
abbrev pub PairHolds : (ℕ → Gd) → Replaced → Type 0
PairHolds f p = f p.var ≡ fill f p.by

-- values under which all pairs hold factor through the form
pub holding_factors : (f : ℕ → Gd) (g : Replacement) → Each (PairHolds f) g → Factors f g
holding_factors f [] h v = refl
holding_factors f (p ∷ g) (h, hs) v = by (eqb p.var v) refl (holding_factors f g hs v)
  where
    by : (c : Bool) → eqb p.var v ≡ c → f v ≡ fill f (image g v) → f v ≡ fill f (if c then p.by else image g v)
    by true same ih = subst (λ x. f x ≡ fill f p.by) (eqb-true p.var v same) h
    by false other ih = ih

abbrev pub pair_named : List ℕ → Replaced → Bool
pair_named vs p = stands_in vs p.var && list_all (stands_in vs) (leaves p.by)

-- names have the values of their variables
abbrev pub Agrees : List ℕ → List Gd → (ℕ → Gd) → Type 0
Agrees vs ws f = (v : ℕ) → stands_in vs v ≡ true → value_at ws (place_of vs v) ≡ f v

module _ (vs : List ℕ) (ws : List Gd) (f : ℕ → Gd) (agrees : Agrees vs ws f) where
  pub value-named : (t : Tm) → list_all (stands_in vs) (leaves t) ≡ true → value ws (in_names vs t) ≡ fill f t
  value-named (Tree.leaf v) h = agrees v (and_parts (stands_in vs v) true h).0
  value-named (Tree.sym s) h = refl
  value-named (Tree.str s) h = refl
  value-named (Tree.num n) h = refl
  value-named (Tree.truth b) h = refl
  value-named Tree.nil h = refl
  value-named (Tree.pair a b) h =
      let (first, rest) = and_parts (list_all (stands_in vs) (leaves a)) (list_all (stands_in vs) (leaves b)) (sym (list_all-append (stands_in vs) (leaves a) (leaves b)) ∙ h) in
      ap₂ Tree.pair (value-named a first) (value-named b rest)

  -- the pairs that are met are those that hold
  pub met_hold : (g : Replacement) → all_named vs g ≡ true → list_all (pair_met ws) (form_in_names vs g) ≡ true → Each (PairHolds f) g
  met_hold [] named met = tt
  met_hold (p ∷ g) named met =
      let (here, later) = and_parts (pair_named vs p) (all_named vs g) named in
      let (var, term) = and_parts (stands_in vs p.var) (list_all (stands_in vs) (leaves p.by)) here in
      let (first, rest) = and_parts (pair_met ws (record { name = place_of vs p.var; by = in_names vs p.by })) (list_all (pair_met ws) (form_in_names vs g)) met in
      (sym (agrees p.var var) ∙ ground_eq-true (value_at ws (place_of vs p.var)) (value ws (in_names vs p.by)) first ∙ value-named p.by term, met_hold g later rest)

  pub hold_met : (g : Replacement) → all_named vs g ≡ true → Each (PairHolds f) g → list_all (pair_met ws) (form_in_names vs g) ≡ true
  hold_met [] named holds = refl
  hold_met (p ∷ g) named (h, hs) =
      let (here, later) = and_parts (pair_named vs p) (all_named vs g) named in
      let (var, term) = and_parts (stands_in vs p.var) (list_all (stands_in vs) (leaves p.by)) here in
      and_from (pair_met ws (record { name = place_of vs p.var; by = in_names vs p.by })) (list_all (pair_met ws) (form_in_names vs g))
      (eq-ground_eq (value_at ws (place_of vs p.var)) (value ws (in_names vs p.by)) (agrees p.var var ∙ h ∙ sym (value-named p.by term))) (hold_met g later hs)
