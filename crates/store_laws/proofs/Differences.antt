-- What a store says of a disequality is solved as the disequality is.
use Rattle.std.proofs.Common.{◌≡◌, ℕ, zero, suc, ◌<◌, ◌≤◌, max, true, List, [], ◌∷◌, map, Some, sym, ap, refl, arith, ◌∙◌}
use Rattle.std.proofs.lemmas.Bool.{and_parts, and_from}
use Rattle.kan_terms.specs.Tree.{Tm, Gd, fill, ground_eq}
use Rattle.kan_terms.specs.Valuations.{value_at, value}
use Rattle.kan_terms.proofs.TreeLaws.{fill-fill, fill-same_occurs, Decides-ground_eq}
use Rattle.kan_model.specs.Stores.Store.{Store, Equation, equations}
use Rattle.kan_model.specs.Stores.Solve.{Replacement, image, above, above_all, solve_store, left_first}
use Rattle.kan_model.specs.Stores.Composition.{apply_sides}
use Rattle.kan_model.specs.Stores.Unifiers.{Unifies}
use Rattle.kan_model.specs.Stores.Calls.{all_equal, SaysTheSame}
use Rattle.kan_model.proofs.Solving.VariableCount.{above_occurs}
use Rattle.kan_model.proofs.Solving.UnifierLaws.{answer_unifies}
use Rattle.store_laws.specs.SolvedForms.{SameUnifiers, DifferenceForm}
use Rattle.store_laws.proofs.OneForm.{one_named_form}

-- the ground terms of the first variables as a list
abbrev pub first_values : ℕ → (ℕ → Gd) → List Gd
first_values zero f = []
first_values (suc n) f = f 0 ∷ first_values n (λ v. f (suc v))

pub value_at-first : (n : ℕ) (f : ℕ → Gd) (v : ℕ) → v < n → value_at (first_values n f) v ≡ f v
value_at-first zero f v l = absurd (omega arith)
value_at-first (suc n) f zero l = refl
value_at-first (suc n) f (suc v) l = value_at-first n (λ w. f (suc w)) v (omega arith)

pub value-first : (n : ℕ) (f : ℕ → Gd) (t : Tm) → above t ≤ n → value (first_values n f) t ≡ fill f t
value-first n f t low = fill-same_occurs (value_at (first_values n f)) f t (λ v inside. value_at-first n f v (within v (above_occurs v t inside)))
  where
    within : (v : ℕ) → v < above t → v < n
    within v l = omega arith

-- all equations hold under the list exactly where the function unifies them
pub unifies_equal : (n : ℕ) (f : ℕ → Gd) (es : List Equation) → above_all es ≤ n → Unifies f es → all_equal (first_values n f) es ≡ true
unifies_equal n f [] low u = refl
unifies_equal n f (e ∷ es) low (same, u) =
    and_from (ground_eq (value (first_values n f) e.left) (value (first_values n f) e.right)) (all_equal (first_values n f) es)
    ((Decides-ground_eq (value (first_values n f) e.left) (value (first_values n f) e.right)).1 (value-first n f e.left (omega arith) ∙ same ∙ sym (value-first n f e.right (omega arith))))
    (unifies_equal n f es (omega arith) u)

pub equal_unifies : (n : ℕ) (f : ℕ → Gd) (es : List Equation) → above_all es ≤ n → all_equal (first_values n f) es ≡ true → Unifies f es
equal_unifies n f [] low h = tt
equal_unifies n f (e ∷ es) low h =
    let (first, rest) = and_parts (ground_eq (value (first_values n f) e.left) (value (first_values n f) e.right)) (all_equal (first_values n f) es) h in (
      sym (value-first n f e.left (omega arith)) ∙ (Decides-ground_eq (value (first_values n f) e.left) (value (first_values n f) e.right)).0 first ∙ value-first n f e.right (omega arith),
      equal_unifies n f es (omega arith) rest,
    )

-- what f makes of equations under a replacement
abbrev pub under : (ℕ → Gd) → Replacement → ℕ → Gd
under f s v = fill f (image s v)

pub unifies_under : (f : ℕ → Gd) (s : Replacement) (es : List Equation) → Unifies f (map (apply_sides s) es) → Unifies (under f s) es
unifies_under f s [] u = tt
unifies_under f s (e ∷ es) (same, u) = (sym (fill-fill f (image s) e.left) ∙ same ∙ fill-fill f (image s) e.right, unifies_under f s es u)

pub under_unifies : (f : ℕ → Gd) (s : Replacement) (es : List Equation) → Unifies (under f s) es → Unifies f (map (apply_sides s) es)
under_unifies f s [] u = tt
under_unifies f s (e ∷ es) (same, u) = (fill-fill f (image s) e.left ∙ same ∙ sym (fill-fill f (image s) e.right), under_unifies f s es u)

pub answer_holds : (f : ℕ → Gd) (s : Replacement) (es : List Equation) → Unifies (image s) es → Unifies (under f s) es
answer_holds f s [] u = tt
answer_holds f s (e ∷ es) (same, u) = (sym (fill-fill f (image s) e.left) ∙ ap (fill f) same ∙ fill-fill f (image s) e.right, answer_holds f s es u)

pub same_difference : (st : Store) (s : Replacement) (e : Equation) (pairs : List Equation) → solve_store st ≡ Some s → SaysTheSame st e pairs →
    SameUnifiers (map (apply_sides s) pairs) (map (apply_sides s) (e ∷ []))
same_difference st s e pairs h says f = (there, back)
  where
    n : ℕ
    n = max (above_all (equations st.prims)) (max (above_all pairs) (above_all (e ∷ [])))

    us : List Gd
    us = first_values n (under f s)

    holds : all_equal us (equations st.prims) ≡ true
    holds = unifies_equal n (under f s) (equations st.prims) (omega arith) (answer_holds f s (equations st.prims) (answer_unifies left_first (equations st.prims) s h))

    there : Unifies f (map (apply_sides s) pairs) → Unifies f (map (apply_sides s) (e ∷ []))
    there u =
        let equal = sym (says us holds) ∙ unifies_equal n (under f s) pairs (omega arith) (unifies_under f s pairs u) in
        under_unifies f s (e ∷ []) (equal_unifies n (under f s) (e ∷ []) (omega arith) (and_from (ground_eq (value us e.left) (value us e.right)) true equal refl))

    back : Unifies f (map (apply_sides s) (e ∷ [])) → Unifies f (map (apply_sides s) pairs)
    back u =
        let (equal, _) = and_parts (ground_eq (value us e.left) (value us e.right)) true (unifies_equal n (under f s) (e ∷ []) (omega arith) (unifies_under f s (e ∷ []) u)) in
        under_unifies f s pairs (equal_unifies n (under f s) pairs (omega arith) (says us holds ∙ equal))

pub difference_form : DifferenceForm
difference_form vs st s e pairs h says = one_named_form vs (map (apply_sides s) pairs) (map (apply_sides s) (e ∷ [])) (same_difference st s e pairs h says)
