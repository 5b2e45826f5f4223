-- Whether two sides can be equal, told by the pairs that say the same.
use Rattle.std.proofs.Common.{◌≡◌, ℕ, Bool, true, false, ◌&&◌, ◌||◌, not, List, [], ◌∷◌, ◌++◌, map, filter, Option, Some, None, option_map, ap, ap₂, refl, ◌∙◌}
use Rattle.std.specs.List.{list_all}
use Rattle.std.proofs.lemmas.List.Folds.{list_all-append, list_any-append}
use Rattle.kan_terms.specs.Tree.{Tree, Tm}
use Rattle.kan_model.specs.Programs.Goals.{Primitive}
use Rattle.kan_model.specs.Stores.Store.{Equation, equations}
use Rattle.kan_model.specs.Stores.Solve.{Replacement, image, apply, solve, solve_by, left_first}
use Rattle.kan_model.specs.Stores.Composition.{apply_sides}
use Rattle.kan_model.specs.Stores.Kept.{allows, gives_type, has_type, lacks_type, gives_one_type, holds_under, holds_with}
use Rattle.kan_model.specs.declared.prims.Kind.{Kind}
use Rattle.kan_model.specs.declared.prims.Kind.TheVariants.{Symbol, Number, Text}
use Rattle.kan_model.specs.Answers.Answer.{is_no_difference}
use Rattle.kan_model.proofs.Solving.FreshLaws.{equations-append}
use Rattle.kan_model.proofs.Solving.UnifierLaws.{answer_unifies}
use Rattle.kan_model.specs.Stores.Composition.{compose}
use Rattle.store_laws.specs.General.{PairsCanBeEqual}
use Rattle.store_laws.proofs.OneForm.{through_answer, also_answered}
use Rattle.store_laws.proofs.Differences.{same_difference}
use Rattle.store_laws.proofs.GeneralUnifiers.{answer_is_general, composed_is_general, general_for_others, holds_with-general, unifies_first, unifies_second, sides_unify}

equations-no_difference : (ps : List (Primitive Tm)) → equations (filter is_no_difference ps) ≡ equations ps
equations-no_difference [] = refl
equations-no_difference (Primitive.same a b ∷ ps) = ap (λ es. record { left = a; right = b } ∷ es) (equations-no_difference ps)
equations-no_difference (Primitive.differ a b ∷ ps) = equations-no_difference ps
equations-no_difference (Primitive.symbol a ∷ ps) = equations-no_difference ps
equations-no_difference (Primitive.number a ∷ ps) = equations-no_difference ps
equations-no_difference (Primitive.text a ∷ ps) = equations-no_difference ps
equations-no_difference (Primitive.absent tag a ∷ ps) = equations-no_difference ps

and_true : (b : Bool) → (b && true) ≡ b
and_true true = refl
and_true false = refl

or_false : (b : Bool) → (b || false) ≡ b
or_false true = refl
or_false false = refl

-- an equation more asks nothing under an answer
module _ (s : Replacement) (ps : List (Primitive Tm)) (a b : Tm) where
  abbrev more : List (Primitive Tm)
  more = ps ++ Primitive.same a b ∷ []

  type_same : (kind : Kind) (v : ℕ) → has_type kind s more v ≡ has_type kind s ps v
  type_same kind v = list_any-append (gives_type kind s v) ps (Primitive.same a b ∷ []) ∙ ap (λ c. has_type kind s ps v || (c || false)) (gives_none kind) ∙ or_false (has_type kind s ps v)
    where
      gives_none : (kind : Kind) → gives_type kind s v (Primitive.same a b) ≡ false
      gives_none Symbol = refl
      gives_none Number = refl
      gives_none Text = refl

  lacks_same : (kind : Kind) (t : Tm) → lacks_type kind s more t ≡ lacks_type kind s ps t
  lacks_same kind (Tree.leaf v) = ap not (type_same kind v)
  lacks_same kind (Tree.sym x) = refl
  lacks_same kind (Tree.str x) = refl
  lacks_same kind (Tree.num n) = refl
  lacks_same kind (Tree.truth c) = refl
  lacks_same kind Tree.nil = refl
  lacks_same kind (Tree.pair c d) = refl

  one_type_same : (p : Primitive Tm) → gives_one_type s more p ≡ gives_one_type s ps p
  one_type_same (Primitive.symbol c) = ap₂ (λ d e. d && e) (lacks_same Number (apply s c)) (lacks_same Text (apply s c))
  one_type_same (Primitive.text c) = lacks_same Number (apply s c)
  one_type_same (Primitive.same c d) = refl
  one_type_same (Primitive.differ c d) = refl
  one_type_same (Primitive.number c) = refl
  one_type_same (Primitive.absent tag c) = refl

  all_same : (qs : List (Primitive Tm)) → list_all (gives_one_type s more) qs ≡ list_all (gives_one_type s ps) qs
  all_same [] = refl
  all_same (q ∷ qs) = ap₂ (λ c d. c && d) (one_type_same q) (all_same qs)

  holds_same : holds_under more s ≡ holds_under ps s
  holds_same =
      ap₂ (λ c d. c && d) (list_all-append (allows s) ps (Primitive.same a b ∷ []) ∙ and_true (list_all (allows s) ps))
      (list_all-append (gives_one_type s more) ps (Primitive.same a b ∷ []) ∙ and_true (list_all (gives_one_type s more) ps) ∙ all_same ps)

holds_with-more : (ps : List (Primitive Tm)) (a b : Tm) (q : Option Replacement) → holds_with (ps ++ Primitive.same a b ∷ []) q ≡ holds_with ps q
holds_with-more ps a b None = refl
holds_with-more ps a b (Some s) = holds_same s ps a b

pub pairs_can_be_equal : PairsCanBeEqual
pairs_can_be_equal left st s e pairs h says =
    holds_with-more ps e.left e.right (solve (equations (ps ++ Primitive.same e.left e.right ∷ [])))
    ∙ ap (λ es. holds_with ps (solve es)) (equations-append ps (Primitive.same e.left e.right ∷ []) ∙ ap (λ es. es ++ e ∷ []) (equations-no_difference st.prims))
    ∙ by (solve_by left (map (apply_sides s) pairs)) refl
  where
    ps : List (Primitive Tm)
    ps = filter is_no_difference st.prims

    es : List Equation
    es = equations st.prims

    by : (q : Option Replacement) → solve_by left (map (apply_sides s) pairs) ≡ q → holds_with ps (solve (es ++ e ∷ [])) ≡ holds_with ps (option_map (compose s) q)
    by (Some r) found =
        let general = general_for_others (map (apply_sides s) pairs) (map (apply_sides s) (e ∷ [])) r (same_difference st s e pairs h says)
        (answer_is_general left (map (apply_sides s) pairs) r found) in
        holds_with-general left_first (es ++ e ∷ []) (compose s r) ps (composed_is_general es (e ∷ []) s r (answer_is_general left_first es s h) general)
    by None found = none (solve (es ++ e ∷ [])) refl
      where
        none : (q : Option Replacement) → solve (es ++ e ∷ []) ≡ q → holds_with ps q ≡ false
        none None k = refl
        none (Some w) k =
            let u = answer_unifies left_first (es ++ e ∷ []) w k in
            let factors = through_answer left_first es s (image w) h (unifies_first (image w) es (e ∷ []) u) in
            absurd (also_answered left (map (apply_sides s) (e ∷ [])) (map (apply_sides s) pairs) (image w) (λ f. (same_difference st s e pairs h says f).1)
            (sides_unify (image w) s factors (e ∷ []) (unifies_second (image w) es (e ∷ []) u)) found)
