-- The steps of solving disequalities anew.
use Rattle.std.proofs.Common.{◌≡◌, List, [], ◌∷◌, ◌++◌, map, reverse, Option, Some, None, sym, ap, subst, refl, ◌∙◌}
use Rattle.std.specs.Borrow.{Bor}
use Rattle.std.specs.Option.{option_map, option_to_list}
use Rattle.std.proofs.lemmas.List.{map-append, append-nil, append_assoc, reverse-append}
use Rattle.kan_terms.specs.Terms.{sides}
use Rattle.kan_terms.specs.declared.terms.TermPair.{TermPair}
use Rattle.kan_model.specs.Stores.Store.{Equation}
use Rattle.kan_model.specs.Stores.Prims.{equation}
use Rattle.unify_core.specs.Walking.{Pairs}
use Rattle.unify_core.specs.Unifying.{Unifying}
use Rattle.unify_core.specs.Laws.{added_equations}
use Rattle.kan_store.specs.Meaning.{lent_pairs}
use Rattle.kan_store.specs.Parts.{Resolved}

abbrev pub equations_of : List (List TermPair) → List (List Equation)
equations_of = map (map equation)

-- what is left of the lists that wait, the last of which comes first, behind what is left of those before, is what is left of them all
abbrev pub ResolvesOn : Pairs → List (Bor (List TermPair)) → List (Bor (List TermPair)) → List (List TermPair) → Type 0
ResolvesOn bound all waiting left = (r : List (List Equation)) → Resolved bound (reverse (lent_pairs waiting)) r → Resolved bound (reverse (lent_pairs all)) (equations_of left ++ r)

added-equations : (pairs : List TermPair) → added_equations (map sides pairs) ≡ map equation pairs
added-equations [] = refl
added-equations (p ∷ pairs) = ap (λ es. equation p ∷ es) (added-equations pairs)

-- the last one comes first
last_first : (waiting before : List (Bor (List TermPair))) (item : Bor (List TermPair)) → waiting ≡ before ++ item ∷ [] → map equation item.now ∷ reverse (lent_pairs before) ≡ reverse (lent_pairs waiting)
last_first waiting before item is =
    sym (ap (λ w. reverse (lent_pairs w)) is ∙ ap reverse (map-append (λ (pairs : Bor (List TermPair)). map equation pairs.now) before (item ∷ [])) ∙ reverse-append (lent_pairs before) (map equation item.now ∷ []))

module _ (bound : Pairs) (all waiting before : List (Bor (List TermPair))) (item : Bor (List TermPair)) (is : waiting ≡ before ++ item ∷ []) where
  one : (found : Option (List TermPair)) (r : List (List Equation)) → Unifying bound (map equation item.now) (option_map (λ made. map sides made) found) → Resolved bound (reverse (lent_pairs before)) r →
      Resolved bound (reverse (lent_pairs waiting)) (equations_of (option_to_list found) ++ r)
  one None r unify d = subst (λ ls. Resolved bound ls r) (last_first waiting before item is) (Resolved.gone unify d)
  one (Some made) r unify d =
      subst (λ ls. Resolved bound ls (map equation made ∷ r)) (last_first waiting before item is)
      (subst (λ es. Resolved bound (map equation item.now ∷ reverse (lent_pairs before)) (es ∷ r)) (added-equations made) (Resolved.still unify d))

  pub resolves_next : (old new : List (List TermPair)) (found : Option (List TermPair)) (shown : List TermPair) → shown ≡ item.now → Unifying bound (map equation shown) (option_map (λ made. map sides made) found) →
      new ≡ old ++ option_to_list found → ResolvesOn bound all waiting old → ResolvesOn bound all before new
  resolves_next old new found shown same unify more so_far r d =
      subst (λ l. Resolved bound (reverse (lent_pairs all)) l) (sym (ap (λ l. equations_of l ++ r) more ∙ ap (λ l. l ++ r) (map-append (map equation) old (option_to_list found)) ∙ append_assoc (equations_of old) (equations_of (option_to_list found)) r))
      (so_far (equations_of (option_to_list found) ++ r) (one found r (subst (λ x. Unifying bound (map equation x) (option_map (λ made. map sides made) found)) same unify) d))

pub resolves_all : (bound : Pairs) (all waiting : List (Bor (List TermPair))) (left : List (List TermPair)) → waiting ≡ [] → ResolvesOn bound all waiting left → Resolved bound (reverse (lent_pairs all)) (equations_of left)
resolves_all bound all waiting left none so_far =
    subst (λ l. Resolved bound (reverse (lent_pairs all)) l) (append-nil (equations_of left)) (so_far [] (subst (λ w. Resolved bound (reverse (lent_pairs w)) []) (sym none) Resolved.none_left))
