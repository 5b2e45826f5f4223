-- What unification adds, as disequalities.
use Rattle.std.proofs.Common.{◌≡◌, ◌≢◌, ◌↔◌, ℕ, true, false, List, [], ◌∷◌, ◌++◌, map, Option, Some, None, sym, ap, subst, refl, ◌∙◌, append-nil}
use Rattle.std.proofs.Math.Logic.{∥∥₁_map}
use Rattle.std.proofs.lemmas.Bool.{true≢false}
use Rattle.kan_terms.specs.Terms.{sides}
use Rattle.kan_terms.specs.declared.terms.TermPair.{TermPair}
use Rattle.kan_model.specs.Stores.Prims.{equation as pair_equation}
use Rattle.unify_core.specs.Walking.{Pairs}
use Rattle.unify_core.specs.Cycles.{HasNoCycle}
use Rattle.unify_core.specs.Unifying.{Unifying}
use Rattle.unify_core.specs.Laws.{added_equations}
use Rattle.unify_core.proofs.CycleLaws.{grown}
use Rattle.unify_core.proofs.AddedLaws.{added_solve}
use Rattle.diseq.specs.Disequalities.{Disequality, SaysAsMuch, Brought, is_identical}
use Rattle.diseq.specs.Adding.{Adds}
use Rattle.diseq.specs.Kept.{Watchers, AreWatched}
use Rattle.diseq.specs.Looking.{IsGiven, LooksAt}
use Rattle.diseq.specs.Meaning.{asserted_in, watching_in}
use Rattle.diseq.specs.Watching.{is_watchable}
use Rattle.diseq.specs.declared.diseqs.Diseqs.{Diseqs}
use Rattle.diseq.proofs.KeptLaws.{looked_never, looked_identical, looked_given, added_watched}
use Rattle.diseq.proofs.BroughtLaws.{brought_same, brought_joined}
use Rattle.diseq.proofs.WatchLaws.{added_watchable, adds_none, adds_some, adds_never}

-- added pairs of terms as equations
pub pairs_are : (pairs : List TermPair) → map pair_equation pairs ≡ added_equations (map sides pairs)
pairs_are [] = refl
pairs_are (p ∷ pairs) = ap (λ es. pair_equation p ∷ es) (pairs_are pairs)

-- what unification adds to a disequality says as much, and is watchable
module _ (bound : Pairs) (h : HasNoCycle bound) (es : Disequality) (p : TermPair) (pairs : List TermPair) (d : Unifying bound es (Some (map sides (p ∷ pairs)))) where
  pub says_some : SaysAsMuch bound es (map pair_equation (p ∷ pairs))
  says_some = subst (λ fs. SaysAsMuch bound es fs) (sym (pairs_are (p ∷ pairs))) ((added_solve ℕ).0 bound es (map sides (p ∷ pairs)) h d)

  pub some_watchable : is_watchable bound (map pair_equation (p ∷ pairs)) ≡ true
  some_watchable = subst (λ fs. is_watchable bound fs ≡ true) (sym (pairs_are (p ∷ pairs))) (added_watchable bound (grown bound h) es (sides p) (map sides pairs) d)

-- a disequality that was solved anew
pub solved_never : (bound : Pairs) → HasNoCycle bound → (es : Disequality) (old : Watchers) → Unifying bound es None → LooksAt bound (es ∷ []) old old true
solved_never bound h es old d = looked_never bound old es ((added_solve ℕ).1 bound es h d)

pub solved_identical : (bound : Pairs) → HasNoCycle bound → (es : Disequality) (old new : Watchers) (pairs : List TermPair) → pairs ≡ [] → Unifying bound es (Some (map sides pairs)) → LooksAt bound (es ∷ []) old new false
solved_identical bound h es old new pairs none d =
    looked_identical bound (grown bound h) old new es (adds_none bound (grown bound h) es (subst (λ ps. Unifying bound es (Some (map sides ps))) none d))

pub solved_some : (bound : Pairs) → HasNoCycle bound → (es : Disequality) (old new : Watchers) (pairs : List TermPair) → pairs ≢ [] → Unifying bound es (Some (map sides pairs)) →
    IsGiven old (map pair_equation pairs) new → LooksAt bound (es ∷ []) old new true
solved_some bound h es old new [] some d given = absurd (some refl)
solved_some bound h es old new (p ∷ pairs) some d given =
    looked_given bound old new es (map pair_equation (p ∷ pairs)) (says_some bound h es p pairs d) (some_watchable bound h es p pairs d) given

-- disequalities that unification finds to hold already
pub adds_always : (bound : Pairs) (es : Disequality) (old : Diseqs) → HasNoCycle bound → Unifying bound es None → Adds bound es old old
adds_always bound es old h d = record {
  found = None;
  unifying = d;
  put = refl;
  watched = λ w. w;
  brought = subst (Brought bound (asserted_in old ++ es ∷ [])) (append-nil (asserted_in old))
      (brought_joined bound (asserted_in old) (asserted_in old) (es ∷ []) [] (brought_same bound (asserted_in old)) (Brought.left_out ((added_solve ℕ).1 bound es h d) Brought.none_left));
}

-- and what it adds where they don't
pub adds_one : (bound : Pairs) (es : Disequality) (old new : Diseqs) (pairs : List TermPair) → HasNoCycle bound → Unifying bound es (Some (map sides pairs)) → pairs ≢ [] →
    asserted_in new ≡ asserted_in old ++ map pair_equation pairs ∷ [] → IsGiven (watching_in old) (map pair_equation pairs) (watching_in new) → Adds bound es old new
adds_one bound es old new [] h d some put given = absurd (some refl)
adds_one bound es old new (p ∷ pairs) h d some put given = record {
  found = Some (map sides (p ∷ pairs));
  unifying = d;
  put = put ∙ ap (λ fs. asserted_in old ++ fs ∷ []) (pairs_are (p ∷ pairs));
  watched = λ w. subst (λ ds. AreWatched bound ds (watching_in new)) (sym put)
      (∥∥₁_map w (λ k. added_watched bound (map pair_equation (p ∷ pairs)) (some_watchable bound h es p pairs d) (asserted_in old) (watching_in old) (watching_in new) given k));
  brought = subst (Brought bound (asserted_in old ++ es ∷ [])) (sym put)
      (brought_joined bound (asserted_in old) (asserted_in old) (es ∷ []) (map pair_equation (p ∷ pairs) ∷ []) (brought_same bound (asserted_in old)) (Brought.listed (says_some bound h es p pairs d) Brought.none_left));
}

-- the answer is none exactly where the sides are the same
pub none_identical : {X : Type 0} (bound : Pairs) (es : Disequality) → HasNoCycle bound → Unifying bound es (Some []) → (◌≡◌ {A = Option X} None None) ↔ (is_identical bound es ≡ true)
none_identical bound es h d = (λ e. adds_none bound (grown bound h) es d, λ i. refl)

pub some_always : {X : Type 0} (x : X) (bound : Pairs) (es : Disequality) → HasNoCycle bound → Unifying bound es None → (Some x ≡ None) ↔ (is_identical bound es ≡ true)
some_always x bound es h d = (λ e. cc, λ i. absurd (true≢false (sym i ∙ adds_never bound (grown bound h) es h d)))

pub some_differs : {X : Type 0} (x : X) (bound : Pairs) (es : Disequality) (pairs : List TermPair) → HasNoCycle bound → Unifying bound es (Some (map sides pairs)) → pairs ≢ [] →
    (Some x ≡ None) ↔ (is_identical bound es ≡ true)
some_differs x bound es [] h d some = absurd (some refl)
some_differs x bound es (p ∷ pairs) h d some = (λ e. cc, λ i. absurd (true≢false (sym i ∙ adds_some bound (grown bound h) es (sides p) (map sides pairs) h d)))
