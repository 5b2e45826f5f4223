-- What disequalities become with one more.
use Rattle.std.specs.Prelude.{◌≡◌, List, [], ◌∷◌, ◌++◌, Option, Some, None}
use Rattle.kan_terms.specs.Tree.{Tm}
use Rattle.unify_core.specs.Walking.{Pairs}
use Rattle.unify_core.specs.Unifying.{Unifying}
use Rattle.unify_core.specs.Laws.{added_equations}
use Rattle.diseq.specs.Disequalities.{Disequality, Brought}
use Rattle.diseq.specs.Kept.{AreWatched}
use Rattle.diseq.specs.Meaning.{asserted_in, watching_in}
use Rattle.diseq.specs.declared.diseqs.Diseqs.{Diseqs}

-- where there is no unifier the disequality holds already and is left out, else what unification
-- adds is put at the end
abbrev pub WithAdded : List Disequality → List Disequality → Option (List (Tm × Tm)) → Type 0
WithAdded old new None = new ≡ old
WithAdded old new (Some added) = new ≡ old ++ added_equations added ∷ []

-- disequalities with one more: what unification finds for its equations is put at the end; all stay
-- watched; and they are the old ones with the disequality itself, brought up to the bindings
pub record Adds (bound : Pairs) (es : Disequality) (old new : Diseqs) : Type 0 where
  pub found : Option (List (Tm × Tm))
  pub unifying : Unifying bound es found
  pub put : WithAdded (asserted_in old) (asserted_in new) found
  pub watched : AreWatched bound (asserted_in old) (watching_in old) →
      AreWatched bound (asserted_in new) (watching_in new)
  pub brought : Brought bound (asserted_in old ++ es ∷ []) (asserted_in new)
