-- What the equations and replacements of the plain solver stand for.
use Rattle.std.specs.Prelude.{◌≡◌, ℕ, Bool, true, false, List, [], ◌∷◌, ◌++◌, Option, Some, None}
use Rattle.std.specs.Prelude.{map, reverse, option_map}
use Rattle.std.specs.Borrow.{Bor}
use Rattle.kan_terms.specs.Tree.{Tree}
use Rattle.kan_terms.specs.Terms.{tree}
use Rattle.kan_terms.specs.declared.terms.Term.{Term}
use Rattle.kan_terms.specs.declared.terms.TermPair.{TermPair}
use Rattle.kan_model.specs.Stores.Store.{Equation}
use Rattle.kan_model.specs.Stores.Prims.{equation}
use Rattle.kan_model.specs.Stores.Solve as spec
use Rattle.kan_solving.specs.declared.solving.Replaced.{Replaced}
use Rattle.kan_solving.specs.declared.solving.Work.{Work}
use Rattle.kan_solving.specs.declared.solving.Work.TheVariants.{Identical, Parts, Substitute, Clash}

abbrev pub replaced_by : Replaced → spec.Replaced
replaced_by r = record { var = r.var; by = tree r.by }

-- the equations on a stack, the top first
abbrev pub on_stack : List TermPair → List Equation
on_stack pending = reverse (map equation pending)

-- what was found for a variable is its image, and a variable for which nothing was found is its own
abbrev pub IsImage : spec.Replacement → ℕ → Option (Bor Term) → Type 0
IsImage s v None = spec.image s v ≡ Tree.leaf v
IsImage s v (Some t) = spec.image s v ≡ tree t.now

-- what is to be done, as the model says it
abbrev pub work_of : Work → spec.Work
work_of Identical = spec.Work.identical
work_of (Parts first rest) = spec.Work.parts (equation first) (equation rest)
work_of (Substitute var by) = spec.Work.substitute var (tree by)
work_of Clash = spec.Work.clash

-- an answer, with the replacements that were made before it put in front
abbrev pub put_all_first : spec.Replacement → Option spec.Replacement → Option spec.Replacement
put_all_first [] r = r
put_all_first (m ∷ ms) r = option_map (spec.put_first m.var m.by) (put_all_first ms r)

-- What one step leaves of equations and of the replacements made so far, by the work on the first
-- equation.
abbrev pub StepTo : List Equation → spec.Replacement → Bool → List Equation → spec.Replacement →
    spec.Work → Type 0
StepTo es ms goes_on es' ms' spec.Work.identical = (goes_on ≡ true) × (es' ≡ es) × (ms' ≡ ms)
StepTo es ms goes_on es' ms' (spec.Work.parts first rest) =
    (goes_on ≡ true) × (es' ≡ first ∷ rest ∷ es) × (ms' ≡ ms)
StepTo es ms goes_on es' ms' (spec.Work.substitute x t) =
    (goes_on ≡ true) × (es' ≡ map (spec.replace_sides x t) es)
    × (ms' ≡ ms ++ record { var = x; by = t } ∷ [])
StepTo es ms goes_on es' ms' spec.Work.clash = goes_on ≡ false
