-- Following the steps of a derivation, with the goals that are still to be shown.
use Rattle.std.specs.Prelude.{◌≡◌, ◌↔◌, Bool, true, false, eqb, List, [], ◌∷◌, ◌++◌, length, Option}
use Rattle.std.specs.Prelude.{Some, None, slice_get}
use Rattle.kan_terms.specs.Tree.{Gd}
use Rattle.kan_model.specs.Programs.Goals.{Goal, Relation, Program}
use Rattle.kan_model.specs.Meaning.Holds.{holds_at}
use Rattle.kan_model.specs.Meaning.Derivations.{Step, values, AreSteps}

-- a goal that is to be shown at slot values
pub record Claim : Type 0 where
  pub goal : Goal
  pub values : List Gd

abbrev pub claim : Goal → List Gd → Claim
claim g us = record { goal = g; values = us }

-- nothing is left to be shown where a test is passed
abbrev pub when : Bool → List Claim → Option (List Claim)
when true cs = Some cs
when false cs = None

-- the body of a relation
abbrev pub body_claim : List Gd → Option Relation → Option (List Claim)
body_claim us None = None
body_claim us (Some rel) = Some (claim rel.body us ∷ [])

-- what a step leaves to be shown of a goal, and none where it is no step of the goal
abbrev pub claims_after : Program → Goal → List Gd → Step → Option (List Claim)
claims_after program (Goal.prim p) us Step.holds = when (holds_at us p) []
claims_after program Goal.succeed us Step.holds = Some []
claims_after program (Goal.both g h) us Step.both = Some (claim g us ∷ claim h us ∷ [])
claims_after program (Goal.either g h) us Step.left = Some (claim g us ∷ [])
claims_after program (Goal.either g h) us Step.right = Some (claim h us ∷ [])
claims_after program (Goal.fresh k g) us (Step.choose vs) =
    when (eqb (length vs) k) (claim g (us ++ vs) ∷ [])
claims_after program (Goal.later g) us Step.enter = Some (claim g us ∷ [])
claims_after program (Goal.call r args) us Step.enter =
    body_claim (values us args) (slice_get program.relations r)
claims_after _ _ _ _ = None

-- what is left to be shown, in front of other claims
abbrev pub in_front : Option (List Claim) → List Claim → Option (List Claim)
in_front None cs = None
in_front (Some new) cs = Some (new ++ cs)

-- what the step leaves of claims, of which it is one of the first
abbrev pub after_step : Program → Step → Option (List Claim) → Option (List Claim)
after_step program s None = None
after_step program s (Some []) = None
after_step program s (Some (c ∷ cs)) = in_front (claims_after program c.goal c.values s) cs

abbrev pub after_steps : Program → List Step → Option (List Claim) → Option (List Claim)
after_steps program [] cs = cs
after_steps program (s ∷ ss) cs = after_steps program ss (after_step program s cs)

-- the steps show a claim, and nothing is left
abbrev pub Shows : Program → List Step → Goal → List Gd → Type 0
Shows program steps g us = after_steps program steps (Some (claim g us ∷ [])) ≡ Some []

-- that is, they spell a derivation of the goal
abbrev pub AcceptedAreSteps : Type 0
AcceptedAreSteps =
    (program : Program) (g : Goal) (us : List Gd) (steps : List Step) → Shows program steps g us
    ↔ AreSteps program g us steps
