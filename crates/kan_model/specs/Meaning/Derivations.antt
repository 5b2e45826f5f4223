-- Derivations: the finite trees that show that a goal holds of ground values.
use Rattle.std.specs.Prelude.{◌≡◌, Decides, ℕ, Bool, true, false, ◌&&◌, eqb, List, [], ◌∷◌, ◌++◌}
use Rattle.std.specs.Prelude.{length, Some, None, slice_get}
use Rattle.kan_terms.specs.Tree.{Gd}
use Rattle.kan_terms.specs.Valuations.{value}
use Rattle.kan_model.specs.Programs.Goals.{Primitive, Goal, Template, Relation, Program}
use Rattle.kan_model.specs.Meaning.Holds.{holds_at}

-- one leaf for what holds by itself, and one node for each goal that is built of others
pub data Derivation : Type 0 where
  holds : Derivation
  both : Derivation → Derivation → Derivation
  left : Derivation → Derivation
  right : Derivation → Derivation
  choose : List Gd → Derivation → Derivation
  enter : Derivation → Derivation

-- the steps that spell a derivation, a node before what stands below it
pub data Step : Type 0 where
  holds : Step
  both : Step
  left : Step
  right : Step
  choose : List Gd → Step
  enter : Step

abbrev pub steps_of : Derivation → List Step
steps_of Derivation.holds = Step.holds ∷ []
steps_of (Derivation.both d e) = Step.both ∷ steps_of d ++ steps_of e
steps_of (Derivation.left d) = Step.left ∷ steps_of d
steps_of (Derivation.right d) = Step.right ∷ steps_of d
steps_of (Derivation.choose us d) = Step.choose us ∷ steps_of d
steps_of (Derivation.enter d) = Step.enter ∷ steps_of d

-- the values of templates at slot values
abbrev pub values : List Gd → List Template → List Gd
values us [] = []
values us (t ∷ ts) = value us t ∷ values us ts

-- the tree is a derivation of the goal at these slot values
abbrev pub derives : Program → Goal → List Gd → Derivation → Bool
derives program (Goal.prim p) us Derivation.holds = holds_at us p
derives program Goal.succeed us Derivation.holds = true
derives program (Goal.both g h) us (Derivation.both d e) =
    derives program g us d && derives program h us e
derives program (Goal.either g h) us (Derivation.left d) = derives program g us d
derives program (Goal.either g h) us (Derivation.right d) = derives program h us d
derives program (Goal.fresh k g) us (Derivation.choose vs d) =
    eqb (length vs) k && derives program g (us ++ vs) d
derives program (Goal.later g) us (Derivation.enter d) = derives program g us d
derives program (Goal.call r args) us (Derivation.enter d) = elim (slice_get program.relations r) [
  | Some rel ↦ derives program rel.body (values us args) d
  | None ↦ false
]
derives _ _ _ _ = false

-- the steps spell a derivation of the goal at these slot values
abbrev pub AreSteps : Program → Goal → List Gd → List Step → Type 0
AreSteps program g us steps =
    (d : Derivation) × (steps ≡ steps_of d) × (derives program g us d ≡ true)

-- the same as a family: a constructor for each way in which a goal holds
pub data Derives (program : Program) : Goal → List Gd → Derivation → Type 0 where
  primitive : {p : Primitive Template} {us : List Gd} → holds_at us p ≡ true →
      Derives program (Goal.prim p) us Derivation.holds
  succeed : {us : List Gd} → Derives program Goal.succeed us Derivation.holds
  both : {g h : Goal} {us : List Gd} {d e : Derivation} → Derives program g us d →
      Derives program h us e →
      Derives program (Goal.both g h) us (Derivation.both d e)
  left : {g h : Goal} {us : List Gd} {d : Derivation} → Derives program g us d →
      Derives program (Goal.either g h) us (Derivation.left d)
  right : {g h : Goal} {us : List Gd} {d : Derivation} → Derives program h us d →
      Derives program (Goal.either g h) us (Derivation.right d)
  choose : {g : Goal} {us vs : List Gd} {d : Derivation} → Derives program g (us ++ vs) d →
      Derives program (Goal.fresh (length vs) g) us (Derivation.choose vs d)
  later : {g : Goal} {us : List Gd} {d : Derivation} → Derives program g us d →
      Derives program (Goal.later g) us (Derivation.enter d)
  enter : {r : ℕ} {args : List Template} {us : List Gd} {rel : Relation} {d : Derivation} →
      slice_get program.relations r ≡ Some rel → Derives program rel.body (values us args) d →
      Derives program (Goal.call r args) us (Derivation.enter d)

-- a tuple is in a relation's least meaning where the body has a derivation at it
abbrev pub InMeaning : Program → Relation → List Gd → Type 0
InMeaning program rel us =
    (length us ≡ rel.params) × ((d : Derivation) × (derives program rel.body us d ≡ true))

-- a ground term is a solution of a run where the run's goal has a derivation at it
abbrev pub IsRunSolution : Program → Goal → Gd → Type 0
IsRunSolution program g u = (d : Derivation) × (derives program g (u ∷ []) d ≡ true)

-- the test accepts exactly what is in the family
abbrev pub TestIsFamily : Type 0
TestIsFamily =
    (program : Program) (g : Goal) (us : List Gd) (d : Derivation) →
    Decides (derives program g us d) (Derives program g us d)

-- steps spell one derivation at most
abbrev pub SpelledOnce : Type 0
SpelledOnce = (d e : Derivation) → steps_of d ≡ steps_of e → d ≡ e
