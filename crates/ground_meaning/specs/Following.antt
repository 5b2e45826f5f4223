-- Following a step with claims on a stack.
use Rattle.std.specs.Prelude.{◌≡◌, ◌+◌, Bool, true, false, List, [], ◌∷◌, ◌++◌, map}
use Rattle.std.specs.Prelude.{Option, Some, None}
use Rattle.kan_terms.specs.Tree.{Gd}
use Rattle.kan_model.specs.Meaning.Derivations as model
use Rattle.kan_model.specs.Programs.Closed as programs
use Rattle.kan_model.specs.Programs.Nodes.{goal_entry}
use Rattle.kan_model.specs.declared.nodes.GoalNode.{GoalNode}
use Rattle.kan_model.specs.declared.program.Program.{Program}
use Rattle.ground_meaning.specs.Accepting.{Claim, claim, claims_after, in_front, after_steps}
use Rattle.ground_meaning.specs.declared.steps.Derivation.{Derivation}
use Rattle.ground_meaning.specs.declared.steps.Step.{Step}
use Rattle.ground_meaning.specs.declared.steps.Step.TheVariants.{Holds, Both, Left, Right, Choose}
use Rattle.ground_meaning.specs.declared.steps.Step.TheVariants.{Enter}
use Rattle.ground_meaning.specs.declared.following.Waiting.{Waiting}

-- the step of the model
abbrev pub step_of : Step → model.Step
step_of Holds = model.Step.holds
step_of Both = model.Step.both
step_of Left = model.Step.left
step_of Right = model.Step.right
step_of (Choose us) = model.Step.choose us
step_of Enter = model.Step.enter

-- the steps of a derivation
abbrev pub steps_in : Derivation → List Step
steps_in derivation = derivation.steps

-- the claims of those that wait on a stack, the top first
abbrev pub claims_in : Program → List Waiting → List Claim
claims_in p [] = []
claims_in p (w ∷ ws) = claims_in p ws ++ claim (programs.goal p w.goal) w.values ∷ []

-- a step was followed to these claims, or is none of the goal
abbrev pub Leaves : Option (List Claim) → Bool → List Claim → Type 0
Leaves after true new = after ≡ Some new
Leaves after false new = after ≡ None

abbrev pub Follows : Program → GoalNode → List Gd → Step → List Waiting → Bool → List Waiting →
    Type 0
Follows p node us step old followed new =
    Leaves (in_front
    (claims_after (programs.meaning p) (programs.entry_goal p (goal_entry node)) us
    (step_of step)) (claims_in p old)) followed (claims_in p new)

-- the same of a claim from the stack
abbrev pub FollowsClaim : Program → Waiting → Step → List Waiting → Bool → List Waiting → Type 0
FollowsClaim p w step old followed new =
    Leaves (in_front
    (claims_after (programs.meaning p) (programs.goal p w.goal) w.values (step_of step))
    (claims_in p old)) followed (claims_in p new)

-- the steps show all that waits
abbrev pub ShowsAll : Program → List Step → List Waiting → Type 0
ShowsAll p steps waiting =
    after_steps (programs.meaning p) (map step_of steps) (Some (claims_in p waiting)) ≡ Some []
