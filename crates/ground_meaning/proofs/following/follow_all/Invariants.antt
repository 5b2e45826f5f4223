use Rattle.std.proofs.Common.{◌≡◌, drop, map, Some}
use Rattle.kan_model.specs.Programs.Closed as programs
use Rattle.ground_meaning.specs.Accepting.{after_steps}
use Rattle.ground_meaning.specs.Following.{step_of, claims_in}
use Rattle.ground_meaning.proofs.following.follow_all.Given as goal

-- the steps that are left do with what waits what all steps do with what waited
abbrev pub invariant-loop-step : goal.invariant-loop-step
invariant-loop-step l =
    after_steps (programs.meaning l.program) (map step_of (drop l.step-index l.steps)) (Some (claims_in l.program l.waiting.items))
    ≡ after_steps (programs.meaning l.program) (map step_of l.fn.steps) (Some (claims_in l.program l.fn.waiting.items))
