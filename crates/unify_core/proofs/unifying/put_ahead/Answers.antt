use Rattle.std.proofs.Common.{◌∷◌, ◌∙◌, ap}
use Rattle.unify_core.specs.LentBindings.{equation_of, waiting_equations}
use Rattle.unify_core.proofs.Steps.UnifySteps.{put_first, put_over}
use Rattle.unify_core.proofs.unifying.put_ahead.Goals as goal
use Rattle.unify_core.proofs.unifying.put_ahead.Goals.{in-Some+in_ok-push, in_default}

pub returns : goal.returns
returns c = elim c.match-ahead.branch [
  | in-Some+in_ok-push w ↦
      ap (λ a. equation_of c.args.sides ∷ waiting_equations a.below.items) w.ahead-is
      ∙ put_over c.args.ahead.now.top c.args.ahead.now.below.items w.push.new.self.items c.args.sides w.in-Some.covered w.in-Some.is w.in_ok-push.ensures.items
  | in_default w ↦
      ap (λ a. equation_of c.args.sides ∷ waiting_equations a.below.items) w.ahead-is
      ∙ put_first c.args.ahead.now.top c.args.ahead.now.below.items c.args.sides w.in_default.is
]
