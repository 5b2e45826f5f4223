use Rattle.std.proofs.Common.{reverse}
use Rattle.kan_model.specs.Programs.Drafts.{templates}
use Rattle.goal_forms.specs.Parts.{sites}
use Rattle.goal_syntax.proofs.Building.TermHeightLaws.{joined_low}
use Rattle.std.proofs.Common.{arith}
use Rattle.goal_syntax.proofs.Building.NamedLaws.{task_named}
use Rattle.std.proofs.Common.{ap}
use Rattle.goal_syntax.specs.Building.Named.{tree_unnamed}
use Rattle.goal_syntax.proofs.build_term.build_work.Goals as goal

pub returns-in_ok-join-in-Pair-clause-low : goal.returns-in_ok-join-in-Pair-clause-low
returns-in_ok-join-in-Pair-clause-low c = λ low.
    joined_low (sites c.args.context.now.flat.now) c.args.context.now.names.now c.args.scope.now (reverse c.args.works.now.items) (templates c.args.draft.now) (templates c.join.new.draft)
    c.args.places.now.items c.join.new.places.items c.in_ok-join-in-Pair.ensures.made c.in_ok-join-in-Pair.ensures.low (rw c.in-Pair.is at low)

pub returns-in_ok-build_step-in-Term-clause-named : goal.returns-in_ok-build_step-in-Term-clause-named
returns-in_ok-build_step-in-Term-clause-named c =
    omega (
      arith,
      task_named c.args.context.now.names.now (sites c.args.context.now.flat.now) c.args.context.now.names.now c.in-Term.task,
      ap (tree_unnamed c.args.context.now.names.now) c.parse_task-step.ensures.form,
      c.in_ok-build_step-in-Term.ensures.named,
    )
