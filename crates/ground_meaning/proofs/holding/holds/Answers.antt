use Rattle.std.proofs.Common.{ap, sym, ◌∙◌, not}
use Rattle.kan_model.specs.Programs.Closed as programs
use Rattle.kan_model.specs.Programs.Nodes.{goal_entry}
use Rattle.ground_meaning.specs.Holding.{node_holds}
use Rattle.ground_meaning.specs.Values.{value_of}
use Rattle.ground_meaning.proofs.HoldingLaws.{tag_found}
use Rattle.ground_meaning.proofs.holding.holds.Goals as goal

pub returns-in_ok-marks-in-Absent : goal.returns-in_ok-marks-in-Absent
returns-in_ok-marks-in-Absent c =
    let p = c.args.program.now in
    ap not (c.has_name.ensures ∙ tag_found c.in-Absent.tag _ (value_of p c.args.values.now c.in-Absent.term) (c.deref-in-Absent.ensures.value ∙ c.in_ok-marks-in-Absent.ensures))
    ∙ sym (ap (λ node. node_holds (programs.templates p) c.args.values.now (goal_entry node)) c.in-Absent.is)
