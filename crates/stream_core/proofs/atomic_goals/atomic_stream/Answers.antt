use Rattle.std.proofs.Common.{◌≡◌, true, subst}
use Rattle.kan_model.specs.Programs.Goals.{Goal}
use Rattle.kan_model.specs.Programs.Nodes.{goal_entry}
use Rattle.kan_model.specs.Programs.Scope.{calls_there}
use Rattle.kan_model.specs.Programs.Environments.{terms_of}
use Rattle.kan_model.specs.Programs.Closed as programs
use Rattle.stream_core.specs.Tasks.{IsOf}
use Rattle.stream_core.proofs.ClosedLaws.{program-closed, at-once}
use Rattle.stream_core.proofs.atomic_goals.atomic_stream.Goals as goal

pub paused-requires-clause-is : goal.paused-requires-clause-is
paused-requires-clause-is g c =
    let p = c.args.program.now in
    let closed = program-closed p c.requires.table.small in
    let is = subst (λ n. IsOf (programs.meaning p) (programs.entry_goal p (goal_entry n)) (terms_of c.args.env)) c.in-Later.is c.requires.is in
    (closed.parts (Goal.later (programs.goal p c.in-Later.goal)) is.0, is.1)

pub call_stream-requires-clause-there : goal.call_stream-requires-clause-there
call_stream-requires-clause-there g c =
    let p = c.args.program.now in
    let closed = program-closed p c.requires.table.small in
    subst (λ n. calls_there (programs.meaning p).relations (programs.entry_goal p (goal_entry n)) ≡ true) c.in-Call.is
    (closed.calls (programs.entry_goal p (goal_entry c.args.node)) c.requires.is.0)

pub stores_at_once-requires-clause-ends : goal.stores_at_once-requires-clause-ends
stores_at_once-requires-clause-ends g c = at-once c.args.node c.requires.atomic c.in_default.not-Later c.in_default.not-Call
