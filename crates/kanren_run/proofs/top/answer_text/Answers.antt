use Rattle.std.proofs.Common.{sym}
use Rattle.kanren_run.proofs.TopLaws.{refused_also, refused_as}
use Rattle.kanren_run.proofs.top.answer_text.Goals as goal

pub returns-in-Err-Fault : goal.returns-in-Err-Fault
returns-in-Err-Fault g c =
    c.refuse.ensures c.args.settings c.args.text.now
    (refused_also c.args.settings _ _ _ (sym c.in-Err-Fault.fault-is) (refused_as c.args.settings _ c.compile_text.new.names _ _ c.in-Err-Fault.field-0-is c.in-Err-Fault.ensures))
