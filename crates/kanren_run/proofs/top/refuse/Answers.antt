use Rattle.std.proofs.Common.{◌∙◌}
use Rattle.kanren_run.proofs.TopLaws.{refused_front, refused_whole}
use Rattle.kanren_run.proofs.top.refuse.Goals as goal

pub returns-in-Ok-put_all : goal.returns-in-Ok-put_all
returns-in-Ok-put_all g c fuel text refused =
    (record { refusal = c.args.fault.refusal; is_for = refused; numbered = c.number.ensures.number }, refused_whole fuel text c.args.fault.at c.args.fault.refusal _ _ _ refused (c.as_bytes.ensures.value ∙ c.in-Ok.ensures) c.in-Ok-put_all.ensures.whole, c.in-Ok-put_all.ensures.faults)

pub returns : goal.returns
returns g c fuel text refused =
    (refused_front fuel text c.args.fault.at c.args.fault.refusal _ _ _ refused (c.as_bytes.ensures.value ∙ c.in-Ok.ensures) c.in-Err.ensures.front, c.in-Err.ensures.faults)
