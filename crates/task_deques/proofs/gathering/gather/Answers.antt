use Rattle.task_deques.proofs.GatherLaws.{whole_all, gathered}
use Rattle.task_deques.proofs.gathering.gather.Goals as goal

pub absorb_all-deques-requires : goal.absorb_all-deques-requires
absorb_all-deques-requires g c = record { all = whole_all c.args.holders.items c.in_ok-deques.deques.items c.in_ok-deques.stealers.items c.in_ok-deques.ensures.deques c.in_ok-deques.ensures.others c.requires.whole }

pub returns : goal.returns
returns g c = gathered c.args.holders.items c.in_ok-deques.deques.items c.absorb_all-deques.result.items c.in_ok-deques.stealers.items _ c.in_ok-deques.ensures.deques c.in_ok-deques.ensures.others c.absorb_all-deques.ensures.pushed c.absorb_all-deques.ensures.taken c.in_ok-left.ensures
