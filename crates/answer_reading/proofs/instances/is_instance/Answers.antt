use Rattle.std.proofs.Common.{ap, ◌∙◌}
use Rattle.reify.specs.Meaning.{meaning}
use Rattle.answer_reading.specs.Marks.{lent_lists}
use Rattle.answer_reading.specs.Finding.{rises, seen_of}
use Rattle.answer_reading.proofs.CoverLaws.{over_rises, covered_as, covered_none, found_as}
use Rattle.answer_reading.proofs.instances.is_instance.Goals as goal

pub values_of-requires-clause-rising : goal.values_of-requires-clause-rising
values_of-requires-clause-rising c = ap (rises 0) c.term.ensures.shapes ∙ over_rises (meaning c.args.answer.now) c.term.ensures.over

pub returns-in-Some : goal.returns-in-Some
returns-in-Some c =
    covered_as (meaning c.args.answer.now) c.args.ground.now _ c.covers.result _ _ c.term.ensures.over
    (found_as _ _ _ _ _ _ c.term.ensures.shapes c.marks.ensures (ap seen_of c.in-Some.is) c.in_ok-found.ensures)
    (ap lent_lists c.deref.ensures.value) c.marks-in-Some.ensures c.covers.ensures

pub returns-in-None : goal.returns-in-None
returns-in-None c = covered_none (meaning c.args.answer.now) c.args.ground.now (found_as _ _ _ _ _ _ c.term.ensures.shapes c.marks.ensures (ap seen_of c.in-None.is) c.in_ok-found.ensures)
