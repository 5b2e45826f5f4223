use Rattle.std.proofs.Common.{arith, ap, length}
use Rattle.std.specs.Prelude.{nat_eq}
use Rattle.std.specs.HashMap.{get}
use Rattle.goal_forms.proofs.RelationLaws.{number_noted}
use Rattle.goal_forms.proofs.relations.Relations.of.Goals as goal

pub loop-place-preserved : goal.loop-place-preserved
loop-place-preserved c = λ x.
    number_noted c.args.rows.items _ c.loop-place.place _ x (omega (arith, ap length c.deref-row-items.ensures.value)) c.deref-row-items.ensures.value
    (get nat_eq c.loop-place.numbers) (get nat_eq c.note.new.numbers) c.in_ok-note.ensures c.loop-place.invariant
