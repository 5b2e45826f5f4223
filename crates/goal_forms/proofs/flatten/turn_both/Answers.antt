use Rattle.goal_forms.specs.Parts.{sites}
use Rattle.goal_forms.proofs.DataPlaces.{both_turned}
use Rattle.goal_forms.proofs.HeightLaws.{places_low}
use Rattle.goal_forms.proofs.flatten.turn_both.Goals as goal

pub returns-clause-made : goal.returns-clause-made
returns-clause-made c =
    both_turned c.args.names.now c.args.library.now c.args.text.now (sites c.args.table.now) (sites c.turn.new.table) (sites c.turn-2.new.table) c.new-places.result.items c.turn.new.places.items c.turn-2.new.places.items
    c.new-places.ensures.items c.in_ok-turn.ensures.made c.in_ok-turn-2.ensures.made

pub returns-clause-low : goal.returns-clause-low
returns-clause-low c = λ library text there.
    let mid = c.in_ok-turn.ensures.low library (places_low (sites c.args.table.now) c.new-places.result.items there) there in
    c.in_ok-turn-2.ensures.low text (places_low (sites c.turn.new.table) c.turn.new.places.items mid) mid
