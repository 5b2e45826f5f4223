use Rattle.goal_forms.proofs.PlaceLaws.{prefix_made, prefix_below, put_below}
use Rattle.goal_forms.specs.Parts.{sites}
use Rattle.goal_forms.proofs.FlatHeightLaws.{prefix_low}
use Rattle.std.proofs.Common.{arith}
use Rattle.goal_forms.proofs.UnnamedLaws.{put_unnamed}
use Rattle.kan_grammar.specs.Texts.Sited.{Sited}
use Rattle.goal_forms.proofs.flatten.prefix.Goals as goal

pub join-requires-clause-below : goal.join-requires-clause-below
join-requires-clause-below c =
    put_below (sites c.put.new.table) _ _ _ _ c.in_ok-put-2.ensures.table c.in_ok-put-2.ensures.places
    (prefix_below (sites c.args.table.now) (sites c.put.new.table) c.args.places.now.items _ _ _ c.in-Some.datum _ c.in-Some.ensures.items c.requires.below c.in_ok-put.ensures.table c.in_ok-put.ensures.places c.in_ok-push.ensures.items)

pub returns-clause-made : goal.returns-clause-made
returns-clause-made c =
    prefix_made c.args.at c.args.symbol (sites c.args.table.now) (sites c.put.new.table) (sites c.put-2.new.table) (sites c.join.new.table) (sites c.join-2.new.table)
    c.args.places.now.items _ _ _ c.put-2.new.places.items c.join.new.places.items c.join-2.new.places.items c.in-Some.datum
    c.in-Some.ensures.items c.requires.below c.in_ok-put.ensures.table c.in_ok-put.ensures.places c.in_ok-push.ensures.items c.in_ok-put-2.ensures.table c.in_ok-put-2.ensures.places c.in_ok-join.ensures.made c.in_ok-join-2.ensures.made

pub returns-clause-low : goal.returns-clause-low
returns-clause-low c = λ low there.
    prefix_low c.args.at c.args.symbol (sites c.args.table.now) (sites c.put.new.table) (sites c.put-2.new.table) (sites c.join.new.table) (sites c.join-2.new.table)
    c.args.places.now.items _ _ _ c.put-2.new.places.items c.join.new.places.items c.in-Some.datum
    c.in-Some.ensures.items c.requires.below c.in_ok-put.ensures.table c.in_ok-put.ensures.places c.in_ok-push.ensures.items c.in_ok-put-2.ensures.table c.in_ok-put-2.ensures.places c.in_ok-join.ensures.made
    c.in_ok-join.ensures.low c.in_ok-join-2.ensures.low low there

pub returns-clause-named : goal.returns-clause-named
returns-clause-named c = λ names.
    omega (
      arith,
      put_unnamed names (sites c.args.table.now) (sites c.put.new.table) (Sited.name c.args.at c.args.symbol) c.in_ok-put.ensures.table,
      put_unnamed names (sites c.put.new.table) (sites c.put-2.new.table) (Sited.nil c.args.at) c.in_ok-put-2.ensures.table,
      c.in_ok-join.ensures.named names,
      c.in_ok-join-2.ensures.named names,
    )
