use Rattle.goal_forms.proofs.PlaceLaws.{pair_there, join_made, join_below}
use Rattle.goal_forms.specs.Parts.{sites}
use Rattle.goal_forms.proofs.FlatHeightLaws.{join_low}
use Rattle.goal_forms.proofs.UnnamedLaws.{pair_unnamed}
use Rattle.goal_forms.proofs.flatten.join.Goals as goal

pub put-requires-clause-there : goal.put-requires-clause-there
put-requires-clause-there c = pair_there (sites c.args.table.now) _ _ _ _ _ c.in-Some.ensures.items c.in-Some-pop.ensures.items c.requires.below

pub returns-clause-made : goal.returns-clause-made
returns-clause-made c = join_made c.args.at (sites c.args.table.now) _ c.args.places.now.items _ _ _ _ _ c.in-Some.ensures.items c.in-Some-pop.ensures.items c.requires.below c.in_ok-put.ensures.table c.in_ok-put.ensures.places

pub returns-clause-below : goal.returns-clause-below
returns-clause-below c = join_below c.args.at (sites c.args.table.now) _ c.args.places.now.items _ _ _ _ _ c.in-Some.ensures.items c.in-Some-pop.ensures.items c.requires.below c.in_ok-put.ensures.table c.in_ok-put.ensures.places

pub returns-clause-low : goal.returns-clause-low
returns-clause-low c = λ low there. join_low c.args.at (sites c.args.table.now) _ c.args.places.now.items _ _ _ _ c.in-Some.ensures.items c.in-Some-pop.ensures.items c.in_ok-put.ensures.table low there

pub returns-clause-named : goal.returns-clause-named
returns-clause-named c = λ names. pair_unnamed names (sites c.args.table.now) _ c.args.at _ _ c.in_ok-put.ensures.table
