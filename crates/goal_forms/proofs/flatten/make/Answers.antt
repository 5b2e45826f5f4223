use Rattle.goal_forms.proofs.PlaceLaws.{put_kept, put_below}
use Rattle.goal_forms.specs.Parts.{sites}
use Rattle.std.proofs.Common.{arith}
use Rattle.goal_forms.proofs.UnnamedLaws.{put_unnamed}
use Rattle.goal_forms.specs.Parts.{part_site}
use Rattle.goal_forms.proofs.flatten.make.Goals as goal

pub returns-clause-made : goal.returns-clause-made
returns-clause-made c = put_kept (sites c.args.table.now) _ c.args.places.now.items _ _ c.in_ok-put.ensures.table c.in_ok-put.ensures.places c.requires.below

pub returns-clause-below : goal.returns-clause-below
returns-clause-below c = put_below (sites c.args.table.now) _ c.args.places.now.items _ _ c.in_ok-put.ensures.table c.in_ok-put.ensures.places c.requires.below

pub returns-clause-named : goal.returns-clause-named
returns-clause-named c = λ names. omega (arith, put_unnamed names (sites c.args.table.now) _ (part_site (sites c.args.table.now) c.args.at c.args.part) c.in_ok-put.ensures.table)
