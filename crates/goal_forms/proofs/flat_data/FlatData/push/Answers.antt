use Rattle.std.proofs.Common.{arith, []}
use Rattle.goal_forms.proofs.PartLaws.{length-sites, sites_after_push, pushed_or_not}
use Rattle.goal_forms.proofs.flat_data.FlatData.push.Goals as goal

pub invariant_of-self : goal.invariant_of-self
invariant_of-self c = record { grown = pushed_or_not _ c.args.self.now.rows.items _ c.args.node c.push.ensures.items c.args.self.now.grown c.requires.there }

pub returns-clause-added : goal.returns-clause-added
returns-clause-added c = sites_after_push c.args.self.now.rows.items _ c.args.node c.in_ok-push.ensures.items

pub returns-clause-place : goal.returns-clause-place
returns-clause-place c = omega (arith, length-sites [] c.args.self.now.rows.items)

pub overflow_cast-place : goal.overflow_cast-place
overflow_cast-place c = omega (arith, length-sites [] c.args.self.now.rows.items, c.requires.room)
