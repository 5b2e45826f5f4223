use Rattle.goal_forms.proofs.FlatteningLaws.{rest_falls, last_falls}
use Rattle.std.proofs.Common.{arith}
use Rattle.goal_forms.proofs.SizeLaws.{rest_parts, last_parts}
use Rattle.goal_forms.proofs.FlatHeightLaws.{rest_low}
use Rattle.goal_forms.proofs.UnnamedLaws.{pushed_unnamed}
use Rattle.goal_forms.specs.declared.flatten.Work.TheVariants as works
use Rattle.goal_forms.proofs.flatten.turn_rest.Goals as goal

pub returns-in-Some-clause-falls : goal.returns-in-Some-clause-falls
returns-in-Some-clause-falls c =
    rest_falls c.args.names.now c.args.items c.in-Some.rest c.in-Some.first c.args.last _ c.args.works.now.items _ _ c.push-in-Some-2.new.self.items c.in-Some.ensures.cases.0 c.in_ok-push.ensures.items c.in_ok-push-2.ensures.items c.in_ok-push-3.ensures.items

pub returns-in_ok-push-in-Some-last-clause-falls : goal.returns-in_ok-push-in-Some-last-clause-falls
returns-in_ok-push-in-Some-last-clause-falls c =
    last_falls c.args.names.now c.args.items c.in-Some-last.datum c.args.last c.args.works.now.items _ c.in_default.ensures.cases c.in-Some-last.is c.in_ok-push-in-Some-last.ensures.items

pub returns-in-Some-clause-low : goal.returns-in-Some-clause-low
returns-in-Some-clause-low c = λ low.
    rest_low c.args.names.now c.args.items c.in-Some.rest c.in-Some.first c.args.last _ c.args.works.now.items _ _ c.push-in-Some-2.new.self.items _ _ c.in-Some.ensures.cases.0
    c.in_ok-push.ensures.items c.in_ok-push-2.ensures.items c.in_ok-push-3.ensures.items low.left low.there

pub returns-in-Some-clause-parts : goal.returns-in-Some-clause-parts
returns-in-Some-clause-parts c =
    let fewer = rest_parts c.args.names.now c.args.items c.in-Some.rest c.in-Some.first c.args.last _ c.args.works.now.items _ _ c.push-in-Some-2.new.self.items c.in-Some.ensures.cases.0 c.in_ok-push.ensures.items c.in_ok-push-2.ensures.items c.in_ok-push-3.ensures.items in omega (arith, fewer)

pub returns-in_ok-push-in-Some-last-clause-parts : goal.returns-in_ok-push-in-Some-last-clause-parts
returns-in_ok-push-in-Some-last-clause-parts c =
    let fewer = last_parts c.args.names.now c.args.items c.in-Some-last.datum c.args.last c.args.at c.args.works.now.items _ c.in_default.ensures.cases c.in-Some-last.is c.in_ok-push-in-Some-last.ensures.items in omega (arith, fewer)

pub returns-in-Some-clause-named : goal.returns-in-Some-clause-named
returns-in-Some-clause-named c =
    omega (
      arith,
      pushed_unnamed c.args.names.now c.args.works.now.items _ (works.Pair c.args.at) c.in_ok-push.ensures.items,
      pushed_unnamed c.args.names.now c.push.new.self.items c.push-in-Some.new.self.items (works.Rest c.in-Some.rest c.args.last c.args.at) c.in_ok-push-2.ensures.items,
      pushed_unnamed c.args.names.now c.push-in-Some.new.self.items c.push-in-Some-2.new.self.items (works.Datum c.in-Some.first) c.in_ok-push-3.ensures.items,
    )

pub returns-in_ok-push-in-Some-last-clause-named : goal.returns-in_ok-push-in-Some-last-clause-named
returns-in_ok-push-in-Some-last-clause-named c = omega (arith, pushed_unnamed c.args.names.now c.args.works.now.items _ (works.Datum c.in-Some-last.datum) c.in_ok-push-in-Some-last.ensures.items)
