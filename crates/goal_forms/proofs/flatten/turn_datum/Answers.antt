use Rattle.goal_forms.proofs.FlatteningLaws.{list_falls, prefixed_falls, prefixed_finish}
use Rattle.std.proofs.Common.{arith}
use Rattle.goal_forms.proofs.SizeLaws.{list_parts, prefixed_parts}
use Rattle.goal_forms.proofs.FlatHeightLaws.{list_low, prefixed_low}
use Rattle.goal_forms.proofs.UnnamedLaws.{pushed_unnamed}
use Rattle.goal_forms.specs.declared.flatten.Work.TheVariants as works
use Rattle.goal_forms.proofs.flatten.turn_datum.Goals as goal

pub returns-in_ok-push-in-List-clause-falls : goal.returns-in_ok-push-in-List-clause-falls
returns-in_ok-push-in-List-clause-falls c =
    list_falls c.args.names.now c.args.datum.now c.in-List.items c.in-List.last c.as_slice.result c.last_datum.result _ c.args.works.now.items _ c.in-List.is c.as_slice.ensures c.last_datum.ensures c.in_ok-push-in-List.ensures.items

pub returns-in_ok-push-in-Prefixed-2-clause-made : goal.returns-in_ok-push-in-Prefixed-2-clause-made
returns-in_ok-push-in-Prefixed-2-clause-made c =
    prefixed_finish c.args.names.now c.args.datum.now c.in-Prefixed.prefix c.in-Prefixed.inner c.get.result _ _ c.args.works.now.items _ c.push-in-Prefixed-2.new.self.items
    c.in-Prefixed.is c.get.ensures (c.prefix_symbol.ensures.number c.args.names.now c.requires.numbered) c.in_ok-push-in-Prefixed.ensures.items c.in_ok-push-in-Prefixed-2.ensures.items

pub returns-in_ok-push-in-Prefixed-2-clause-falls : goal.returns-in_ok-push-in-Prefixed-2-clause-falls
returns-in_ok-push-in-Prefixed-2-clause-falls c =
    prefixed_falls c.args.names.now c.args.datum.now c.in-Prefixed.prefix c.in-Prefixed.inner c.get.result _ _ c.args.works.now.items _ c.push-in-Prefixed-2.new.self.items
    c.in-Prefixed.is c.get.ensures c.in_ok-push-in-Prefixed.ensures.items c.in_ok-push-in-Prefixed-2.ensures.items

pub returns-in_ok-push-in-List-clause-low : goal.returns-in_ok-push-in-List-clause-low
returns-in_ok-push-in-List-clause-low c = λ low.
    list_low c.args.names.now c.args.datum.now c.in-List.items c.in-List.last c.as_slice.result c.last_datum.result c.args.works.now.items _ _ _ c.in-List.is c.as_slice.ensures c.last_datum.ensures c.in_ok-push-in-List.ensures.items low.left low.there

pub returns-in_ok-push-in-Prefixed-2-clause-low : goal.returns-in_ok-push-in-Prefixed-2-clause-low
returns-in_ok-push-in-Prefixed-2-clause-low c = λ low.
    prefixed_low c.args.names.now c.args.datum.now c.in-Prefixed.prefix c.in-Prefixed.inner c.get.result _ c.args.works.now.items _ c.push-in-Prefixed-2.new.self.items _ _
    c.in-Prefixed.is c.get.ensures (c.prefix_symbol.ensures.number c.args.names.now c.requires.numbered) c.in_ok-push-in-Prefixed.ensures.items c.in_ok-push-in-Prefixed-2.ensures.items low.left low.there

pub returns-in_ok-push-in-List-clause-parts : goal.returns-in_ok-push-in-List-clause-parts
returns-in_ok-push-in-List-clause-parts c =
    let same = list_parts c.args.names.now c.args.datum.now c.in-List.items c.in-List.last c.as_slice.result c.last_datum.result c.args.works.now.items _ c.in-List.is c.as_slice.ensures c.last_datum.ensures c.in_ok-push-in-List.ensures.items in omega (arith, same)

pub returns-in_ok-push-in-Prefixed-2-clause-parts : goal.returns-in_ok-push-in-Prefixed-2-clause-parts
returns-in_ok-push-in-Prefixed-2-clause-parts c =
    let fewer = prefixed_parts c.args.names.now c.args.datum.now c.in-Prefixed.prefix c.in-Prefixed.inner c.get.result _ _ c.args.works.now.items _ c.push-in-Prefixed-2.new.self.items
    c.in-Prefixed.is c.get.ensures c.in_ok-push-in-Prefixed.ensures.items c.in_ok-push-in-Prefixed-2.ensures.items in omega (arith, fewer)

pub returns-in_ok-push-in-List-clause-named : goal.returns-in_ok-push-in-List-clause-named
returns-in_ok-push-in-List-clause-named c = omega (arith, pushed_unnamed c.args.names.now c.args.works.now.items _ (works.Rest c.as_slice.result c.last_datum.result c.args.datum.now.at) c.in_ok-push-in-List.ensures.items)

pub returns-in_ok-push-in-Prefixed-2-clause-named : goal.returns-in_ok-push-in-Prefixed-2-clause-named
returns-in_ok-push-in-Prefixed-2-clause-named c =
    omega (
      arith,
      pushed_unnamed c.args.names.now c.args.works.now.items c.push-in-Prefixed.new.self.items (works.Prefixed c.args.datum.now.at c.prefix_symbol.result) c.in_ok-push-in-Prefixed.ensures.items,
      pushed_unnamed c.args.names.now c.push-in-Prefixed.new.self.items c.push-in-Prefixed-2.new.self.items (works.Datum c.get.result) c.in_ok-push-in-Prefixed-2.ensures.items,
      c.prefix_symbol.ensures.named c.args.names.now c.requires.prefixed,
    )
