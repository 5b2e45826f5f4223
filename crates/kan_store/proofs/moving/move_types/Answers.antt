use Rattle.std.proofs.Common.{map, Some, None, true, false, subst, arith, rules}
use Rattle.kan_terms.specs.Terms.{tree, sides}
use Rattle.unify_core.specs.Walking.{walk}
use Rattle.type_absence.specs.Types.{MovesTypes, made_if}
use Rattle.type_absence.specs.Meaning.{types}
use Rattle.kan_store.proofs.MovingLaws.{never_other, types_go_on, types_end, types_done, types_stay}
use Rattle.kan_store.proofs.moving.move_types.Goals as goal

pub unreachable-requires : goal.unreachable-requires
unreachable-requires g c = never_other c.args.added.now c.items-pair-items.result.now c.loop-pair.pair-index c.pair-item.result c.requires.binds c.items-pair-items.ensures c.loop-pair-test.true c.pair-item.is c.in_default.not-Var

pub returns-then-not-branch : goal.returns-then-not-branch
returns-then-not-branch g c = c.loop-pair.invariant None (types_end (g.B.Bindings.pairs c.args.bindings.now) c.args.added.now c.items-pair-items.result.now c.loop-pair.pair-index c.pair-item.result c.in-Var.var c.items-pair-items.ensures c.loop-pair-test.true c.pair-item.is c.in-Var.is
    (types c.loop-pair.kinds) (subst (λ f. MovesTypes (types c.loop-pair.kinds) (types c.loop-pair.kinds c.in-Var.var) (walk (g.B.Bindings.pairs c.args.bindings.now) (tree c.pair-item.result.rest)) (made_if f (types c.move_over.new.self))) {y = false} (search rules) c.in_ok-move_over.ensures))

pub loop-pair-preserved : goal.loop-pair-preserved
loop-pair-preserved g c = λ r d. c.loop-pair.invariant r (types_go_on (g.B.Bindings.pairs c.args.bindings.now) c.args.added.now c.items-pair-items.result.now c.loop-pair.pair-index c.pair-item.result c.in-Var.var c.items-pair-items.ensures c.loop-pair-test.true c.pair-item.is c.in-Var.is
    (types c.loop-pair.kinds) (types c.move_over.new.self) r (subst (λ f. MovesTypes (types c.loop-pair.kinds) (types c.loop-pair.kinds c.in-Var.var) (walk (g.B.Bindings.pairs c.args.bindings.now) (tree c.pair-item.result.rest)) (made_if f (types c.move_over.new.self))) {y = true} (search rules) c.in_ok-move_over.ensures) d)

pub returns : goal.returns
returns g c = c.loop-pair.invariant (Some (types c.loop-pair.kinds)) (types_done (g.B.Bindings.pairs c.args.bindings.now) c.args.added.now c.items-pair-items.result.now c.loop-pair.pair-index (types c.loop-pair.kinds) c.items-pair-items.ensures (λ low. (let past = c.loop-pair-test.false in omega (arith, low, past))))

pub returns-then-is_untouched : goal.returns-then-is_untouched
returns-then-is_untouched g c = types_stay (g.B.Bindings.pairs c.args.bindings.now) (types c.args.kinds.now) (c.is_untouched.ensures (search rules)) (map sides c.args.added.now) c.requires.binds
