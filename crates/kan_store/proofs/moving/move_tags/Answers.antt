use Rattle.std.proofs.Common.{map, Some, None, true, false, subst, arith, rules}
use Rattle.kan_terms.specs.Terms.{tree, sides}
use Rattle.unify_core.specs.Walking.{full}
use Rattle.type_absence.specs.Absent.{GivesTags}
use Rattle.type_absence.specs.Types.{made_if}
use Rattle.type_absence.specs.Meaning.{tags}
use Rattle.kan_store.proofs.MovingLaws.{never_other, tags_go_on, tags_end, tags_done, tags_stay}
use Rattle.kan_store.proofs.moving.move_tags.Goals as goal

pub unreachable-requires : goal.unreachable-requires
unreachable-requires g c = never_other c.args.added.now c.items-pair-items.result.now c.loop-pair.pair-index c.pair-item.result c.requires.binds c.items-pair-items.ensures c.loop-pair-test.true c.pair-item.is c.in_default.not-Var

pub returns-then-not-branch : goal.returns-then-not-branch
returns-then-not-branch g c = c.loop-pair.invariant None (tags_end (g.B.Bindings.pairs c.args.bindings.now) c.args.added.now c.items-pair-items.result.now c.loop-pair.pair-index c.pair-item.result c.in-Var.var c.items-pair-items.ensures c.loop-pair-test.true c.pair-item.is c.in-Var.is
    (tags c.loop-pair.absences) (subst (λ f. GivesTags (tags c.loop-pair.absences) (tags c.loop-pair.absences c.in-Var.var) (full (g.B.Bindings.pairs c.args.bindings.now) (tree c.pair-item.result.rest)) (made_if f (tags c.move_over.new.self))) {y = false} (search rules) c.in_ok-move_over.ensures))

pub loop-pair-preserved : goal.loop-pair-preserved
loop-pair-preserved g c = λ r d. c.loop-pair.invariant r (tags_go_on (g.B.Bindings.pairs c.args.bindings.now) c.args.added.now c.items-pair-items.result.now c.loop-pair.pair-index c.pair-item.result c.in-Var.var c.items-pair-items.ensures c.loop-pair-test.true c.pair-item.is c.in-Var.is
    (tags c.loop-pair.absences) (tags c.move_over.new.self) r (subst (λ f. GivesTags (tags c.loop-pair.absences) (tags c.loop-pair.absences c.in-Var.var) (full (g.B.Bindings.pairs c.args.bindings.now) (tree c.pair-item.result.rest)) (made_if f (tags c.move_over.new.self))) {y = true} (search rules) c.in_ok-move_over.ensures) d)

pub returns : goal.returns
returns g c = c.loop-pair.invariant (Some (tags c.loop-pair.absences)) (tags_done (g.B.Bindings.pairs c.args.bindings.now) c.args.added.now c.items-pair-items.result.now c.loop-pair.pair-index (tags c.loop-pair.absences) c.items-pair-items.ensures (λ low. (let past = c.loop-pair-test.false in omega (arith, low, past))))

pub returns-then-is_untouched : goal.returns-then-is_untouched
returns-then-is_untouched g c = tags_stay (g.B.Bindings.pairs c.args.bindings.now) (tags c.args.absences.now) (c.is_untouched.ensures (search rules)) (map sides c.args.added.now) c.requires.binds
