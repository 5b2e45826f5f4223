use Rattle.std.proofs.Common.{sym, refl, ◌∙◌}
use Rattle.kan_terms.specs.Terms.{tree}
use Rattle.unify_core.specs.LentBindings.{with_lent}
use Rattle.unify_core.specs.Walking.{walk}
use Rattle.unify_core.proofs.Steps.OccursSteps.{first_finds, first_keeps, turn_finds, turn_keeps, turn_falls}
use Rattle.unify_core.proofs.occurring.occurs_on.Goals as goal

pub returns-then-branch : goal.returns-then-branch
returns-then-branch g c =
    first_finds (with_lent c.args.lent.now (g.B.Bindings.pairs c.args.bindings.now)) c.requires c.args.var (tree c.args.term.now)
    c.in_ok-look_at.field-0 c.in_ok-look_at.ensures.found c.if-branch.true

pub loop-next-init : goal.loop-next-init
loop-next-init g c =
    first_keeps (with_lent c.args.lent.now (g.B.Bindings.pairs c.args.bindings.now)) c.requires c.args.var (tree c.args.term.now)
    c.in_ok-look_at.field-0 c.new-waiting.result.items c.look_at.new.waiting.items c.new-waiting.ensures.items
    c.in_ok-look_at.ensures.found c.in_ok-look_at.ensures.waits c.if-branch.false

pub returns-then-branch-2 : goal.returns-then-branch-2
returns-then-branch-2 g c =
    let bound = with_lent c.args.lent.now (g.B.Bindings.pairs c.args.bindings.now) in
    turn_finds bound c.requires c.args.var c.loop-next.waiting.items c.pop.new.self.items c.in-Some.next
    (walk bound (tree c.in-Some.next.now)) _ c.in-Some.ensures.items refl
    (sym c.in_ok-look_at-2.ensures.found ∙ c.if-branch-2.true) c.loop-next.invariant

pub loop-next-preserved : goal.loop-next-preserved
loop-next-preserved g c =
    let bound = with_lent c.args.lent.now (g.B.Bindings.pairs c.args.bindings.now) in
    turn_keeps bound c.requires c.args.var c.loop-next.waiting.items c.pop.new.self.items c.look_at-in-Some.new.waiting.items c.in-Some.next
    (walk bound (tree c.in-Some.next.now)) _ c.in-Some.ensures.items refl
    (sym c.in_ok-look_at-2.ensures.found ∙ c.if-branch-2.false) (c.in_ok-look_at-2.ensures.waits c.if-branch-2.false) c.loop-next.invariant

pub loop-next-smaller : goal.loop-next-smaller
loop-next-smaller g c =
    let bound = with_lent c.args.lent.now (g.B.Bindings.pairs c.args.bindings.now) in
    turn_falls bound c.requires c.loop-next.waiting.items c.pop.new.self.items c.look_at-in-Some.new.waiting.items c.in-Some.next
    (walk bound (tree c.in-Some.next.now)) c.in-Some.ensures.items refl (c.in_ok-look_at-2.ensures.waits c.if-branch-2.false)
