use Rattle.kan_terms.specs.Terms.{tree}
use Rattle.unify_core.specs.Walking.{full}
use Rattle.type_absence.specs.Meaning.{tags}
use Rattle.type_absence.proofs.TagSteps.{first_found, first_leads, turn_found, turn_leads, turn_falls}
use Rattle.type_absence.proofs.absence.Absences.put_inside.Goals as goal

pub returns-then-branch : goal.returns-then-branch
returns-then-branch g c =
    first_found (g.B.Bindings.pairs c.args.bindings.now) c.requires c.args.more.now (tags c.args.self.now) (tags c.look_at.new.self) (tree c.args.term.now)
    c.in_ok-look_at.field-0 c.in_ok-look_at.ensures.found c.if-branch.true

pub loop-next-init : goal.loop-next-init
loop-next-init g c =
    first_leads (g.B.Bindings.pairs c.args.bindings.now) c.requires c.args.more.now (tags c.args.self.now) (tags c.look_at.new.self) (tree c.args.term.now)
    c.in_ok-look_at.field-0 c.new-waiting.result.items c.look_at.new.waiting.items c.new-waiting.ensures.items
    c.in_ok-look_at.ensures.found c.in_ok-look_at.ensures.waits c.in_ok-look_at.ensures.tagged c.if-branch.false

pub returns-then-branch-2 : goal.returns-then-branch-2
returns-then-branch-2 g c =
    turn_found (g.B.Bindings.pairs c.args.bindings.now) c.requires c.args.more.now (tags c.args.self.now) (tags c.loop-next.self) (tags c.look_at-in-Some.new.self)
    (full (g.B.Bindings.pairs c.args.bindings.now) (tree c.args.term.now)) c.loop-next.waiting.items c.pop.new.self.items c.in-Some.next
    c.in_ok-look_at-2.field-0 c.in-Some.ensures.items c.in_ok-look_at-2.ensures.found c.if-branch-2.true c.loop-next.invariant

pub loop-next-smaller : goal.loop-next-smaller
loop-next-smaller g c =
    turn_falls (g.B.Bindings.pairs c.args.bindings.now) c.requires c.args.more.now c.loop-next.waiting.items c.pop.new.self.items c.look_at-in-Some.new.waiting.items c.in-Some.next
    c.in_ok-look_at-2.field-0 c.in-Some.ensures.items c.in_ok-look_at-2.ensures.waits c.if-branch-2.false

pub loop-next-preserved : goal.loop-next-preserved
loop-next-preserved g c =
    turn_leads (g.B.Bindings.pairs c.args.bindings.now) c.requires c.args.more.now (tags c.args.self.now) (tags c.loop-next.self) (tags c.look_at-in-Some.new.self)
    (full (g.B.Bindings.pairs c.args.bindings.now) (tree c.args.term.now)) c.loop-next.waiting.items c.pop.new.self.items c.look_at-in-Some.new.waiting.items c.in-Some.next
    c.in_ok-look_at-2.field-0 c.in-Some.ensures.items c.in_ok-look_at-2.ensures.found c.in_ok-look_at-2.ensures.waits c.in_ok-look_at-2.ensures.tagged
    c.if-branch-2.false c.loop-next.invariant
