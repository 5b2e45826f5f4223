use Rattle.std.specs.Prelude.{IsTrue}
use Rattle.std.proofs.Common.{◌≡◌, ◌↔◌, subst, Some, map, []}
use Rattle.kan_model.specs.Programs.Closed as programs
use Rattle.ground_meaning.specs.Accepting.{after_steps}
use Rattle.ground_meaning.specs.Following.{step_of, claims_in, FollowsClaim}
use Rattle.ground_meaning.proofs.RunLaws.{run_on, run_refused, run_empty, run_ended}
use Rattle.ground_meaning.proofs.following.follow_all.Goals as goal

pub returns-in_default : goal.returns-in_default
returns-in_default c =
    run_empty c.args.program.now c.args.steps.now (after_steps (programs.meaning c.args.program.now) (map step_of c.args.steps.now) (Some (claims_in c.args.program.now c.args.waiting.items)))
    c.loop-step.step-index c.step-item.result c.loop-step.waiting.items c.loop-step-test.true c.step-item.is c.in_default.ensures.empty c.loop-step.invariant

pub returns-then-not-branch : goal.returns-then-not-branch
returns-then-not-branch c =
    run_refused c.args.program.now c.args.steps.now (after_steps (programs.meaning c.args.program.now) (map step_of c.args.steps.now) (Some (claims_in c.args.program.now c.args.waiting.items)))
    c.loop-step.step-index c.step-item.result c.in-Some.claim c.loop-step.waiting.items c.next.new.waiting.items c.follow.new.waiting.items c.loop-step-test.true c.step-item.is c.in-Some.ensures.taken
    (subst (λ b. FollowsClaim c.args.program.now c.in-Some.claim c.step-item.result c.next.new.waiting.items b c.follow.new.waiting.items) c.if-not-branch.true c.in_ok-follow.ensures) c.loop-step.invariant

pub loop-step-preserved : goal.loop-step-preserved
loop-step-preserved c =
    run_on c.args.program.now c.args.steps.now (after_steps (programs.meaning c.args.program.now) (map step_of c.args.steps.now) (Some (claims_in c.args.program.now c.args.waiting.items)))
    c.loop-step.step-index c.step-item.result c.in-Some.claim c.loop-step.waiting.items c.next.new.waiting.items c.follow.new.waiting.items c.loop-step-test.true c.step-item.is c.in-Some.ensures.taken
    (subst (λ b. FollowsClaim c.args.program.now c.in-Some.claim c.step-item.result c.next.new.waiting.items b c.follow.new.waiting.items) c.if-not-branch.false c.in_ok-follow.ensures) c.loop-step.invariant

pub returns : goal.returns
returns c =
    run_ended c.args.program.now c.args.steps.now (after_steps (programs.meaning c.args.program.now) (map step_of c.args.steps.now) (Some (claims_in c.args.program.now c.args.waiting.items)))
    c.loop-step.step-index c.loop-step.waiting.items c.is_done.result c.loop-step-test.false (subst (λ ws. IsTrue c.is_done.result ↔ (ws ≡ [])) c.deref.ensures.value c.is_done.ensures) c.loop-step.invariant
