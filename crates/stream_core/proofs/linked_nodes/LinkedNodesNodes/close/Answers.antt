use Rattle.std.proofs.Common.{suc, length, arith, ap, subst, ◌≡◌}
use Rattle.kan_model.specs.Programs.Closed as programs
use Rattle.stream_core.specs.TableKinds.LinkedTables.{program_of, around_in_table}
use Rattle.stream_core.specs.TableKinds.LinkedThunks.{IsLevel}
use Rattle.stream_core.specs.Suspensions.{goal_in}
use Rattle.stream_core.proofs.ClosedLaws.{program-closed}
use Rattle.stream_core.proofs.TableKinds.LinkedLaws.{up-within, up-ends}
use Rattle.stream_core.proofs.linked_nodes.LinkedNodesNodes.close.Goals as goal

pub loop-level-init : goal.loop-level-init
loop-level-init g c = record { within = λ whole fits w. w; fewer = omega arith }

pub loop-level-preserved : goal.loop-level-preserved
loop-level-preserved g c =
    let code = program_of c.args.self.now in
    let p = programs.meaning code in
    let means = g.St.Store.meaning in
    let around = around_in_table means c.args.self.now in
    let inv = c.loop-level.invariant in
    let u = subst (λ level. IsLevel means (goal_in p) (around c.loop-level.around) c.loop-level.inside level) c.in-Up.is (c.in_ok-level.ensures (goal_in p)) in
    record {
      within = λ whole fits w. up-within means p (program-closed code c.requires) whole c.loop-level.around c.loop-level.inside fits (inv.within whole fits w) c.in-Up.outer c.in-Up.stream u;
      fewer = let long : length (around c.loop-level.around) ≡ suc (length (around c.in-Up.outer)) = ap length u.fewer in let low = inv.fewer in omega (arith, long, low);
    }

pub loop-level-smaller : goal.loop-level-smaller
loop-level-smaller g c =
    let p = programs.meaning (program_of c.args.self.now) in
    let means = g.St.Store.meaning in
    let around = around_in_table means c.args.self.now in
    let u = subst (λ level. IsLevel means (goal_in p) (around c.loop-level.around) c.loop-level.inside level) c.in-Up.is (c.in_ok-level.ensures (goal_in p)) in
    let long : length (around c.loop-level.around) ≡ suc (length (around c.in-Up.outer)) = ap length u.fewer in omega (arith, long)

pub returns-in-End : goal.returns-in-End
returns-in-End g c =
    let code = program_of c.args.self.now in
    let p = programs.meaning code in
    let means = g.St.Store.meaning in
    let around = around_in_table means c.args.self.now in
    let inv = c.loop-level.invariant in
    let last = subst (λ level. IsLevel means (goal_in p) (around c.loop-level.around) c.loop-level.inside level) c.in-End.is (c.in_ok-level.ensures (goal_in p)) in
    λ whole fits w. up-ends means p (program-closed code c.requires) whole c.loop-level.around c.loop-level.inside fits (inv.within whole fits w) c.args.around c.in-End.closed inv.fewer last
