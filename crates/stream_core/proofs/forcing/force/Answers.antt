use Rattle.std.proofs.Common.{◌∙◌, refl, subst, ap}
use Rattle.kan_model.specs.Streams.Running.{force}
use Rattle.kan_model.specs.Streams.Bounds.{Fits}
use Rattle.kan_model.specs.Programs.Closed as programs
use Rattle.stream_core.specs.Tables.{IsForce}
use Rattle.stream_core.proofs.ClosedLaws.{program-closed}
use Rattle.stream_core.proofs.FitLaws.{force-fits, fits-moved}
use Rattle.stream_core.proofs.TableLaws.{more_grow, grow_twice, table_stays, kept-last, kept-up, kept-none}
use Rattle.stream_core.proofs.Paths.PathLaws.{last-around, path-stays, path-up, force-next, force-up, force-end, next-inside}
use Rattle.stream_core.proofs.StackLaws.{none-left}
use Rattle.stream_core.proofs.forcing.force.Goals as goal

pub path_down-requires-clause-may : goal.path_down-requires-clause-may
path_down-requires-clause-may g c = (g.met.N.Nodes.fits c.args.nodes.now c.args.id.now c.requires.belongs, c.requires.room)

pub loop-at-init : goal.loop-at-init
loop-at-init g c =
    let t = g.N.Nodes.table c.args.nodes.now in
    let u = g.N.Nodes.table c.force_last.new.nodes in
    let whole = t.tree c.args.id.now in
    let path = c.in_ok-path.ensures in
    let made = c.in_ok-stream.ensures in
    record {
      table = table_stays _ c.args.program.now t u made.kept c.requires.table;
      path = path-stays _ t u made.kept whole c.in_ok-path.path.above.items path.above;
      force = force-next _ t u made.kept g.St.Store.meaning whole c.in_ok-path.path.above.items c.in_ok-path.path.last c.in_ok-stream.stream path.above path.last.is made.force;
      grows = more_grow c.in_ok-path.path.last t u made.kept;
      kept = kept-last g.St.Store.meaning c.args.id.now c.in_ok-path.path.last c.in_ok-path.path.above.items t u c.in_ok-path.path.found path.end path.leads made.kept;
    }

pub force_around-requires-clause-belongs : goal.force_around-requires-clause-belongs
force_around-requires-clause-belongs g c =
    (last-around (g.N.Nodes.table c.loop-at.nodes) _ c.loop-at.above.items _ c.in-Some.at c.loop-at.invariant.path c.in-Some.ensures.items).0

pub force_around-requires-clause-may : goal.force_around-requires-clause-may
force_around-requires-clause-may g c =
    (last-around (g.N.Nodes.table c.loop-at.nodes) _ c.loop-at.above.items _ c.in-Some.at c.loop-at.invariant.path c.in-Some.ensures.items).1

pub force_around-requires-clause-around : goal.force_around-requires-clause-around
force_around-requires-clause-around g c =
    (last-around (g.N.Nodes.table c.loop-at.nodes) _ c.loop-at.above.items _ c.in-Some.at c.loop-at.invariant.path c.in-Some.ensures.items).2

pub force_around-requires-clause-inside : goal.force_around-requires-clause-inside
force_around-requires-clause-inside g c =
    let t = g.N.Nodes.table c.loop-at.nodes in
    subst (λ x. IsForce t g.St.Store.meaning x c.loop-at.stream) (next-inside t _ _ c.loop-at.above.items c.in-Some.at c.in-Some.ensures.items) c.loop-at.invariant.force

pub loop-at-preserved : goal.loop-at-preserved
loop-at-preserved g c =
    let t = g.N.Nodes.table c.loop-at.nodes in
    let u = g.N.Nodes.table c.force_around.new.nodes in
    let whole = (g.N.Nodes.table c.args.nodes.now).tree c.args.id.now in
    let inv = c.loop-at.invariant in
    let made = c.in_ok-stream-2.ensures in
    record {
      table = table_stays _ c.args.program.now t u made.kept inv.table;
      path = path-up _ t u made.kept whole c.loop-at.above.items c.pop.new.self.items c.in-Some.at c.in-Some.ensures.items inv.path;
      force = force-up _ t u made.kept g.St.Store.meaning whole c.loop-at.above.items c.pop.new.self.items c.in-Some.at _ c.in-Some.ensures.items inv.path made.force;
      grows = grow_twice _ t u inv.grows (more_grow c.in-Some.at t u made.kept);
      kept = kept-up _ c.args.id.now c.in-Some.at c.loop-at.above.items c.pop.new.self.items _ t.told u.told c.in-Some.ensures.items inv.kept made.kept.kept;
    }

pub returns-clause-force : goal.returns-clause-force
returns-clause-force g c =
    force-end (g.N.Nodes.table c.loop-at.nodes) g.St.Store.meaning _ c.loop-at.above.items c.loop-at.stream
    (none-left _ _ _ _ _ _ c.pop.ensures.items c.pop.ensures.rest c.pop.ensures.cases c.in_default.not-Some) c.loop-at.invariant.force

pub returns-clause-fits : goal.returns-clause-fits
returns-clause-fits g c =
    let p = c.args.program.now in
    let whole = (g.N.Nodes.table c.args.nodes.now).tree c.args.id.now in
    let fit = subst (λ q. Fits q whole) c.requires.table.program (g.met.N.Nodes.fits c.args.nodes.now c.args.id.now c.requires.belongs) in
    fits-moved (programs.meaning p) (programs.meaning p) _ _ _ _ refl ((returns-clause-force g c).1 ∙ ap (λ q. force q whole) c.loop-at.invariant.table.program) (force-fits (programs.meaning p) whole (program-closed p c.requires.table.small) fit)

pub returns-clause-kept : goal.returns-clause-kept
returns-clause-kept g c =
    kept-none _ c.args.id.now c.loop-at.above.items _ _
    (none-left _ _ _ _ _ _ c.pop.ensures.items c.pop.ensures.rest c.pop.ensures.cases c.in_default.not-Some) c.loop-at.invariant.kept

pub returns-clause-grows : goal.returns-clause-grows
returns-clause-grows g c = c.loop-at.invariant.grows
