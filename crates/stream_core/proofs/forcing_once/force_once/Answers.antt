use Rattle.std.proofs.Common.{◌≡◌, length, arith, refl, sym, subst, ap, ◌∙◌}
use Rattle.kan_model.specs.Programs.Closed as programs
use Rattle.kan_model.specs.Programs.Scope.{is_small}
use Rattle.kan_model.specs.Streams.Bounds.{Fits}
use Rattle.kan_model.specs.Streams.Running.{force}
use Rattle.stream_core.specs.CodeSurroundings.{StandsClosed}
use Rattle.stream_core.specs.InnerSuspensions.{MayForce}
use Rattle.stream_core.specs.Surroundings.{within_all}
use Rattle.stream_core.proofs.Paths.AroundLaws.{parted-may, bound-inside, bound-force}
use Rattle.stream_core.proofs.ClosedLaws.{program-closed}
use Rattle.stream_core.proofs.FitLaws.{force-fits, fits-moved}
use Rattle.stream_core.proofs.TableLaws.{adds_grow, grow_twice, table_stays}
use Rattle.stream_core.proofs.forcing_once.force_once.Goals as goal

pub force_innermost-requires-clause-may : goal.force_innermost-requires-clause-may
force_innermost-requires-clause-may g c =
    let t = g.N.Nodes.table c.args.nodes.now in
    let parted = c.part-parted.ensures in
    parted-may t g.St.Store.meaning (g.N.Nodes.around_in c.args.nodes.now c.part-parted.result.around) parted.tree (t.tree c.args.id) c.part-parted.result.innermost parted.is
    (g.met.N.Nodes.fits c.args.nodes.now c.args.id c.requires.belongs, c.requires.room) parted.innermost

pub loop-closed-init : goal.loop-closed-init
loop-closed-init g c =
    let t = g.N.Nodes.table c.args.nodes.now in
    let u = g.N.Nodes.table c.force_innermost.new.nodes in
    let parted = c.part-parted.ensures in
    let made = c.in_ok-inside.ensures in
    record {
      table = table_stays _ c.args.program.now t u made.grows c.requires.table;
      grows = made.grows;
      within = record {
        tree = parted.tree;
        is = ap (λ xs. within_all xs parted.tree) (g.met.N.Nodes.around_stays c.args.nodes.now c.force_innermost.new.nodes made.grows c.part-parted.result.around) ∙ parted.is;
        force = made.force parted.tree parted.innermost;
      };
    }

pub close-requires : goal.close-requires
close-requires g c = ap is_small c.loop-closed.invariant.table.program ∙ c.loop-closed.invariant.table.small

pub bind_with-requires-clause-is : goal.bind_with-requires-clause-is
bind_with-requires-clause-is g c =
    let t = g.N.Nodes.table c.loop-closed.nodes in
    let around = g.N.Nodes.around_in c.loop-closed.nodes in
    let means = g.St.Store.meaning in
    let whole = (g.N.Nodes.table c.args.nodes.now).tree c.args.id in
    let inv = c.loop-closed.invariant in
    let may : MayForce t.program whole = subst (λ q. MayForce q whole) (sym inv.grows.program) (g.met.N.Nodes.fits c.args.nodes.now c.args.id c.requires.belongs, c.requires.room) in
    let run = subst (StandsClosed t around means whole c.loop-closed.around) c.in-Run.is (c.in_ok-closed.ensures whole may.0 inv.within) in
    (bound-inside t around means whole c.loop-closed.around c.in-Run.goal c.in-Run.env c.in-Run.stream c.in-Run.outer c.args.program.now inv.table may run).is

pub bind_with-requires-clause-room : goal.bind_with-requires-clause-room
bind_with-requires-clause-room g c =
    let t = g.N.Nodes.table c.loop-closed.nodes in
    let around = g.N.Nodes.around_in c.loop-closed.nodes in
    let means = g.St.Store.meaning in
    let whole = (g.N.Nodes.table c.args.nodes.now).tree c.args.id in
    let inv = c.loop-closed.invariant in
    let may : MayForce t.program whole = subst (λ q. MayForce q whole) (sym inv.grows.program) (g.met.N.Nodes.fits c.args.nodes.now c.args.id c.requires.belongs, c.requires.room) in
    let run = subst (StandsClosed t around means whole c.loop-closed.around) c.in-Run.is (c.in_ok-closed.ensures whole may.0 inv.within) in
    (bound-inside t around means whole c.loop-closed.around c.in-Run.goal c.in-Run.env c.in-Run.stream c.in-Run.outer c.args.program.now inv.table may run).room

pub bind_with-requires-clause-below : goal.bind_with-requires-clause-below
bind_with-requires-clause-below g c =
    let t = g.N.Nodes.table c.loop-closed.nodes in
    let around = g.N.Nodes.around_in c.loop-closed.nodes in
    let means = g.St.Store.meaning in
    let whole = (g.N.Nodes.table c.args.nodes.now).tree c.args.id in
    let inv = c.loop-closed.invariant in
    let may : MayForce t.program whole = subst (λ q. MayForce q whole) (sym inv.grows.program) (g.met.N.Nodes.fits c.args.nodes.now c.args.id c.requires.belongs, c.requires.room) in
    let run = subst (StandsClosed t around means whole c.loop-closed.around) c.in-Run.is (c.in_ok-closed.ensures whole may.0 inv.within) in
    (bound-inside t around means whole c.loop-closed.around c.in-Run.goal c.in-Run.env c.in-Run.stream c.in-Run.outer c.args.program.now inv.table may run).below

pub loop-closed-preserved : goal.loop-closed-preserved
loop-closed-preserved g c =
    let t = g.N.Nodes.table c.loop-closed.nodes in
    let around = g.N.Nodes.around_in c.loop-closed.nodes in
    let means = g.St.Store.meaning in
    let whole = (g.N.Nodes.table c.args.nodes.now).tree c.args.id in
    let inv = c.loop-closed.invariant in
    let may : MayForce t.program whole = subst (λ q. MayForce q whole) (sym inv.grows.program) (g.met.N.Nodes.fits c.args.nodes.now c.args.id c.requires.belongs, c.requires.room) in
    let run = subst (StandsClosed t around means whole c.loop-closed.around) c.in-Run.is (c.in_ok-closed.ensures whole may.0 inv.within) in
    let u = g.N.Nodes.table c.bind_with.new.nodes in
    let made = c.in_ok-inside-in-Run.ensures in
    let more = adds_grow t u made.adds in
    record {
      table = table_stays _ c.args.program.now t u made.adds inv.table;
      grows = grow_twice (g.N.Nodes.table c.args.nodes.now) t u inv.grows more;
      within = bound-force t around means whole c.loop-closed.around c.in-Run.goal c.in-Run.env c.in-Run.stream c.in-Run.outer c.args.program.now u (g.N.Nodes.around_in c.bind_with.new.nodes) c.in_ok-inside-in-Run.inside
          inv.table made.adds (g.met.N.Nodes.around_stays c.loop-closed.nodes c.bind_with.new.nodes more c.in-Run.outer) run made.belong made.made;
    }

pub loop-closed-smaller : goal.loop-closed-smaller
loop-closed-smaller g c =
    let t = g.N.Nodes.table c.loop-closed.nodes in
    let around = g.N.Nodes.around_in c.loop-closed.nodes in
    let means = g.St.Store.meaning in
    let whole = (g.N.Nodes.table c.args.nodes.now).tree c.args.id in
    let inv = c.loop-closed.invariant in
    let may : MayForce t.program whole = subst (λ q. MayForce q whole) (sym inv.grows.program) (g.met.N.Nodes.fits c.args.nodes.now c.args.id c.requires.belongs, c.requires.room) in
    let run = subst (StandsClosed t around means whole c.loop-closed.around) c.in-Run.is (c.in_ok-closed.ensures whole may.0 inv.within) in
    let u = g.N.Nodes.table c.bind_with.new.nodes in
    let same : length (g.N.Nodes.around_in c.bind_with.new.nodes c.in-Run.outer) ≡ length (around c.in-Run.outer) =
    ap length (g.met.N.Nodes.around_stays c.loop-closed.nodes c.bind_with.new.nodes (adds_grow t u c.in_ok-inside-in-Run.ensures.adds) c.in-Run.outer) in
    let low = run.fewer in omega (arith, same, low)

pub returns-in-Made-clause-force : goal.returns-in-Made-clause-force
returns-in-Made-clause-force g c =
    let t = g.N.Nodes.table c.loop-closed.nodes in
    let around = g.N.Nodes.around_in c.loop-closed.nodes in
    let means = g.St.Store.meaning in
    let whole = (g.N.Nodes.table c.args.nodes.now).tree c.args.id in
    let inv = c.loop-closed.invariant in
    let may : MayForce t.program whole = subst (λ q. MayForce q whole) (sym inv.grows.program) (g.met.N.Nodes.fits c.args.nodes.now c.args.id c.requires.belongs, c.requires.room) in
    subst (StandsClosed t around means whole c.loop-closed.around) c.in-Made.is (c.in_ok-closed.ensures whole may.0 inv.within)

pub returns-in-Made-clause-fits : goal.returns-in-Made-clause-fits
returns-in-Made-clause-fits g c =
    let t = g.N.Nodes.table c.loop-closed.nodes in
    let around = g.N.Nodes.around_in c.loop-closed.nodes in
    let means = g.St.Store.meaning in
    let whole = (g.N.Nodes.table c.args.nodes.now).tree c.args.id in
    let inv = c.loop-closed.invariant in
    let may : MayForce t.program whole = subst (λ q. MayForce q whole) (sym inv.grows.program) (g.met.N.Nodes.fits c.args.nodes.now c.args.id c.requires.belongs, c.requires.room) in
    let p = c.args.program.now in
    let made = subst (StandsClosed t around means whole c.loop-closed.around) c.in-Made.is (c.in_ok-closed.ensures whole may.0 inv.within) in
    fits-moved (programs.meaning p) (programs.meaning p) _ _ _ _ refl (made.1 ∙ ap (λ q. force q whole) inv.table.program)
    (force-fits (programs.meaning p) whole (program-closed p c.requires.table.small) (subst (λ q. Fits q whole) inv.table.program may.0))

pub returns-in-Made-clause-grows : goal.returns-in-Made-clause-grows
returns-in-Made-clause-grows g c = c.loop-closed.invariant.grows
