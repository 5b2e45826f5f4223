use Rattle.std.proofs.Common.{ap, map, refl}
use Rattle.std.specs.Prelude.{option_map}
use Rattle.stream_core.specs.Suspensions as standing
use Rattle.stream_core.proofs.FitLaws.{append-fits, fits-moved}
use Rattle.stream_core.proofs.StreamLaws.{append-going}
use Rattle.stream_core.proofs.appending.append.Goals as goal

pub returns-in_ok-tail-in-Some-clause-fits : goal.returns-in_ok-tail-in-Some-clause-fits
returns-in_ok-tail-in-Some-clause-fits g c low high first second =
    let means = g.St.Store.meaning in
    let tree = (g.N.Nodes.table c.args.nodes.now).tree in
    let program = (g.N.Nodes.table c.args.nodes.now).program in
    let left = standing.stream tree means c.args.left in
    let right = standing.stream tree means c.args.right in
    let suspended = c.in_ok-tail-in-Some.ensures in
    let made = append-going (map means c.args.left.heads) (option_map tree c.args.left.tail) (tree c.in-Some.inner) ((g.N.Nodes.table c.suspend.new.self).tree c.in_ok-tail-in-Some.tail) right (ap (option_map tree) c.in-Some.is) suspended.stands.1 in
    fits-moved program program low high _ _ refl made (append-fits program low high left right first second)
