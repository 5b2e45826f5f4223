use Rattle.std.proofs.Common.{subst}
use Rattle.stream_core.specs.CodeSurroundings.{MayForceInnermost}
use Rattle.stream_core.proofs.forcing_once.force_innermost.Goals as goal

pub expand-requires-clause-may : goal.expand-requires-clause-may
expand-requires-clause-may g c = (subst (MayForceInnermost (g.N.Nodes.table c.args.nodes.now) g.St.Store.meaning) c.in-Last.is c.requires.may).0
