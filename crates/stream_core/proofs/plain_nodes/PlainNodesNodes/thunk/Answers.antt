use Rattle.std.proofs.Common.{◌≡◌, length, arith, rules}
use Rattle.std.specs.Vec.{vec_len}
use Rattle.kan_model.specs.Programs.Closed as programs
use Rattle.stream_core.proofs.TableKinds.PlainRowLaws.{placed-within, inner-row, row-belongs, row-stands}
use Rattle.stream_core.proofs.plain_nodes.PlainNodesNodes.thunk.Goals as goal

pub index-requires : goal.index-requires
index-requires g c =
    let low = placed-within c.args.self.now.rows.items c.args.id.now (c.requires 0).0 in
    let long : vec_len c.args.self.now.rows ≡ length c.args.self.now.rows.items = search rules in omega (arith, low, long)

pub returns-clause-belong : goal.returns-clause-belong
returns-clause-belong g c =
    row-belongs g.St.Store.meaning (programs.meaning c.args.self.now.program.now) c.args.self.now.rows.items c.args.id.now c.index.result.now c.requires c.index.ensures

pub returns-clause-stands : goal.returns-clause-stands
returns-clause-stands g c =
    row-stands g.St.Store.meaning (programs.meaning c.args.self.now.program.now) c.args.self.now.rows.items c.args.id.now c.index.result.now c.args.self.now.grown (c.requires 0).0 c.index.ensures

pub returns-clause-inner : goal.returns-clause-inner
returns-clause-inner g c =
    inner-row c.args.self.now.rows.items c.args.id.now.at c.index.result.now (placed-within c.args.self.now.rows.items c.args.id.now (c.requires 0).0) c.index.ensures
