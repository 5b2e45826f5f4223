use Rattle.std.proofs.Common.{◌≡◌, length, arith, rules, ap, ◌∙◌}
use Rattle.std.specs.Vec.{vec_len}
use Rattle.std.specs.Prelude.{is_some}
use Rattle.kan_model.specs.Programs.Closed as programs
use Rattle.stream_core.proofs.TableKinds.PlainRowLaws.{placed-within, kept-is-force, told-row}
use Rattle.stream_core.proofs.plain_nodes.PlainNodesNodes.found.Goals as goal

pub index-requires : goal.index-requires
index-requires g c =
    let low = placed-within c.args.self.now.rows.items c.args.id.now (c.requires 0).0 in
    let long : vec_len c.args.self.now.rows ≡ length c.args.self.now.rows.items = search rules in omega (arith, low, long)

pub returns-in_ok-copy-in-Some-clause-force : goal.returns-in_ok-copy-in-Some-clause-force
returns-in_ok-copy-in-Some-clause-force g c =
    kept-is-force g.St.Store.meaning (programs.meaning c.args.self.now.program.now) c.args.self.now.rows.items c.args.id.now c.index.result.now c.in-Some.stream c.in_ok-copy-in-Some.copy c.requires c.index.ensures
    c.in-Some.is c.in_ok-copy-in-Some.ensures.tail c.in_ok-copy-in-Some.ensures.heads

pub returns-in_ok-copy-in-Some-clause-told : goal.returns-in_ok-copy-in-Some-clause-told
returns-in_ok-copy-in-Some-clause-told g c =
    (told-row c.args.self.now.rows.items c.args.id.now.at c.index.result.now (placed-within c.args.self.now.rows.items c.args.id.now (c.requires 0).0) c.index.ensures ∙ ap is_some c.in-Some.is)

pub returns-in-None-clause-told : goal.returns-in-None-clause-told
returns-in-None-clause-told g c =
    (told-row c.args.self.now.rows.items c.args.id.now.at c.index.result.now (placed-within c.args.self.now.rows.items c.args.id.now (c.requires 0).0) c.index.ensures ∙ ap is_some c.in-None.is)
