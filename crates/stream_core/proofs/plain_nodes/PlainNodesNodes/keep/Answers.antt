use Rattle.std.proofs.Common.{◌≡◌, length, arith, rules, refl, ap}
use Rattle.std.specs.Prelude.{Some}
use Rattle.std.specs.Vec.{vec_len}
use Rattle.std.proofs.lemmas.List.{length-set}
use Rattle.kan_model.specs.Programs.Closed as programs
use Rattle.stream_core.proofs.TableKinds.PlainRowLaws.{placed-within, rows-kept, kept-more, kept-force}
use Rattle.stream_core.proofs.plain_nodes.PlainNodesNodes.keep.Goals as goal

pub index_mut-requires : goal.index_mut-requires
index_mut-requires g c =
    let low = placed-within c.args.self.now.rows.items c.args.id.now (c.requires.belongs 0).0 in
    let long : vec_len c.args.self.now.rows ≡ length c.args.self.now.rows.items = search rules in omega (arith, low, long)

pub invariant_of-self : goal.invariant_of-self
invariant_of-self g c = record { grown = rows-kept c.args.self.now.rows.items c.args.id.now.at c.index_mut.result.now _ c.index_mut.ensures.value refl c.args.self.now.grown }

pub returns-clause-kept : goal.returns-clause-kept
returns-clause-kept g c =
    kept-more g.St.Store.meaning (programs.meaning c.args.self.now.program.now) c.args.self.now.rows.items c.args.id.now c.index_mut.result.now _ c.args.stream c.in_ok-copy.copy c.requires.belongs c.index_mut.ensures.value refl refl
    c.in_ok-copy.ensures.tail c.in_ok-copy.ensures.heads c.requires.force

pub returns-clause-force : goal.returns-clause-force
returns-clause-force g c =
    kept-force g.St.Store.meaning (programs.meaning c.args.self.now.program.now) c.args.self.now.rows.items c.args.id.now c.index_mut.result.now _ c.args.stream c.in_ok-copy.copy c.requires.belongs c.index_mut.ensures.value refl refl
    c.in_ok-copy.ensures.tail c.in_ok-copy.ensures.heads c.requires.force

pub returns-clause-size : goal.returns-clause-size
returns-clause-size g c = ap Some (length-set _ _ _)
