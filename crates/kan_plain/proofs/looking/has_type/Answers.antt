use Rattle.std.proofs.Common.{sym, ◌∙◌, map}
use Rattle.kan_model.specs.Stores.Kept.{gives_type}
use Rattle.kan_model.specs.Stores.Prims.{prim as primitive}
use Rattle.kan_solving.specs.Solving.{replaced_by}
use Rattle.kan_plain.proofs.EachLaws.{one_found, none_more, none_pass}
use Rattle.kan_plain.proofs.looking.has_type.Goals as goal

pub returns-then-gives_type : goal.returns-then-gives_type
returns-then-gives_type c =
    one_found primitive (gives_type c.args.kind (map replaced_by c.args.answer.now) c.args.var) _ _ c.prim-item.result c.loop-prim-test.true c.prim-item.is
    (sym c.gives_type.ensures ∙ c.if-gives_type.true)

pub loop-prim-preserved : goal.loop-prim-preserved
loop-prim-preserved c =
    none_more primitive (gives_type c.args.kind (map replaced_by c.args.answer.now) c.args.var) _ _ c.prim-item.result c.loop-prim-test.true c.prim-item.is
    c.loop-prim.invariant (sym c.gives_type.ensures ∙ c.if-gives_type.false)

pub returns : goal.returns
returns c = none_pass primitive (gives_type c.args.kind (map replaced_by c.args.answer.now) c.args.var) _ _ c.loop-prim-test.false c.loop-prim.invariant
