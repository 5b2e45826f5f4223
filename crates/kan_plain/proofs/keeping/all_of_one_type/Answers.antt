use Rattle.std.proofs.Common.{sym, ◌∙◌, map}
use Rattle.kan_model.specs.Stores.Kept.{gives_one_type}
use Rattle.kan_model.specs.Stores.Prims.{prim as primitive}
use Rattle.kan_solving.specs.Solving.{replaced_by}
use Rattle.kan_plain.proofs.EachLaws.{one_fails, all_more, all_pass}
use Rattle.kan_plain.proofs.keeping.all_of_one_type.Goals as goal

pub returns-then-not-gives_one_type : goal.returns-then-not-gives_one_type
returns-then-not-gives_one_type c =
    one_fails primitive (gives_one_type (map replaced_by c.args.answer.now) (map primitive c.args.prims.now)) _ _ c.prim-item.result c.loop-prim-test.true c.prim-item.is
    (sym c.gives_one_type.ensures ∙ c.if-not-gives_one_type.true)

pub loop-prim-preserved : goal.loop-prim-preserved
loop-prim-preserved c =
    all_more primitive (gives_one_type (map replaced_by c.args.answer.now) (map primitive c.args.prims.now)) _ _ c.prim-item.result c.loop-prim-test.true c.prim-item.is
    c.loop-prim.invariant (sym c.gives_one_type.ensures ∙ c.if-not-gives_one_type.false)

pub returns : goal.returns
returns c = all_pass primitive (gives_one_type (map replaced_by c.args.answer.now) (map primitive c.args.prims.now)) _ _ c.loop-prim-test.false c.loop-prim.invariant
