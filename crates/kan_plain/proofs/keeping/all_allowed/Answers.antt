use Rattle.std.proofs.Common.{sym, ◌∙◌, map}
use Rattle.kan_model.specs.Stores.Kept.{allows}
use Rattle.kan_model.specs.Stores.Prims.{prim as primitive}
use Rattle.kan_solving.specs.Solving.{replaced_by}
use Rattle.kan_plain.proofs.EachLaws.{one_fails, all_more, all_pass}
use Rattle.kan_plain.proofs.keeping.all_allowed.Goals as goal

pub returns-then-not-allowed : goal.returns-then-not-allowed
returns-then-not-allowed c =
    one_fails primitive (allows (map replaced_by c.args.answer.now)) _ _ c.prim-item.result c.loop-prim-test.true c.prim-item.is
    (sym c.in_ok-allowed.ensures ∙ c.if-not-allowed.true)

pub loop-prim-preserved : goal.loop-prim-preserved
loop-prim-preserved c =
    all_more primitive (allows (map replaced_by c.args.answer.now)) _ _ c.prim-item.result c.loop-prim-test.true c.prim-item.is
    c.loop-prim.invariant (sym c.in_ok-allowed.ensures ∙ c.if-not-allowed.false)

pub returns : goal.returns
returns c = all_pass primitive (allows (map replaced_by c.args.answer.now)) _ _ c.loop-prim-test.false c.loop-prim.invariant
