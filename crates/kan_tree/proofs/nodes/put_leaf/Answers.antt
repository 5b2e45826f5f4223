use Rattle.std.proofs.Common.{ap, eqb, refl}
use Rattle.std.specs.Option.{option_map}
use Rattle.std.proofs.lemmas.Result.{on_ok_weaker}
use Rattle.kan_tree.proofs.SlotLaws.{after_with}
use Rattle.kan_tree.proofs.LookLaws.{leaf_put, leaf_same, on_err_map}
use Rattle.kan_tree.proofs.nodes.put_leaf.Goals as goal

pub returns-clause-ok : goal.returns-clause-ok
returns-clause-ok g c = on_ok_weaker c.put.result (λ h. leaf_put g.T.Again.meaning c.args.slots.now c.put.new.self 0 c.args.key c.digit.result (g.T.Again.meaning c.args.value) refl c.digit.ensures.result (λ e. after_with g.T.Again.meaning (eqb e c.digit.result) c.args.value _ _ _ (h e) refl)) c.put.ensures.ok

pub returns-clause-err : goal.returns-clause-err
returns-clause-err g c = on_err_map c.put.result (λ h. leaf_same g.T.Again.meaning c.args.slots.now c.put.new.self (λ e. ap (option_map g.T.Again.meaning) (h e)) 0) c.put.ensures.err
