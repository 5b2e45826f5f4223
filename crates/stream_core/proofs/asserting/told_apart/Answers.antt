use Rattle.kan_terms.specs.Terms.{tree}
use Rattle.kan_model.specs.Programs.Environments.{terms_of}
use Rattle.kan_model.specs.Programs.Closed as programs
use Rattle.stream_core.proofs.ArgumentLaws.{sides-are-below, instance-below}
use Rattle.stream_core.proofs.asserting.told_apart.Goals as goal

pub with_prim-requires : goal.with_prim-requires
with_prim-requires g c =
    let st = g.St.Store.meaning c.args.store in
    let env = terms_of c.args.env.now in
    sides-are-below st.counter _ _ (tree c.in_ok-left.left) (tree c.in_ok-right.right) c.in_ok-left.ensures c.in_ok-right.ensures
    (instance-below st.counter env (programs.template c.args.program.now c.args.left) c.requires) (instance-below st.counter env (programs.template c.args.program.now c.args.right) c.requires)
