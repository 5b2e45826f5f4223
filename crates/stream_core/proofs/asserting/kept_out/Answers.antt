use Rattle.std.proofs.Common.{◌∙◌, ap}
use Rattle.kan_model.specs.Programs.Scope.{all_below}
use Rattle.kan_model.specs.Programs.Environments.{terms_of}
use Rattle.kan_model.specs.Programs.Closed as programs
use Rattle.stream_core.proofs.ArgumentLaws.{instance-below}
use Rattle.stream_core.proofs.asserting.kept_out.Goals as goal

pub with_prim-requires : goal.with_prim-requires
with_prim-requires g c =
    let st = g.St.Store.meaning c.args.store in
    ap (all_below st.counter) c.in_ok-term.ensures ∙ instance-below st.counter (terms_of c.args.env.now) (programs.template c.args.program.now c.args.term) c.requires
