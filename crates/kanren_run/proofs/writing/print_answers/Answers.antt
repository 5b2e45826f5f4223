use Rattle.std.proofs.Common.{sym, subst}
use Rattle.kan_model.specs.Answers.Answer.{HasNames}
use Rattle.kanren_run.proofs.WritingLaws.{each-at, text_more}
use Rattle.kanren_run.proofs.writing.print_answers.Goals as goal

pub print_answer-requires : goal.print_answer-requires
print_answer-requires g c =
    subst (λ x. HasNames c.args.names.now (g.St.Store.meaning x)) (sym c.store-item.is)
    (each-at (HasNames c.args.names.now) g.St.Store.meaning c.args.answers.now c.loop-store.store-index c.store-item.result c.loop-store-test.true c.requires)

pub loop-store-preserved : goal.loop-store-preserved
loop-store-preserved g c =
    text_more c.args.names.now g.St.Store.meaning c.args.answers.now c.loop-store.store-index c.store-item.result _ _ _ c.loop-store-test.true c.store-item.is c.loop-store.invariant c.in_ok-print_answer.ensures
