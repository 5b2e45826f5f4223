use Rattle.std.proofs.lemmas.Result.{IfOk-weaker}
use Rattle.kan_terms.specs.Terms.{tree}
use Rattle.type_absence.specs.Meaning.{tags}
use Rattle.kan_store.specs.Meaning.{parts_of}
use Rattle.kan_store.proofs.SolvedLaws.{keeping_puts}
use Rattle.kan_store.proofs.solved.add_absence.Goals as goal

pub returns : goal.returns
returns g c = IfOk-weaker c.put_on_all.result _ _
    (λ fits gives. keeping_puts (parts_of g.B.Bindings.pairs c.args.solved.now) c.args.tag (tree c.args.term.now) (tags c.put_on_all.new.self) fits gives) c.put_on_all.ensures
