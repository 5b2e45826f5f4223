use Rattle.std.proofs.lemmas.Result.{IfOk-weaker}
use Rattle.kan_terms.specs.Terms.{tree}
use Rattle.type_absence.specs.Meaning.{types}
use Rattle.kan_store.specs.Meaning.{parts_of}
use Rattle.kan_store.proofs.SolvedLaws.{typing_puts}
use Rattle.kan_store.proofs.solved.add_type.Goals as goal

pub returns : goal.returns
returns g c = IfOk-weaker c.put_on.result _ _
    (λ fits gives. typing_puts (parts_of g.B.Bindings.pairs c.args.solved.now) c.args.kind (tree c.args.term.now) (types c.put_on.new.self) fits gives) c.put_on.ensures
