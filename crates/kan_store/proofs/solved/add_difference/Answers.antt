use Rattle.std.proofs.Common.{◌≡◌, ◌∷◌, [], rules, subst}
use Rattle.std.specs.Option.{IfSome}
use Rattle.kan_terms.specs.Terms.{tree}
use Rattle.unify_core.specs.Solutions.{equation}
use Rattle.diseq.specs.Adding.{Adds}
use Rattle.kan_store.specs.Parts.{Differing}
use Rattle.kan_store.proofs.SolvedLaws.{none_identical, only_true, only_false}
use Rattle.kan_store.proofs.solved.add_difference.Goals as goal

pub returns-in-None : goal.returns-in-None
returns-in-None g c = Differing.identical (only_true _ (c.in_ok-add.ensures.none.0 c.in-None.is))

pub returns-in-Some : goal.returns-in-Some
returns-in-Some g c =
    let same : c.replace-older.result ≡ c.args.solved.now.diseqs = search rules in
    let adds = subst (λ ds. Adds (g.B.Bindings.pairs c.args.solved.now.bindings) (equation (tree c.args.left.now) (tree c.args.right.now) ∷ []) ds c.in-Some.made) same
    (subst (λ o. IfSome o (λ made. Adds (g.B.Bindings.pairs c.args.solved.now.bindings) (equation (tree c.args.left.now) (tree c.args.right.now) ∷ []) c.replace-older.result made)) c.in-Some.is c.in_ok-add.ensures.added) in
    Differing.differs (only_false _ (none_identical c.in_ok-add.field-0 c.in-Some.made _ c.in-Some.is c.in_ok-add.ensures.none)) adds.brought (adds.watched c.requires.watched)
