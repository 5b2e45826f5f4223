use Rattle.std.proofs.Common.{◌≡◌, map, Some, None, option_map, [], ◌∷◌, subst, rules}
use Rattle.std.specs.Option.{IfSome}
use Rattle.std.proofs.lemmas.Result.{IfOk-weaker}
use Rattle.kan_terms.specs.Terms.{sides, tree}
use Rattle.type_absence.specs.Types.{made_if}
use Rattle.unify_core.specs.Cycles.{HasNoCycle}
use Rattle.unify_core.specs.Solutions.{AddedTo, equation}
use Rattle.unify_core.specs.Unifying.{Unifying}
use Rattle.kan_store.specs.Meaning.{parts_of}
use Rattle.kan_store.specs.Parts.{Equated}
use Rattle.kan_store.proofs.SolvedLaws.{carried_equates}
use Rattle.kan_store.proofs.solved.equate.Goals as goal

pub returns-in-None : goal.returns-in-None
returns-in-None g c =
    let same : c.replace-bindings.result ≡ c.args.solved.now.bindings = search rules in
    Equated.no_unifier (subst (λ b. Unifying (g.B.Bindings.pairs b) (equation (tree c.args.left.now) (tree c.args.right.now) ∷ []) None) same
    (subst (λ o. Unifying (g.B.Bindings.pairs c.replace-bindings.result) (equation (tree c.args.left.now) (tree c.args.right.now) ∷ []) (option_map (λ made. map sides made.added) o)) c.in-None.is c.in_ok-unify_owned.ensures.in_order))

pub carry-requires-clause-older : goal.carry-requires-clause-older
carry-requires-clause-older g c =
    let same : c.replace-bindings.result ≡ c.args.solved.now.bindings = search rules in (
      g.B.Bindings.pairs c.args.solved.now.bindings,
      subst (λ b. AddedTo (g.B.Bindings.pairs b) (map sides c.in-Some.unified.added) (g.B.Bindings.pairs c.in-Some.unified.bindings)) same
          (subst (λ o. IfSome o (λ made. AddedTo (g.B.Bindings.pairs c.replace-bindings.result) (map sides made.added) (g.B.Bindings.pairs made.bindings))) c.in-Some.is c.in_ok-unify_owned.ensures.added),
      c.requires.watched,
    )

pub returns-in-Some : goal.returns-in-Some
returns-in-Some g c =
    let same : c.replace-bindings.result ≡ c.args.solved.now.bindings = search rules in
    IfOk-weaker c.carry.result _ _
    (λ fits carried. carried_equates (parts_of g.B.Bindings.pairs c.args.solved.now) (tree c.args.left.now) (tree c.args.right.now) (map sides c.in-Some.unified.added) (g.B.Bindings.pairs c.in-Some.unified.bindings)
    (subst (λ b. Unifying (g.B.Bindings.pairs b) (equation (tree c.args.left.now) (tree c.args.right.now) ∷ []) (Some (map sides c.in-Some.unified.added))) same
    (subst (λ o. Unifying (g.B.Bindings.pairs c.replace-bindings.result) (equation (tree c.args.left.now) (tree c.args.right.now) ∷ []) (option_map (λ made. map sides made.added) o)) c.in-Some.is c.in_ok-unify_owned.ensures.in_order))
    (subst (λ b. AddedTo (g.B.Bindings.pairs b) (map sides c.in-Some.unified.added) (g.B.Bindings.pairs c.in-Some.unified.bindings)) same
    (subst (λ o. IfSome o (λ made. AddedTo (g.B.Bindings.pairs c.replace-bindings.result) (map sides made.added) (g.B.Bindings.pairs made.bindings))) c.in-Some.is c.in_ok-unify_owned.ensures.added))
    (subst (λ o. IfSome o (λ made. HasNoCycle (g.B.Bindings.pairs made.bindings))) c.in-Some.is c.in_ok-unify_owned.ensures.no_cycle)
    (made_if fits (parts_of g.B.Bindings.pairs c.carry.new.solved)) carried) c.carry.ensures
