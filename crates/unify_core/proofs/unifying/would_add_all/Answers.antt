use Rattle.std.proofs.Common.{IfOk, map, option_map, subst, ◌∙◌, arith}
use Rattle.std.proofs.lemmas.List.{nil_from_length}
use Rattle.kan_terms.specs.Terms.{sides}
use Rattle.unify_core.specs.Unifying.{Unifying}
use Rattle.unify_core.proofs.Steps.UnifySteps.{popped}
use Rattle.unify_core.proofs.unifying.would_add_all.Goals as goal

pub returns : goal.returns
returns g c =
    subst (λ es. IfOk c.added_in_order.result (λ found. Unifying (g.B.Bindings.pairs c.args.bindings.now) es (option_map (λ made. map sides made) found)))
    (popped c.in_ok-waiting.waiting.items c.pop-first.new.self.items c.pop-first.result c.pop-first.ensures.items (λ none. nil_from_length _ (omega (arith, c.in_ok-waiting.waiting.ok.0, (rw none at c.pop-first.ensures.cases).0))) ∙ c.in_ok-waiting.ensures)
    c.added_in_order.ensures
