use Rattle.std.proofs.Common.{ap, sym, ◌∙◌, arith}
use Rattle.std.proofs.lemmas.List.{nil_from_length}
use Rattle.unify_core.specs.LentBindings.{with_top, with_next, waiting_equations}
use Rattle.unify_core.proofs.Steps.UnifySteps.{popped}
use Rattle.unify_core.proofs.unifying.take_ahead.Goals as goal

pub returns-in-None : goal.returns-in-None
returns-in-None c =
    ap (λ t. with_next c.pop.result (with_top t (waiting_equations c.pop.new.self.items))) c.in-None.is
    ∙ popped c.args.ahead.now.below.items c.pop.new.self.items c.pop.result c.pop.ensures.items (λ none. nil_from_length _ (omega (arith, c.args.ahead.now.below.ok.0, (rw none at c.pop.ensures.cases).0)))
    ∙ ap (λ t. with_top t (waiting_equations c.args.ahead.now.below.items)) (sym c.in-None.is)
