use Rattle.std.proofs.Common.{ap₂, ◌∙◌, not}
use Rattle.std.specs.List.{list_all, list_any}
use Rattle.kan_solving.specs.Solving.{replaced_by}
use Rattle.reify.specs.Fitting.{is_symbol_letter}
use Rattle.reify.proofs.FittingLaws.{tags_fit_is}
use Rattle.reify.proofs.fitting.tags_fit.Goals as goal

pub returns : goal.returns
returns g c =
    tags_fit_is (g.St.Store.meaning c.args.store.now) (replaced_by c.args.at.now) c.in_ok-tags.tags c.in_ok-letters.letters.items c.none_stands-fit.result c.in_ok-tags.ensures c.in_ok-letters.ensures
    (c.none_stands-fit.ensures ∙ ap₂ (λ ls ts. list_all (λ tag. not (list_any (is_symbol_letter tag) ls)) ts) c.deref.ensures.value c.items.ensures)
