use Rattle.std.proofs.Common.{◌≡◌, sym, true, subst, map, rules, List}
use Rattle.std.specs.List.{All}
use Rattle.kan_model.specs.Answers.Answer.{all_named}
use Rattle.kan_solving.specs.Solving.{replaced_by}
use Rattle.kan_solving.specs.declared.solving.Replaced.{Replaced}
use Rattle.reify.specs.Fitting.{IsOver}
use Rattle.reify.proofs.KeepLaws.{named_over}
use Rattle.reify.proofs.keeping.written.Goals as goal

pub fits-requires : goal.fits-requires
fits-requires g c =
    let named : all_named c.args.naming.now (map replaced_by c.args.form.items) ≡ true = search rules in
    subst (λ (l : List Replaced). All (IsOver (g.St.Store.meaning c.args.store.now)) l) (sym c.deref-2.ensures.value) (named_over (g.St.Store.meaning c.args.store.now) c.args.naming.now c.args.form.items c.requires named)
