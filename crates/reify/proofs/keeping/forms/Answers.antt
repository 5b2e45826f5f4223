use Rattle.std.proofs.Common.{ap, ◌∙◌, map}
use Rattle.kan_model.specs.Stores.Prims.{equation}
use Rattle.reify.specs.Keeping.{forms_meant}
use Rattle.reify.proofs.KeepLaws.{forms_are}
use Rattle.reify.proofs.keeping.forms.Goals as goal

pub returns : goal.returns
returns g c =
    c.in_ok-forms.ensures ∙ ap (λ ls. forms_meant c.args.naming.now (g.St.Store.meaning c.args.store.now) (map (map equation) ls)) c.items.ensures
    ∙ forms_are c.args.naming.now (g.St.Store.meaning c.args.store.now) (g.met.St.Store.kept c.args.store.now) (map (map equation) c.in_ok-lists.lists) c.in_ok-lists.ensures
