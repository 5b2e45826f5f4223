use Rattle.std.proofs.Common.{ap, ◌∙◌, map, ◌++◌, [], ◌∷◌}
use Rattle.kan_model.specs.Stores.Prims.{equation}
use Rattle.reify.specs.Keeping.{form_of, forms_meant}
use Rattle.reify.proofs.KeepLaws.{forms_step}
use Rattle.reify.proofs.keeping.forms_in.Goals as goal

pub loop-pairs-preserved : goal.loop-pairs-preserved
loop-pairs-preserved g c =
    forms_step c.args.naming.now (g.St.Store.meaning c.args.store.now) c.args.lists.now c.loop-pairs.pairs-index c.pairs-item.result (map form_of c.loop-pairs.forms.items) (map form_of c.add_form.new.forms.items)
    c.loop-pairs-test.true c.pairs-item.is c.loop-pairs.invariant
    (c.in_ok-add_form.ensures ∙ ap (λ ps. map form_of c.loop-pairs.forms.items ++ forms_meant c.args.naming.now (g.St.Store.meaning c.args.store.now) (map equation ps ∷ [])) c.items.ensures)
