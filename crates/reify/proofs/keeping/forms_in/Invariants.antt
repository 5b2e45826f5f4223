use Rattle.std.proofs.Common.{◌≡◌, take, map}
use Rattle.kan_model.specs.Stores.Prims.{equation}
use Rattle.reify.specs.Keeping.{form_of, forms_meant}
use Rattle.reify.proofs.keeping.forms_in.Given as goal

abbrev pub invariant-loop-pairs : goal.invariant-loop-pairs
invariant-loop-pairs g l = map form_of l.forms.items ≡ forms_meant l.naming (g.St.Store.meaning l.store) (map (map equation) (take l.pairs-index l.lists))
