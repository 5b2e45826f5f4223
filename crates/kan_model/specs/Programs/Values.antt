-- The terms of an environment of the code, its own or shared.
use Rattle.std.specs.Prelude.{List}
use Rattle.std.specs.Arc.{arc_value}
use Rattle.kan_terms.specs.declared.terms.Term.{Term}
use Rattle.kan_model.specs.declared.values.Values.{Values}
use Rattle.kan_model.specs.declared.values.Values.TheVariants.{Own, Shared}

abbrev pub values_of : Values → List Term
values_of (Own values) = values.items
values_of (Shared all) = (arc_value all).items
