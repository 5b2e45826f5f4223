-- What an environment of the code stands for: the terms of its slots.
use Rattle.std.specs.Prelude.{List, map}
use Rattle.kan_terms.specs.Tree.{Tm}
use Rattle.kan_terms.specs.Terms.{tree}
use Rattle.kan_model.specs.Programs.Values.{values_of}
use Rattle.kan_model.specs.declared.environment.Env.{Env}

abbrev pub terms_of : Env → List Tm
terms_of env = map tree (values_of env.values)
