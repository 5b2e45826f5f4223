-- What stored bindings stand for.
use Rattle.std.specs.Prelude.{ℕ, List, map}
use Rattle.kan_terms.specs.Tree.{Tm}
use Rattle.kan_terms.specs.Terms.{tree}
use Rattle.kan_subst.specs.declared.list_bindings.Binding.{Binding}
use Rattle.kan_subst.specs.declared.list_bindings.ListBindings.{ListBindings}

-- a binding is the pair of its variable and its term
abbrev pub pair : Binding → ℕ × Tm
pair binding = (binding.var, tree binding.term)

-- the pairs of all bindings, the newest first
abbrev pub pairs_in : ListBindings → List (ℕ × Tm)
pairs_in bindings = map pair bindings.stored.items
