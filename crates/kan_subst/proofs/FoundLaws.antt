-- Bindings that are looked through from an index on.
use Rattle.std.proofs.Common.{◌≡◌, ℕ, ◌+◌, ◌<◌, List, map, drop, ◌∙◌, ◌≢◌, Option}
use Rattle.std.specs.Prelude.{if◌then◌else◌}
use Rattle.kan_terms.specs.Tree.{Tm}
use Rattle.kan_terms.specs.Bound.{bound_to}
use Rattle.kan_subst.specs.Meaning.{pair}
use Rattle.kan_subst.specs.declared.list_bindings.Binding.{Binding}

-- the term of a variable in the bindings from an index on
abbrev pub bound_from : ℕ → List Binding → ℕ → Option Tm
bound_from i bs x = bound_to x (map pair (drop i bs))
