-- What the code's store stands for.
use Rattle.std.specs.Prelude.{List, map}
use Rattle.std.specs.Borrow.{Bor}
use Rattle.kan_model.specs.Stores.Prims.{equation}
use Rattle.kan_model.specs.Stores.Store.{Store, Equation}
use Rattle.kan_terms.specs.declared.terms.TermPair.{TermPair}
use Rattle.unify_core.specs.Walking.{Pairs}
use Rattle.type_absence.specs.Meaning.{types, tags}
use Rattle.diseq.specs.Meaning.{disequalities_in}
use Rattle.kan_store.specs.Parts.{Parts}
use Rattle.kan_store.specs.declared.solved.Solved.{Solved}
use Rattle.kan_store.specs.declared.store.Held.{Held}

abbrev pub parts_of : {B : Type 0} → (B → Pairs) → Solved B → Parts
parts_of pairs solved =
    record {
      bound = pairs solved.bindings;
      types = types solved.kinds;
      tags = tags solved.absences;
      lists = disequalities_in solved.diseqs;
    }

-- the primitives that were asserted, and the counter
abbrev pub store_of : {B : Type 0} → Held B → Store
store_of held = record { prims = held.history.prims; counter = held.counter }

-- pairs that are lent, as equations
abbrev pub lent_pairs : List (Bor (List TermPair)) → List (List Equation)
lent_pairs lent = map (λ pairs. map equation pairs.now) lent
