-- Binders and tags, with the faults of their shape.
use Rattle.std.specs.Prelude.{ℕ, Bool, not, ◌&&◌, ◌==◌, List, [], ◌∷◌, ◌++◌, Option, Some, None}
use Rattle.std.specs.Prelude.{if◌then◌else◌}
use Rattle.std.specs.List.{list_any}
use Rattle.kan_refusals.specs.declared.refusals.Refusal.{Refusal}
use Rattle.kan_terms.specs.Table.{Table}
use Rattle.kan_grammar.specs.Data.Faults.{Fault, fault}
use Rattle.kan_grammar.specs.Texts.Sited.{Sited, site, is_proper}
use Rattle.kan_grammar.specs.Texts.Language.{Word, word, head_word, is_other}

-- a part of a form, and the faults of its shape
pub record Checked (A : Type 0) : Type 0 where
  pub value : A
  pub faults : List Fault

-- a symbol stands among some
abbrev pub is_among : List ℕ → ℕ → Bool
is_among rs s = list_any (λ r. s == r) rs

-- a symbol may be a name of a binder that has these names already
abbrev pub may_bind : Table → List ℕ → ℕ → Bool
may_bind t before s = is_other (word t s) && not (is_among before s)

-- a part of a binder, which is a symbol and may be a name of it
abbrev pub binder_faults : Table → List ℕ → Sited → List Fault
binder_faults t before (Sited.name at s) =
    if may_bind t before s then [] else fault at Refusal.BadShape ∷ []
binder_faults t before d = fault (site d) Refusal.BadShape ∷ []

-- the symbol of a part of a binder
abbrev pub names_of : Sited → List ℕ
names_of (Sited.name at s) = s ∷ []
names_of d = []

-- the names in a list
abbrev pub bound_names : Sited → List ℕ
bound_names (Sited.pair at a d) = names_of a ++ bound_names d
bound_names d = []

-- the faults of the names in a list, after some names
abbrev pub names_faults : Table → List ℕ → Sited → List Fault
names_faults t before (Sited.pair at a d) =
    binder_faults t before a ++ names_faults t (before ++ names_of a) d
names_faults t before d = []

-- the names of a binder, which is a proper list of them
abbrev pub binder : Table → Sited → Checked (List ℕ)
binder t d =
    if is_proper d then record { value = bound_names d; faults = names_faults t [] d }
    else record { value = []; faults = fault (site d) Refusal.BadShape ∷ [] }

-- the tag of an absento is a quoted symbol
abbrev pub quoted_symbol : Table → Sited → Option ℕ
quoted_symbol t (Sited.pair _ q (Sited.pair _ (Sited.name _ s) (Sited.nil _))) =
    elim (head_word t q) [ Word.quote ↦ Some s | _ ↦ None ]
quoted_symbol t d = None

-- the tag, where it is one
abbrev pub tag_or : Option ℕ → ℕ → Checked ℕ
tag_or (Some s) at = record { value = s; faults = [] }
tag_or None at = record { value = 0; faults = fault at Refusal.BadTag ∷ [] }

abbrev pub tag : Table → Sited → Checked ℕ
tag t d = tag_or (quoted_symbol t d) (site d)
