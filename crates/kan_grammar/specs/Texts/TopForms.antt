-- Top forms as they are written, and the relations that they define.
use Rattle.std.specs.Prelude.{ℕ, ◌^◌, pos, false, nat_lt, List, [], ◌∷◌, ◌++◌, Option, Some, None}
use Rattle.std.specs.Prelude.{length, if◌then◌else◌}
use Rattle.std.specs.List.{flat_map}
use Rattle.kan_refusals.specs.declared.refusals.Refusal.{Refusal}
use Rattle.kan_terms.specs.Table.{Table}
use Rattle.kan_grammar.specs.Data.Faults.{Fault, fault}
use Rattle.kan_grammar.specs.Texts.Sited.{Sited, site, elements, is_proper}
use Rattle.kan_grammar.specs.Texts.Language.{Word, word, head_word, is_other}
use Rattle.kan_grammar.specs.Texts.Binders.{Checked, bound_names, binder_faults, names_faults}
use Rattle.kan_grammar.specs.Texts.Binders.{binder}
use Rattle.kan_grammar.specs.Texts.GoalForms.{GoalForms, goal_forms}

-- a symbol and its offset
pub data NameAt : Type 0 where
  name_at : ℕ → ℕ → NameAt

-- a top form as it is written
pub data Form : Type 0 where
  -- its name, where it has one, its arguments, and its goals
  relation : Option NameAt → Checked (List ℕ) → GoalForms → Form
  -- its limit, its one name, and its goals
  run_of_one : Checked (Option ℕ) → Checked (List ℕ) → GoalForms → Form
  -- its limit, its list of names, and its goals
  run_of_list : Checked (Option ℕ) → Checked (List ℕ) → GoalForms → Form
  -- at an offset stands a form of the language with a bad shape
  misshapen : ℕ → Form
  -- at an offset stands no top form
  unknown : ℕ → Form

-- a relation's name as it stands in its head, a proper list that begins with a symbol
abbrev pub head_name : Sited → Option NameAt
head_name (Sited.pair _ (Sited.name at s) params) =
    if is_proper params then Some (name_at at s) else None
head_name d = None

-- the name of a relation is a symbol
abbrev pub name_faults : Sited → List Fault
name_faults (Sited.name at s) = []
name_faults d = fault (site d) Refusal.BadShape ∷ []

-- the arguments of a relation, which are a binder behind its name
abbrev pub head : Table → Sited → Checked (List ℕ)
head t (Sited.pair at a params) =
    if is_proper params then record {
      value = bound_names params;
      faults = name_faults a ++ names_faults t [] params;
    } else record {
      value = [];
      faults = fault at Refusal.BadShape ∷ [];
    }
head t d = record { value = []; faults = fault (site d) Refusal.BadShape ∷ [] }

-- a limit of so many answers, where that is allowed
abbrev pub limit_of : ℕ → ℕ → Checked (Option ℕ)
limit_of at n =
    if nat_lt n (2 ^ 63) then record { value = Some n; faults = [] } else record {
      value = None;
      faults = fault at Refusal.BadShape ∷ [];
    }

-- the limit of a run: a number, or false for none
abbrev pub limit : Sited → Checked (Option ℕ)
limit (Sited.num at (pos n)) = limit_of at n
limit (Sited.bool at false) = record { value = None; faults = [] }
limit d = record { value = None; faults = fault (site d) Refusal.BadShape ∷ [] }

abbrev pub no_limit : Checked (Option ℕ)
no_limit = record { value = None; faults = [] }

-- a form's parts after defrel: the head, and the goals
abbrev pub relation_form : Table → ℕ → Sited → Form
relation_form t at (Sited.pair _ h goals) =
    if is_proper goals then relation (head_name h) (head t h) (goal_forms t goals) else misshapen at
relation_form t at d = misshapen at

-- a run's parts after its limit: one name or a list of names, and the goals
abbrev pub run_form : Table → ℕ → Checked (Option ℕ) → Sited → Form
run_form t at l (Sited.pair _ (Sited.name q s) goals) =
    if is_proper goals
    then run_of_one l (record { value = s ∷ []; faults = binder_faults t [] (Sited.name q s) })
    (goal_forms t goals) else misshapen at
run_form t at l (Sited.pair _ b goals) =
    if is_proper goals then run_of_list l (binder t b) (goal_forms t goals) else misshapen at
run_form t at l d = misshapen at

-- a run's parts after run: the limit, and what follows
abbrev pub limited_form : Table → ℕ → Sited → Form
limited_form t at (Sited.pair _ l parts) = run_form t at (limit l) parts
limited_form t at d = misshapen at

-- a top form is a list that begins with one of three names
abbrev pub form : Table → Sited → Form
form t (Sited.pair at h parts) = elim (head_word t h) [
  | Word.defrel ↦ relation_form t at parts
  | Word.run ↦ limited_form t at parts
  | Word.run_all ↦ run_form t at no_limit parts
  | _ ↦ unknown at
]
form t d = unknown (site d)

-- a relation that is defined, and how many arguments it takes
pub record Defined : Type 0 where
  pub name : ℕ
  pub params : ℕ

-- the relation that a head defines: the head is a proper list which begins with a symbol that is no
-- name of the language
abbrev pub definitions_of_head : Table → Option (List Sited) → List Defined
definitions_of_head t (Some (Sited.name at s ∷ params)) =
    if is_other (word t s) then record { name = s; params = length params } ∷ [] else []
definitions_of_head t parts = []

-- the relation that a top form defines, also where the form has faults or is no proper list
abbrev pub definitions_of : Table → Sited → List Defined
definitions_of t (Sited.pair _ h (Sited.pair _ hd parts)) =
    elim (head_word t h) [ Word.defrel ↦ definitions_of_head t (elements hd) | _ ↦ [] ]
definitions_of t d = []

-- the relations that data define, in their order
abbrev pub definitions : Table → List Sited → List Defined
definitions t ds = flat_map (definitions_of t) ds
