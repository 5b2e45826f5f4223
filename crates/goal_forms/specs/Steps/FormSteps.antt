-- What the top forms that the code opens stand for.
use Rattle.std.specs.Prelude.{ℕ, ◌^◌, ℤ, pos, negsuc, nat_lt, false, List, [], ◌∷◌, Option, Some}
use Rattle.std.specs.Prelude.{None, option_map, if◌then◌else◌}
use Rattle.kan_terms.specs.Table.{Table}
use Rattle.kan_grammar.specs.Texts.Sited.{Sited}
use Rattle.kan_grammar.specs.Texts.Binders.{Checked, binder, binder_faults}
use Rattle.kan_grammar.specs.Texts.GoalForms.{goal_forms}
use Rattle.kan_grammar.specs.Texts.TopForms as forms
use Rattle.kan_grammar.specs.Texts.TopForms.{NameAt, name_at, head_name, head, limit, no_limit}
use Rattle.goal_forms.specs.Parts.{site_at}
use Rattle.goal_forms.specs.declared.form.Form.{Form}
use Rattle.goal_forms.specs.declared.form.Form.TheVariants.{Relation, RunOfOne, RunOfList}
use Rattle.goal_forms.specs.declared.form.Form.TheVariants.{Misshapen, Unknown}

-- the limit at a place, or none
abbrev pub limit_at : List Sited → Option ℕ → Checked (Option ℕ)
limit_at ds None = no_limit
limit_at ds (Some place) = limit (site_at ds place)

-- one name for a binder
abbrev pub one_name : Table → ℕ → ℕ → Checked (List ℕ)
one_name t at s = record { value = s ∷ []; faults = binder_faults t [] (Sited.name at s) }

-- the run with this limit, this binder and these goals
abbrev pub run_with : Table → Checked (Option ℕ) → Sited → Sited → forms.Form
run_with t l (Sited.name at s) goals = forms.run_of_one l (one_name t at s) (goal_forms t goals)
run_with t l b goals = forms.run_of_list l (binder t b) (goal_forms t goals)

-- the form that begins with a step
abbrev pub step_top : List Sited → Table → Form → forms.Form
step_top ds t (Relation h gs) =
    forms.relation (head_name (site_at ds h)) (head t (site_at ds h)) (goal_forms t (site_at ds gs))
step_top ds t (RunOfOne l at s gs) =
    forms.run_of_one (limit_at ds l) (one_name t at s) (goal_forms t (site_at ds gs))
step_top ds t (RunOfList l b gs) =
    forms.run_of_list (limit_at ds l) (binder t (site_at ds b)) (goal_forms t (site_at ds gs))
step_top ds t (Misshapen at) = forms.misshapen at
step_top ds t (Unknown at) = forms.unknown at

-- an offset and a symbol
abbrev pub name_with_offset : ℕ × ℕ → NameAt
name_with_offset p = name_at p.0 p.1

-- a number that a limit may be
abbrev pub small_number : ℤ → Option ℕ
small_number (pos n) = if nat_lt n (2 ^ 63) then Some n else None
small_number (negsuc n) = None

-- a limit that is allowed: a number, or none
abbrev pub allowed_limit : Sited → Option (Option ℕ)
allowed_limit (Sited.num at n) = option_map (λ k. Some k) (small_number n)
allowed_limit (Sited.bool at false) = Some None
allowed_limit d = None
