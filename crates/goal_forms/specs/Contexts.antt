-- What stands in the context of a text.
use Rattle.std.specs.Prelude.{ℕ, List, map}
use Rattle.kan_grammar.specs.Texts.Sited.{Sited}
use Rattle.kan_grammar.specs.Texts.TermForms.{TermForm, term_form}
use Rattle.kan_grammar.specs.Texts.GoalForms.{GoalForms, goal_forms}
use Rattle.kan_grammar.specs.Texts.GoalForms.{term_forms}
use Rattle.kan_grammar.specs.Texts.Binders.{Checked, binder}
use Rattle.kan_grammar.specs.Texts.TopForms.{Defined, Form, head}
use Rattle.goal_forms.specs.Parts.{sites, site_at}
use Rattle.goal_forms.specs.RelationTables.{relations}
use Rattle.goal_forms.specs.Steps.FormSteps.{step_top}
use Rattle.goal_forms.specs.declared.context.Context.{Context}
use Rattle.goal_forms.specs.declared.form.Form as parsed

-- its data, the one at a place, and those at places
abbrev pub data_of : Context → List Sited
data_of context = sites context.flat.now

abbrev pub datum_at : Context → ℕ → Sited
datum_at context place = site_at (data_of context) place

abbrev pub data_at : Context → List ℕ → List Sited
data_at context places = map (site_at (data_of context)) places

-- the relations that are defined
abbrev pub defined_in : Context → List Defined
defined_in context = relations context.relations.now

-- what the datum at a place is as a term, as terms in a row, as goals in a row, as a binder, and as
-- the head of a relation
abbrev pub term_at : Context → ℕ → TermForm
term_at context place = term_form context.names.now (datum_at context place)

abbrev pub terms_at : Context → ℕ → List TermForm
terms_at context place = term_forms context.names.now (datum_at context place)

abbrev pub goals_at : Context → ℕ → GoalForms
goals_at context place = goal_forms context.names.now (datum_at context place)

abbrev pub binder_at : Context → ℕ → Checked (List ℕ)
binder_at context place = binder context.names.now (datum_at context place)

abbrev pub head_at : Context → ℕ → Checked (List ℕ)
head_at context place = head context.names.now (datum_at context place)

-- the top form that was parsed
abbrev pub form_of : Context → parsed.Form → Form
form_of context parts = step_top (data_of context) context.names.now parts
