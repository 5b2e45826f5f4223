-- What the forms in a context are built to.
use Rattle.std.specs.Prelude.{ℕ, Bool, List, ◌∷◌, ◌+◌, Option, length, map}
use Rattle.kan_terms.specs.Tree.{size}
use Rattle.kan_model.specs.Programs.Goals as model
use Rattle.kan_model.specs.Programs.Goals.{Goal, Template}
use Rattle.kan_model.specs.Programs.Drafts.{tables}
use Rattle.kan_model.specs.Programs.Tables.{RelationEntry}
use Rattle.kan_model.specs.declared.draft.Draft.{Draft}
use Rattle.kan_grammar.specs.Texts.Resolved.{Names, conjunction, goals_in, template_in}
use Rattle.kan_grammar.specs.Texts.ProgramText.{relations_in, queries_in, relations_of, queries_of}
use Rattle.kan_grammar.specs.Texts.TopForms.{form}
use Rattle.goal_forms.specs.Contexts.{data_of, datum_at, data_at, defined_in, binder_at, head_at}
use Rattle.goal_forms.specs.Contexts.{goals_at, terms_at, form_of}
use Rattle.goal_forms.specs.Steps.TermSteps.{task_form}
use Rattle.goal_forms.specs.declared.context.Context.{Context}
use Rattle.goal_forms.specs.declared.form.Form as parsed
use Rattle.goal_forms.specs.declared.goal.Goal as opened
use Rattle.goal_forms.specs.declared.term.Task.{Task}
use Rattle.goal_syntax.specs.Building.CallsThere.{KeepsClosed}
use Rattle.goal_syntax.specs.Building.FormsBuilt.{asked_fresh, asked_list, relation_meant, names_in}
use Rattle.goal_syntax.specs.Building.FormsBuilt.{relation_names}
use Rattle.goal_syntax.specs.Building.GoalsBuilt.{Built, own_goal}
use Rattle.goal_syntax.specs.Building.GoalsLeft.{finish, work_entries, work_width, works_entries}
use Rattle.goal_syntax.specs.Building.GoalsLeft.{works_width}
use Rattle.goal_syntax.specs.Building.Named.{Lacks, data_unnamed}
use Rattle.goal_syntax.specs.Building.Widths.{goals_width, forms_width}
use Rattle.goal_syntax.specs.Building.TermsLeft as TermsLeft
use Rattle.goal_syntax.specs.Building.Entries.{goals_size, forms_size}
use Rattle.goal_syntax.specs.Building.TemplateHeights.{KeepsLow}
use Rattle.goal_syntax.specs.declared.build_goal.Work.{Work}
use Rattle.goal_syntax.specs.declared.build_term.Work as terms

-- the template of a task's term, and those of the terms in a list, where these names are in scope
abbrev pub task_template : Context → Names → Task → Template
task_template context scope task =
    template_in scope (task_form (data_of context) context.names.now task)

abbrev pub term_templates : Context → Names → ℕ → List Template
term_templates context scope place = map (template_in scope) (terms_at context place)

-- the goal of the goals in a list, which hold together
abbrev pub list_goal : Context → Names → ℕ → Goal
list_goal context scope place =
    conjunction (goals_in context.dialect (defined_in context) scope (goals_at context place))

-- the same behind another goal
abbrev pub goal_behind : Context → Goal → Names → ℕ → Goal
goal_behind context first scope place =
    conjunction
    (first ∷ goals_in context.dialect (defined_in context) scope (goals_at context place))

-- the goal of one that has no goals in it
abbrev pub goal_alone : Context → Names → opened.Goal → Option Goal
goal_alone context scope goal =
    own_goal context.dialect (defined_in context) context.names.now (data_of context) scope goal

-- what is made once all work on a stack is done, the top first
abbrev pub made_after : Context → Names → List Work → Built → Built
made_after context scope works before =
    finish context.dialect (defined_in context) context.names.now
    (data_of context) scope works before

-- the goal of a run over a list of names, and before it suspends
abbrev pub run_goal : Context → ℕ → ℕ → Goal
run_goal context binder goals =
    asked_list context.dialect (defined_in context) (binder_at context binder).value
    (goals_at context goals)

abbrev pub fresh_goal : Context → ℕ → ℕ → Goal
fresh_goal context binder goals =
    asked_fresh context.dialect (defined_in context) (binder_at context binder).value
    (goals_at context goals)

-- the relation with a head and a list of goals
abbrev pub relation_at : Context → ℕ → ℕ → model.Relation
relation_at context head goals =
    relation_meant context.dialect (defined_in context) (head_at context head).value
    (goals_at context goals)

-- the relations and the runs of a top form that was parsed, and the names of the relations
abbrev pub relations_parsed : Context → parsed.Form → List model.Relation
relations_parsed context parts =
    relations_in context.dialect (defined_in context) (form_of context parts)

abbrev pub queries_parsed : Context → parsed.Form → List model.Query
queries_parsed context parts =
    queries_in context.dialect (defined_in context) (form_of context parts)

abbrev pub names_parsed : Context → parsed.Form → List ℕ
names_parsed context parts = names_in (form_of context parts)

-- those of the top form at a place
abbrev pub form_relations : Context → ℕ → List model.Relation
form_relations context place =
    relations_in context.dialect (defined_in context)
    (form context.names.now (datum_at context place))

abbrev pub form_names : Context → ℕ → List ℕ
form_names context place = names_in (form context.names.now (datum_at context place))

-- and those of the top forms at places
abbrev pub forms_relations : Context → List ℕ → List model.Relation
forms_relations context places =
    relations_of context.dialect context.names.now (defined_in context) (data_at context places)

abbrev pub forms_queries : Context → List ℕ → List model.Query
forms_queries context places =
    queries_of context.dialect context.names.now (defined_in context) (data_at context places)

abbrev pub forms_names : Context → List ℕ → List ℕ
forms_names context places = relation_names context.names.now (data_at context places)

-- templates that came to a draft are low where the data are
abbrev pub KeepsLowIn : Context → Draft → Draft → Type 0
KeepsLowIn context old new = KeepsLow (data_of context) (tables old) (tables new)

-- and the calls that came to it are there exactly where a test says so
abbrev pub KeepsClosedIn : Context → Draft → Draft → (List RelationEntry → Bool) → Type 0
KeepsClosedIn context old new passes =
    KeepsClosed (data_of context) (tables old) (tables new) passes

-- how many entries are made of a task's term, and of the terms in a list as arguments; of all work
-- that is left on terms, and on goals; and of the goals in a list, and top forms at places
abbrev pub task_entries : Context → Task → ℕ
task_entries context task = size (task_form (data_of context) context.names.now task)

abbrev pub terms_entries : Context → List terms.Work → ℕ
terms_entries context works = TermsLeft.works_entries (data_of context) context.names.now works

abbrev pub goals_entries : Context → List Work → ℕ
goals_entries context works = works_entries context.names.now (data_of context) works

abbrev pub next_entries : Context → Work → ℕ
next_entries context work = work_entries context.names.now (data_of context) work

abbrev pub list_entries : Context → ℕ → ℕ
list_entries context place = goals_size (goals_at context place)

-- and those of a run over a list of names, and of what suspends in it
abbrev pub fresh_entries : Context → ℕ → ℕ → ℕ
fresh_entries context binder goals =
    5 + length (binder_at context binder).value + length (binder_at context binder).value
    + list_entries context goals

abbrev pub run_entries : Context → ℕ → ℕ → ℕ
run_entries context binder goals =
    6 + length (binder_at context binder).value + length (binder_at context binder).value
    + list_entries context goals

abbrev pub forms_entries : Context → List ℕ → ℕ
forms_entries context places = forms_size context.names.now (data_at context places)

-- how wide the goals of a piece of work are, of all work that is left, of a list, and of a run over
-- a list of names; and the widest of the top forms at places
abbrev pub next_width : Context → Work → ℕ
next_width context work = work_width context.names.now (data_of context) work

abbrev pub left_width : Context → List Work → ℕ
left_width context works = works_width context.names.now (data_of context) works

abbrev pub list_width : Context → ℕ → ℕ
list_width context place = goals_width (goals_at context place)

abbrev pub run_width : Context → ℕ → ℕ → ℕ
run_width context binder goals =
    length (binder_at context binder).value + list_width context goals

abbrev pub widest_form : Context → List ℕ → ℕ
widest_form context places = forms_width context.names.now (data_at context places)

-- entries that came to a draft have names where the data have
abbrev pub NamesIn : Context → Draft → Draft → Type 0
NamesIn context old new =
    Lacks context.names.now (data_unnamed context.names.now (data_of context))
    (tables old) (tables new)
