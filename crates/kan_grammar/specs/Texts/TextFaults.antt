-- The faults of a text, and the one that is answered.
use Rattle.std.specs.Prelude.{◌≡◌, ℕ, Bool, true, false, ◌==◌, ◌&&◌, ◌||◌, nat_lt, nat_le, List, []}
use Rattle.std.specs.Prelude.{◌∷◌, ◌++◌, Option, Some, None, map, length, is_some, if◌then◌else◌}
use Rattle.std.specs.List.{flat_map}
use Rattle.kan_refusals.specs.Refusals.{number_of}
use Rattle.kan_refusals.specs.declared.refusals.Refusal.{Refusal}
use Rattle.kan_terms.specs.Tree.{leaves}
use Rattle.kan_terms.specs.Table.{Table}
use Rattle.kan_grammar.specs.Data.Written.{Written}
use Rattle.kan_grammar.specs.Data.Faults.{Fault, fault}
use Rattle.kan_grammar.specs.Texts.Sited.{Sited, with_sites}
use Rattle.kan_grammar.specs.Texts.Language.{word, is_other}
use Rattle.kan_grammar.specs.Texts.TermForms.{Use, variable, misshapen, TermForm}
use Rattle.kan_grammar.specs.Texts.GoalForms.{GoalForm, GoalForms, none, more}
use Rattle.kan_grammar.specs.Texts.TopForms.{NameAt, name_at, Form, relation, run_of_one}
use Rattle.kan_grammar.specs.Texts.TopForms.{run_of_list, unknown, form, Defined, definitions_of}
use Rattle.kan_grammar.specs.Texts.TopForms.{definitions}
use Rattle.kan_grammar.specs.Texts.Resolved.{Names, slot_of, arity, within}

-- a fault unless something holds
abbrev pub unless : Bool → Fault → List Fault
unless true f = []
unless false f = f ∷ []

-- a variable has a slot, and no part has a bad shape
abbrev pub use_faults : Names → Use → List Fault
use_faults ns (variable at s) = unless (is_some (slot_of ns s)) (fault at Refusal.UnboundName)
use_faults ns (misshapen at) = fault at Refusal.BadShape ∷ []

-- the faults of a term
abbrev pub term_faults : Names → TermForm → List Fault
term_faults ns u = flat_map (use_faults ns) (leaves u)

-- a call names a relation that is there, and has as many arguments as that takes
abbrev pub call_faults : Option ℕ → ℕ → ℕ → List Fault
call_faults None at n = fault at Refusal.UnknownRelation ∷ []
call_faults (Some k) at n = unless (n == k) (fault at Refusal.WrongCount)

-- the faults of a goal where these relations and names are there
abbrev mutual
  pub goal_faults : List Defined → Names → GoalForm → List Fault
  goal_faults ds ns GoalForm.succeed = []
  goal_faults ds ns GoalForm.fail = []
  goal_faults ds ns (GoalForm.same u v) = term_faults ns u ++ term_faults ns v
  goal_faults ds ns (GoalForm.differ u v) = term_faults ns u ++ term_faults ns v
  goal_faults ds ns (GoalForm.symbol u) = term_faults ns u
  goal_faults ds ns (GoalForm.number u) = term_faults ns u
  goal_faults ds ns (GoalForm.text u) = term_faults ns u
  goal_faults ds ns (GoalForm.absent tag u) = tag.faults ++ term_faults ns u
  goal_faults ds ns (GoalForm.fresh b gs) = b.faults ++ goals_faults ds (within ns b.value) gs
  goal_faults ds ns (GoalForm.all_of gs) = goals_faults ds ns gs
  goal_faults ds ns (GoalForm.one_of gs) = goals_faults ds ns gs
  goal_faults ds ns (GoalForm.clauses gs) = goals_faults ds ns gs
  goal_faults ds ns (GoalForm.call at s args) =
      call_faults (arity ds s) at (length args) ++ flat_map (term_faults ns) args
  goal_faults ds ns (GoalForm.misshapen at) = fault at Refusal.BadShape ∷ []

  pub goals_faults : List Defined → Names → GoalForms → List Fault
  goals_faults ds ns none = []
  goals_faults ds ns (more g gs) = goal_faults ds ns g ++ goals_faults ds ns gs

-- a name takes nothing before
abbrev pub is_new : Option ℕ → Bool
is_new None = true
is_new (Some k) = false

-- a relation's name is no name of the language, and was not defined before
abbrev pub again_faults : Table → List Defined → Option NameAt → List Fault
again_faults t before None = []
again_faults t before (Some (name_at at s)) =
    unless (is_other (word t s) && is_new (arity before s)) (fault at Refusal.DefinedTwice)

-- the faults of a top form, where all these relations are there, and those before it
abbrev pub form_faults : Table → List Defined → List Defined → Form → List Fault
form_faults t ds before (relation name params gs) =
    again_faults t before name ++ params.faults ++ goals_faults ds (within [] params.value) gs
form_faults t ds before (run_of_one limit q gs) =
    limit.faults ++ q.faults ++ goals_faults ds (within [] q.value) gs
form_faults t ds before (run_of_list limit xs gs) =
    limit.faults ++ xs.faults ++ goals_faults ds (within (None ∷ []) xs.value) gs
form_faults t ds before (Form.misshapen at) = fault at Refusal.BadShape ∷ []
form_faults t ds before (unknown at) = fault at Refusal.UnknownForm ∷ []

-- the faults of top forms in a row
abbrev pub forms_faults : Table → List Defined → List Defined → List Sited → List Fault
forms_faults t ds before [] = []
forms_faults t ds before (d ∷ later) =
    form_faults t ds before (form t d) ++ forms_faults t ds (before ++ definitions_of t d) later

-- all faults of a text behind a library
unfoldable pub faults_of : Table → List Sited → List Sited → List Fault
faults_of t library text =
    forms_faults t (definitions t (library ++ text)) (definitions t library) text

-- a fault comes before another: by its offset, and at one offset by its number
abbrev pub is_before : Fault → Fault → Bool
is_before (fault a r) (fault b s) =
    nat_lt a b || a == b && nat_le (number_of r) (number_of s)

-- the first of a fault and maybe another
abbrev pub first_of : Fault → Option Fault → Fault
first_of f None = f
first_of f (Some g) = if is_before f g then f else g

-- the fault that comes first
abbrev pub least : List Fault → Option Fault
least [] = None
least (f ∷ fs) = Some (first_of f (least fs))

-- the fault of a text behind a library that is answered
abbrev pub fault_of_text : Table → List Written → List Written → Option Fault
fault_of_text t library text =
    least (faults_of t (map (with_sites t) library) (map (with_sites t) text))

-- a text is accepted where it has no fault
abbrev pub IsAccepted : Table → List Written → List Written → Type 0
IsAccepted t library text = faults_of t (map (with_sites t) library) (map (with_sites t) text) ≡ []
