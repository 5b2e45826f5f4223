-- What names stand for: the slots of variables, the numbers of relations, and the goals that goals
-- as they are written stand for.
use Rattle.std.specs.Prelude.{ℕ, suc, Bool, false, ◌==◌, List, [], ◌∷◌, ◌++◌, Option, Some, None}
use Rattle.std.specs.Prelude.{map, length, option_map, unwrap_or, if◌then◌else◌}
use Rattle.kan_terms.specs.Tree.{Tree, fill}
use Rattle.kan_model.specs.Programs.Goals.{Template, Primitive, Goal}
use Rattle.kan_grammar.specs.declared.dialect.Dialect.{Dialect}
use Rattle.kan_grammar.specs.declared.dialect.Dialect.TheVariants.{Book, All}
use Rattle.kan_grammar.specs.Texts.TermForms.{Use, variable, misshapen, TermForm}
use Rattle.kan_grammar.specs.Texts.GoalForms.{GoalForm, GoalForms, none, more}
use Rattle.kan_grammar.specs.Texts.TopForms.{Defined}

-- the names of the slots that are there; that of a run over a list of names has none
abbrev pub Names : Type 0
Names = List (Option ℕ)

-- the slot has the name
abbrev pub is_named : Option ℕ → ℕ → Bool
is_named None s = false
is_named (Some r) s = s == r

-- one slot or, where it is none, another
abbrev pub or_else : Option ℕ → Option ℕ → Option ℕ
or_else None other = other
or_else (Some i) other = Some i

-- the slot of a name: the last that has it, since inner names hide outer ones
abbrev pub slot_of : Names → ℕ → Option ℕ
slot_of [] s = None
slot_of (n ∷ ns) s =
    or_else (option_map (λ i. suc i) (slot_of ns s)) (if is_named n s then Some 0 else None)

-- the leaf of a use
abbrev pub leaf_in : Names → Use → Template
leaf_in ns (variable at s) = Tree.leaf (unwrap_or (slot_of ns s) 0)
leaf_in ns (misshapen at) = Tree.nil

-- the template of a term where these names are there
abbrev pub template_in : Names → TermForm → Template
template_in ns u = fill (leaf_in ns) u

-- the first relation of a name
abbrev pub relation_number : List Defined → ℕ → Option ℕ
relation_number [] s = None
relation_number (d ∷ ds) s =
    if s == d.name then Some 0 else option_map (λ r. suc r) (relation_number ds s)

-- how many arguments it takes
abbrev pub arity : List Defined → ℕ → Option ℕ
arity [] s = None
arity (d ∷ ds) s = if s == d.name then Some d.params else arity ds s

-- goals that hold together, nested to the right
abbrev pub conjunction : List Goal → Goal
conjunction [] = Goal.succeed
conjunction (g ∷ []) = g
conjunction (g ∷ h ∷ gs) = Goal.both g (conjunction (h ∷ gs))

-- goals of which one holds, nested to the right
abbrev pub disjunction : List Goal → Goal
disjunction [] = Goal.fail
disjunction (g ∷ []) = g
disjunction (g ∷ h ∷ gs) = Goal.either g (disjunction (h ∷ gs))

-- the names of slots and those of a binder behind them
abbrev pub within : Names → List ℕ → Names
within ns names = ns ++ map (λ s. Some s) names

-- a goal that suspends before it is run, in the dialect in which it does
abbrev pub suspended_in : Dialect → Goal → Goal
suspended_in Book g = g
suspended_in All g = Goal.later g

-- the goal where these relations and names are there: in the dialect in which they suspend, fresh
-- and conde do
abbrev mutual
  pub goal_in : Dialect → List Defined → Names → GoalForm → Goal
  goal_in dialect ds ns GoalForm.succeed = Goal.succeed
  goal_in dialect ds ns GoalForm.fail = Goal.fail
  goal_in dialect ds ns (GoalForm.same u v) =
      Goal.prim (Primitive.same (template_in ns u) (template_in ns v))
  goal_in dialect ds ns (GoalForm.differ u v) =
      Goal.prim (Primitive.differ (template_in ns u) (template_in ns v))
  goal_in dialect ds ns (GoalForm.symbol u) = Goal.prim (Primitive.symbol (template_in ns u))
  goal_in dialect ds ns (GoalForm.number u) = Goal.prim (Primitive.number (template_in ns u))
  goal_in dialect ds ns (GoalForm.text u) = Goal.prim (Primitive.text (template_in ns u))
  goal_in dialect ds ns (GoalForm.absent tag u) =
      Goal.prim (Primitive.absent tag.value (template_in ns u))
  goal_in dialect ds ns (GoalForm.fresh b gs) =
      suspended_in dialect
      (Goal.fresh (length b.value) (conjunction (goals_in dialect ds (within ns b.value) gs)))
  goal_in dialect ds ns (GoalForm.all_of gs) = conjunction (goals_in dialect ds ns gs)
  goal_in dialect ds ns (GoalForm.one_of gs) = disjunction (goals_in dialect ds ns gs)
  goal_in dialect ds ns (GoalForm.clauses gs) =
      suspended_in dialect (disjunction (goals_in dialect ds ns gs))
  goal_in dialect ds ns (GoalForm.call at s args) =
      Goal.call (unwrap_or (relation_number ds s) 0) (map (template_in ns) args)
  goal_in dialect ds ns (GoalForm.misshapen at) = Goal.fail

  pub goals_in : Dialect → List Defined → Names → GoalForms → List Goal
  goals_in dialect ds ns none = []
  goals_in dialect ds ns (more g gs) = goal_in dialect ds ns g ∷ goals_in dialect ds ns gs
