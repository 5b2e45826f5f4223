-- The goals that were built, and the entries that stand for goals.
use Rattle.std.specs.Prelude.{◌≡◌, ℕ, Bool, true, ◌&&◌, List, ◌∷◌, Option, Some, None, map, length}
use Rattle.std.specs.Prelude.{reverse}
use Rattle.kan_terms.specs.Table.{Table}
use Rattle.kan_grammar.specs.declared.dialect.Dialect.{Dialect}
use Rattle.kan_grammar.specs.Texts.Sited.{Sited}
use Rattle.kan_model.specs.Programs.Goals.{Goal}
use Rattle.kan_grammar.specs.Texts.TopForms.{Defined}
use Rattle.kan_grammar.specs.Texts.Resolved.{Names, goal_in}
use Rattle.kan_model.specs.Programs.Calls.{call_there}
use Rattle.kan_model.specs.Programs.Tables.{GoalEntry, RelationEntry, Tables, templates_of, goal_at}
use Rattle.kan_model.specs.Programs.Tables.{goals_of, goal_of, is_goal_grown}
use Rattle.kan_model.specs.Programs.Nodes.{goal_entry}
use Rattle.kan_model.specs.declared.nodes.GoalNode.{GoalNode}
use Rattle.goal_syntax.specs.Building.CallsThere.{calls_named, are_there}
use Rattle.goal_forms.specs.Steps.GoalSteps.{step_goal}
use Rattle.goal_forms.specs.declared.goal.Goal as opened
use Rattle.goal_forms.specs.declared.goal.Goal.TheVariants.{Fresh, AllOf, OneOf, Clauses}

-- the goals that were built and wait to be joined, the last one first; under which relations the
-- calls of the table are there
pub record Built : Type 0 where
  pub made : List Goal
  pub called : List RelationEntry → Bool

-- the goals at the places on a stack
abbrev pub stack_goals : Tables → List ℕ → Built
stack_goals ts places =
    record {
      made = map (goal_at (goals_of ts)) (reverse places);
      called = λ rows. are_there rows ts.goals;
    }

-- one goal more
abbrev pub with_goal : Goal → Built → Built
with_goal g b = record { made = g ∷ b.made; called = λ rows. b.called rows && calls_named rows g }

abbrev pub with_maybe : Option Goal → Built → Built
with_maybe None b = b
with_maybe (Some g) b = with_goal g b

-- the goal of one entry more
abbrev pub entry_goal : Tables → GoalEntry → Goal
entry_goal ts e = goal_of (templates_of ts.terms) ts.arguments (goals_of ts) e

abbrev pub with_entry : Tables → GoalEntry → Built → Built
with_entry ts e b =
    record { made = entry_goal ts e ∷ b.made; called = λ rows. b.called rows && call_there rows e }

-- an entry that may be added stands for a goal
pub record Stands (ts : Tables) (e : GoalEntry) (g : Goal) : Type 0 where
  pub grown : is_goal_grown ts (length ts.goals) e ≡ true
  pub is : entry_goal ts e ≡ g
  pub called : (rows : List RelationEntry) → call_there rows e ≡ calls_named rows g

abbrev pub StandsFor : Tables → Option GoalNode → Option Goal → Type 0
StandsFor ts None None = Unit {0}
StandsFor ts (Some node) (Some g) = Stands ts (goal_entry node) g
StandsFor ts n g = ⊥

-- the goal of one that has no goals in it
abbrev pub own_goal : Dialect → List Defined → Table → List Sited → Names → opened.Goal →
    Option Goal
own_goal dialect rs t ds ns (Fresh b gs) = None
own_goal dialect rs t ds ns (AllOf gs) = None
own_goal dialect rs t ds ns (OneOf gs) = None
own_goal dialect rs t ds ns (Clauses cs) = None
own_goal dialect rs t ds ns g = Some (goal_in dialect rs ns (step_goal ds t g))
