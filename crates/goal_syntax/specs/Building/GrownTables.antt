-- What stands at places of tables that grow, and what is kept of them while they grow.
use Rattle.std.specs.Prelude.{◌≡◌, ℕ, ◌<◌, ◌^◌, ◌≤◌, ◌+◌, List, length}
use Rattle.kan_model.specs.Programs.Goals.{Template, Goal}
use Rattle.kan_model.specs.Programs.Tables.{Tables, template_at, templates_of, goal_at, goals_of}
use Rattle.kan_model.specs.Programs.Tables.{arguments_at}

-- the template at a place
pub record HasTemplate (ts : Tables) (p : ℕ) (t : Template) : Type 0 where
  pub there : p < length ts.terms
  pub is : template_at (templates_of ts.terms) p ≡ t

-- the goal at a place
pub record HasGoal (ts : Tables) (p : ℕ) (g : Goal) : Type 0 where
  pub there : p < length ts.goals
  pub is : goal_at (goals_of ts) p ≡ g

-- so many arguments from a place on
pub record HasArguments (ts : Tables) (at count : ℕ) (args : List Template) : Type 0 where
  pub there : at + count ≤ length ts.arguments
  pub are : arguments_at (templates_of ts.terms) ts.arguments at count ≡ args
  pub counted : count ≡ length args

-- what stands in tables stands at the same places in those that grew from them
pub record Grows (ts us : Tables) : Type 0 where
  pub templates : (p : ℕ) (t : Template) → HasTemplate ts p t → HasTemplate us p t
  pub goals : (p : ℕ) (g : Goal) → HasGoal ts p g → HasGoal us p g
  pub relations : us.relations ≡ ts.relations

-- no table is full: each has fewer than 2^24 entries
pub record HasRoom (ts : Tables) : Type 0 where
  pub terms : length ts.terms < 2 ^ 24
  pub arguments : length ts.arguments < 2 ^ 24
  pub goals : length ts.goals < 2 ^ 24
  pub relations : length ts.relations < 2 ^ 24
