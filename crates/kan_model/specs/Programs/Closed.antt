-- What a program of the code stands for.
use Rattle.std.specs.Prelude.{◌≡◌, ℕ, ◌+◌, ◌≤◌, List, length, true, false, Result, Ok, Err}
use Rattle.kan_model.specs.Programs.Goals as model
use Rattle.kan_model.specs.Programs.Goals.{Template, Goal}
use Rattle.kan_model.specs.Programs.Tables as facts
use Rattle.kan_model.specs.Programs.Tables.{Tables, program_of, are_closed}
use Rattle.kan_model.specs.Programs.Drafts as drafts
use Rattle.kan_model.specs.declared.draft.Draft.{Draft}
use Rattle.kan_model.specs.declared.nodes.Query.{Query}
use Rattle.kan_model.specs.declared.program.Program.{Program}
use Rattle.kan_model.specs.declared.program.CloseRefused.{CloseRefused}
use Rattle.kan_model.specs.declared.program.CloseRefused.TheVariants.{Open, Memory}

abbrev pub tables : Program → Tables
tables p = drafts.tables p.draft

-- the templates, the goals and the program that its tables stand for
abbrev pub templates : Program → List Template
templates p = drafts.templates p.draft

abbrev pub goals : Program → List Goal
goals p = drafts.goals p.draft

abbrev pub meaning : Program → model.Program
meaning p = program_of (tables p)

-- the template and the goal at a place
abbrev pub template : Program → ℕ → Template
template p i = facts.template_at (templates p) i

abbrev pub goal : Program → ℕ → Goal
goal p i = facts.goal_at (goals p) i

-- the goal of an entry, from the goals of the program
abbrev pub entry_goal : Program → facts.GoalEntry → Goal
entry_goal p e = facts.goal_of (templates p) (tables p).arguments (goals p) e

-- the arguments of an entry that is a call are there
abbrev pub ArgumentsPlaced : Program → facts.GoalEntry → Type 0
ArgumentsPlaced p (facts.GoalEntry.call r at count) = at + count ≤ length (tables p).arguments
ArgumentsPlaced p _ = Unit {0}

-- the run that a query asks for of a program
abbrev pub query_of : Program → Query → model.Query
query_of p q = record { goal = goal p q.goal; limit = q.limit }

-- a refused draft is the one that was given, and isn't complete; memory is never wanted
abbrev pub HandsBack : Draft → List ℕ → CloseRefused → Type 0
HandsBack d queries (Open back) = (back ≡ d) × (are_closed (drafts.tables d) queries ≡ false)
HandsBack d queries (Memory back) = ⊥

-- what closing a draft for the goals of queries gives: its tables, where they are complete
abbrev pub Closes : Draft → List ℕ → Result Program CloseRefused → Type 0
Closes d queries (Ok p) =
    (tables p ≡ drafts.tables d) × (are_closed (drafts.tables d) queries ≡ true)
Closes d queries (Err refused) = HandsBack d queries refused
