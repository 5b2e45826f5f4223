-- Tables of templates and goals, whose entries name entries before them by number, and the trees
-- that they stand for.
use Rattle.std.specs.List.{list_all}
use Rattle.std.specs.Prelude.{ℕ, suc, ◌+◌, ℤ, Bool, true, ◌&&◌, nat_lt, nat_le, List, [], ◌∷◌, ◌++◌}
use Rattle.std.specs.Prelude.{length, map, take, drop, slice_get, unwrap_or}
use Rattle.kan_terms.specs.Tree.{Tree}
use Rattle.kan_model.specs.Programs.Goals.{Template, Primitive, Goal, Program}
use Rattle.kan_model.specs.Programs.Scope.{is_closed}

-- an entry of the table of templates
pub data TermEntry : Type 0 where
  slot : ℕ → TermEntry
  sym : ℕ → TermEntry
  str : ℕ → TermEntry
  num : ℤ → TermEntry
  truth : Bool → TermEntry
  nil : TermEntry
  pair : ℕ → ℕ → TermEntry

-- an entry of the table of goals: templates and goals by number, a call by its relation and its
-- place and count in the table of arguments
pub data GoalEntry : Type 0 where
  succeed : GoalEntry
  fail : GoalEntry
  same : ℕ → ℕ → GoalEntry
  differ : ℕ → ℕ → GoalEntry
  symbol : ℕ → GoalEntry
  number : ℕ → GoalEntry
  text : ℕ → GoalEntry
  absent : ℕ → ℕ → GoalEntry
  both : ℕ → ℕ → GoalEntry
  either : ℕ → ℕ → GoalEntry
  fresh : ℕ → ℕ → GoalEntry
  later : ℕ → GoalEntry
  call : ℕ → ℕ → ℕ → GoalEntry

-- an entry of the table of relations, with the symbol that is its name
pub record RelationEntry : Type 0 where
  pub name : ℕ
  pub params : ℕ
  pub body : ℕ

-- the tables of a program; an argument is a template's number
pub record Tables : Type 0 where
  pub terms : List TermEntry
  pub arguments : List ℕ
  pub goals : List GoalEntry
  pub relations : List RelationEntry

-- tables with one entry more
abbrev pub with_term : Tables → TermEntry → Tables
with_term tables e = record tables { terms = tables.terms ++ e ∷ [] }

abbrev pub with_argument : Tables → ℕ → Tables
with_argument tables t = record tables { arguments = tables.arguments ++ t ∷ [] }

abbrev pub with_goal : Tables → GoalEntry → Tables
with_goal tables e = record tables { goals = tables.goals ++ e ∷ [] }

abbrev pub with_relation : Tables → RelationEntry → Tables
with_relation tables r = record tables { relations = tables.relations ++ r ∷ [] }

-- the tree at a place
abbrev pub template_at : List Template → ℕ → Template
template_at ts i = unwrap_or (slice_get ts i) Tree.nil

abbrev pub goal_at : List Goal → ℕ → Goal
goal_at gs i = unwrap_or (slice_get gs i) Goal.fail

-- the template of an entry, from the templates before it
abbrev pub template_of : List Template → TermEntry → Template
template_of ts (TermEntry.slot i) = Tree.leaf i
template_of ts (TermEntry.sym s) = Tree.sym s
template_of ts (TermEntry.str s) = Tree.str s
template_of ts (TermEntry.num n) = Tree.num n
template_of ts (TermEntry.truth b) = Tree.truth b
template_of ts TermEntry.nil = Tree.nil
template_of ts (TermEntry.pair a b) = Tree.pair (template_at ts a) (template_at ts b)

-- the templates of a table, grown from those before it
abbrev pub templates_after : List Template → List TermEntry → List Template
templates_after ts [] = ts
templates_after ts (e ∷ es) = templates_after (ts ++ template_of ts e ∷ []) es

abbrev pub templates_of : List TermEntry → List Template
templates_of = templates_after []

-- the arguments at a place of their table
abbrev pub arguments_at : List Template → List ℕ → ℕ → ℕ → List Template
arguments_at ts args at k = map (template_at ts) (take k (drop at args))

-- the goal of an entry, from the templates and the goals before it
abbrev pub goal_of : List Template → List ℕ → List Goal → GoalEntry → Goal
goal_of ts args gs GoalEntry.succeed = Goal.succeed
goal_of ts args gs GoalEntry.fail = Goal.fail
goal_of ts args gs (GoalEntry.same a b) =
    Goal.prim (Primitive.same (template_at ts a) (template_at ts b))
goal_of ts args gs (GoalEntry.differ a b) =
    Goal.prim (Primitive.differ (template_at ts a) (template_at ts b))
goal_of ts args gs (GoalEntry.symbol a) = Goal.prim (Primitive.symbol (template_at ts a))
goal_of ts args gs (GoalEntry.number a) = Goal.prim (Primitive.number (template_at ts a))
goal_of ts args gs (GoalEntry.text a) = Goal.prim (Primitive.text (template_at ts a))
goal_of ts args gs (GoalEntry.absent tag a) = Goal.prim (Primitive.absent tag (template_at ts a))
goal_of ts args gs (GoalEntry.both g h) = Goal.both (goal_at gs g) (goal_at gs h)
goal_of ts args gs (GoalEntry.either g h) = Goal.either (goal_at gs g) (goal_at gs h)
goal_of ts args gs (GoalEntry.fresh k g) = Goal.fresh k (goal_at gs g)
goal_of ts args gs (GoalEntry.later g) = Goal.later (goal_at gs g)
goal_of ts args gs (GoalEntry.call r at k) = Goal.call r (arguments_at ts args at k)

-- the goals of a table, grown from those before it
abbrev pub goals_after : List Template → List ℕ → List Goal → List GoalEntry → List Goal
goals_after ts args gs [] = gs
goals_after ts args gs (e ∷ es) = goals_after ts args (gs ++ goal_of ts args gs e ∷ []) es

abbrev pub goals_of : Tables → List Goal
goals_of tables = goals_after (templates_of tables.terms) tables.arguments [] tables.goals

-- the program that tables stand for
abbrev pub program_of : Tables → Program
program_of tables = record {
  relations =
      map (λ r. record { params = r.params; body = goal_at (goals_of tables) r.body })
      tables.relations;
  goals = goals_of tables;
}

-- an entry names what stands before it, where n templates or goals do
abbrev pub is_term_grown : ℕ → TermEntry → Bool
is_term_grown n (TermEntry.pair a b) = nat_lt a n && nat_lt b n
is_term_grown n _ = true

abbrev pub terms_grown : ℕ → List TermEntry → Bool
terms_grown n [] = true
terms_grown n (e ∷ es) = is_term_grown n e && terms_grown (suc n) es

-- an entry names templates and arguments that are there, and goals before it
abbrev pub is_goal_grown : Tables → ℕ → GoalEntry → Bool
is_goal_grown tables n GoalEntry.succeed = true
is_goal_grown tables n GoalEntry.fail = true
is_goal_grown tables n (GoalEntry.same a b) =
    nat_lt a (length tables.terms) && nat_lt b (length tables.terms)
is_goal_grown tables n (GoalEntry.differ a b) =
    nat_lt a (length tables.terms) && nat_lt b (length tables.terms)
is_goal_grown tables n (GoalEntry.symbol a) = nat_lt a (length tables.terms)
is_goal_grown tables n (GoalEntry.number a) = nat_lt a (length tables.terms)
is_goal_grown tables n (GoalEntry.text a) = nat_lt a (length tables.terms)
is_goal_grown tables n (GoalEntry.absent tag a) = nat_lt a (length tables.terms)
is_goal_grown tables n (GoalEntry.both g h) = nat_lt g n && nat_lt h n
is_goal_grown tables n (GoalEntry.either g h) = nat_lt g n && nat_lt h n
is_goal_grown tables n (GoalEntry.fresh k g) = nat_lt g n
is_goal_grown tables n (GoalEntry.later g) = nat_lt g n
is_goal_grown tables n (GoalEntry.call r at k) = nat_le (at + k) (length tables.arguments)

abbrev pub goals_grown : Tables → ℕ → List GoalEntry → Bool
goals_grown tables n [] = true
goals_grown tables n (e ∷ es) = is_goal_grown tables n e && goals_grown tables (suc n) es

-- all that tables name is there, and entries name smaller numbers
abbrev pub is_grown : Tables → Bool
is_grown tables =
    terms_grown 0 tables.terms && list_all (λ t. nat_lt t (length tables.terms)) tables.arguments
    && goals_grown tables 0 tables.goals
    && list_all (λ r. nat_lt r.body (length tables.goals)) tables.relations

-- tables are complete for these goals of runs, by number: they are in the table, and their trees
-- and the tables' are closed
abbrev pub are_closed : Tables → List ℕ → Bool
are_closed tables goals =
    list_all (λ g. nat_lt g (length tables.goals)) goals
    && is_closed (templates_of tables.terms) (program_of tables)
    (map (goal_at (goals_of tables)) goals)
