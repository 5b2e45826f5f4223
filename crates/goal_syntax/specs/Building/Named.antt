-- Whether the entries of tables have names, and the forms that they are made of: 0 where all have,
-- and else 1.
use Rattle.std.specs.Prelude.{ℕ, ◌≤◌, max, List, [], ◌∷◌, Option, Some, None}
use Rattle.kan_terms.specs.Tree.{Tree}
use Rattle.kan_terms.specs.Table.{Table}
use Rattle.kan_grammar.specs.Texts.Sited.{Sited}
use Rattle.kan_model.specs.Programs.Tables.{TermEntry, GoalEntry, RelationEntry, Tables}
use Rattle.kan_model.specs.Programs.Nodes.{goal_entry}
use Rattle.kan_model.specs.declared.nodes.GoalNode.{GoalNode}
use Rattle.goal_forms.specs.Unnamed.{symbol_unnamed, string_unnamed, sites_unnamed}

-- an entry of each table, and all of one
abbrev pub term_unnamed : Table → TermEntry → ℕ
term_unnamed names (TermEntry.sym s) = symbol_unnamed names s
term_unnamed names (TermEntry.str s) = string_unnamed names s
term_unnamed names e = 0

abbrev pub goal_unnamed : Table → GoalEntry → ℕ
goal_unnamed names (GoalEntry.absent tag a) = symbol_unnamed names tag
goal_unnamed names e = 0

abbrev pub relation_unnamed : Table → RelationEntry → ℕ
relation_unnamed names r = symbol_unnamed names r.name

abbrev pub terms_unnamed : Table → List TermEntry → ℕ
terms_unnamed names [] = 0
terms_unnamed names (e ∷ es) = max (term_unnamed names e) (terms_unnamed names es)

abbrev pub goals_unnamed : Table → List GoalEntry → ℕ
goals_unnamed names [] = 0
goals_unnamed names (e ∷ es) = max (goal_unnamed names e) (goals_unnamed names es)

abbrev pub relations_unnamed : Table → List RelationEntry → ℕ
relations_unnamed names [] = 0
relations_unnamed names (r ∷ rs) = max (relation_unnamed names r) (relations_unnamed names rs)

-- all entries of tables
abbrev pub tables_unnamed : Table → Tables → ℕ
tables_unnamed names ts =
    max (terms_unnamed names ts.terms)
    (max (goals_unnamed names ts.goals) (relations_unnamed names ts.relations))

-- a tree
abbrev pub tree_unnamed : {V : Type 0} → Table → Tree V → ℕ
tree_unnamed names (Tree.leaf v) = 0
tree_unnamed names (Tree.sym s) = symbol_unnamed names s
tree_unnamed names (Tree.str s) = string_unnamed names s
tree_unnamed names (Tree.num n) = 0
tree_unnamed names (Tree.truth b) = 0
tree_unnamed names Tree.nil = 0
tree_unnamed names (Tree.pair a d) = max (tree_unnamed names a) (tree_unnamed names d)

-- the node of a goal, where there is one
abbrev pub node_unnamed : Table → Option GoalNode → ℕ
node_unnamed names None = 0
node_unnamed names (Some node) = goal_unnamed names (goal_entry node)

-- the parts of a table of data, and the first symbol, which stands where none is
abbrev pub data_unnamed : Table → List Sited → ℕ
data_unnamed names ds = max (symbol_unnamed names 0) (sites_unnamed names ds)

-- entries that came to tables lack names only where something does
abbrev pub Lacks : Table → ℕ → Tables → Tables → Type 0
Lacks names most ts us = tables_unnamed names us ≤ max (tables_unnamed names ts) most
