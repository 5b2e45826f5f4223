-- What the nodes and rows of the code stand for: entries of tables.
use Rattle.std.specs.Prelude.{ℕ, List, map}
use Rattle.kan_model.specs.Programs.Tables.{TermEntry, GoalEntry, RelationEntry, Tables}
use Rattle.kan_model.specs.declared.nodes.TermNode.{TermNode}
use Rattle.kan_model.specs.declared.nodes.TermNode.TheVariants.{Slot, Sym, Str, Num, Truth, Nil}
use Rattle.kan_model.specs.declared.nodes.TermNode.TheVariants.{Pair}
use Rattle.kan_model.specs.declared.nodes.GoalNode.{GoalNode}
use Rattle.kan_model.specs.declared.nodes.GoalNode.TheVariants.{Succeed, Fail, Same, Differ, Symbol}
use Rattle.kan_model.specs.declared.nodes.GoalNode.TheVariants.{Number, Text, Absent, Both, Either}
use Rattle.kan_model.specs.declared.nodes.GoalNode.TheVariants.{Fresh, Later, Call}
use Rattle.kan_model.specs.declared.nodes.Relation.{Relation}
use Rattle.kan_model.specs.declared.nodes.Query.{Query}
use Rattle.kan_model.specs.declared.nodes.TermRow.{TermRow}
use Rattle.kan_model.specs.declared.nodes.GoalRow.{GoalRow}

abbrev pub term_entry : TermNode → TermEntry
term_entry (Slot i) = TermEntry.slot i
term_entry (Sym s) = TermEntry.sym s
term_entry (Str s) = TermEntry.str s
term_entry (Num n) = TermEntry.num n
term_entry (Truth b) = TermEntry.truth b
term_entry Nil = TermEntry.nil
term_entry (Pair a b) = TermEntry.pair a b

abbrev pub goal_entry : GoalNode → GoalEntry
goal_entry Succeed = GoalEntry.succeed
goal_entry Fail = GoalEntry.fail
goal_entry (Same a b) = GoalEntry.same a b
goal_entry (Differ a b) = GoalEntry.differ a b
goal_entry (Symbol a) = GoalEntry.symbol a
goal_entry (Number a) = GoalEntry.number a
goal_entry (Text a) = GoalEntry.text a
goal_entry (Absent tag a) = GoalEntry.absent tag a
goal_entry (Both g h) = GoalEntry.both g h
goal_entry (Either g h) = GoalEntry.either g h
goal_entry (Fresh k g) = GoalEntry.fresh k g
goal_entry (Later g) = GoalEntry.later g
goal_entry (Call r at k) = GoalEntry.call r at k

abbrev pub relation_entry : Relation → RelationEntry
relation_entry r = record { name = r.name; params = r.params; body = r.body }

-- the goal of a run, by its place
abbrev pub goal_place : Query → ℕ
goal_place q = q.goal

abbrev pub term_node : TermRow → TermNode
term_node row = row.node

abbrev pub goal_node : GoalRow → GoalNode
goal_node row = row.node

abbrev pub term_entries : List TermRow → List TermEntry
term_entries rows = map (λ row. term_entry row.node) rows

abbrev pub goal_entries : List GoalRow → List GoalEntry
goal_entries rows = map (λ row. goal_entry row.node) rows

-- the tables that rows stand for
abbrev pub tables_from : List TermRow → List ℕ → List GoalRow → List Relation → Tables
tables_from terms arguments goals relations = record {
  terms = term_entries terms;
  arguments = arguments;
  goals = goal_entries goals;
  relations = map relation_entry relations;
}
