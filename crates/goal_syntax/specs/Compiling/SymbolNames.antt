-- Programs whose symbols have names.
use Rattle.std.specs.Prelude.{ℕ, Bool, true, ◌&&◌, is_some}
use Rattle.std.specs.List.{list_all}
use Rattle.kan_terms.specs.Table.{name_of, Table}
use Rattle.kan_model.specs.Programs.Tables.{TermEntry, GoalEntry, RelationEntry, Tables}

-- a symbol has a name in a table
abbrev pub has_name : Table → ℕ → Bool
has_name names s = is_some (name_of names.symbols s)

-- a string has a text in it
abbrev pub has_text : Table → ℕ → Bool
has_text names s = is_some (name_of names.strings s)

-- the symbol of a template has one, and its string a text, and the tag of a goal, and the name of a
-- relation
abbrev pub is_term_named : Table → TermEntry → Bool
is_term_named names (TermEntry.sym s) = has_name names s
is_term_named names (TermEntry.str s) = has_text names s
is_term_named names e = true

abbrev pub is_goal_named : Table → GoalEntry → Bool
is_goal_named names (GoalEntry.absent tag a) = has_name names tag
is_goal_named names e = true

abbrev pub is_relation_named : Table → RelationEntry → Bool
is_relation_named names r = has_name names r.name

-- all symbols in the tables of a program have names
abbrev pub are_named : Table → Tables → Bool
are_named names ts =
    list_all (is_term_named names) ts.terms && list_all (is_goal_named names) ts.goals
    && list_all (is_relation_named names) ts.relations
