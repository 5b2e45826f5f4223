-- Goals whose tags have names.
use Rattle.std.specs.Prelude.{ℕ, Bool, true, ◌&&◌, nat_lt, length}
use Rattle.kan_terms.specs.Table.{Table}
use Rattle.kan_model.specs.Programs.Goals.{Primitive, Goal, Relation, Query}

-- the number of a symbol is that of a name in a table
abbrev pub has_name : Table → ℕ → Bool
has_name table symbol = nat_lt symbol (length table.symbols)

-- the tag of a primitive has a name, where it has one
abbrev pub is_named : {X : Type 0} → Table → Primitive X → Bool
is_named table (Primitive.absent tag a) = has_name table tag
is_named table p = true

-- all tags in a goal have names
abbrev pub are_named : Table → Goal → Bool
are_named table (Goal.prim p) = is_named table p
are_named table Goal.succeed = true
are_named table Goal.fail = true
are_named table (Goal.both g h) = are_named table g && are_named table h
are_named table (Goal.either g h) = are_named table g && are_named table h
are_named table (Goal.fresh k g) = are_named table g
are_named table (Goal.later g) = are_named table g
are_named table (Goal.call r args) = true

-- those in the body of a relation, and in the goal of a run
abbrev pub is_body_named : Table → Relation → Bool
is_body_named table r = are_named table r.body

abbrev pub is_query_named : Table → Query → Bool
is_query_named table q = are_named table q.goal
