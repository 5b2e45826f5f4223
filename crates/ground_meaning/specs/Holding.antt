-- Which goals of the table hold by themselves at slot values.
use Rattle.std.specs.Prelude.{Bool, true, false, List}
use Rattle.kan_terms.specs.Tree.{Gd}
use Rattle.kan_model.specs.Meaning.Holds.{holds_at}
use Rattle.kan_model.specs.Programs.Goals.{Template, Primitive}
use Rattle.kan_model.specs.Programs.Tables.{GoalEntry, template_at}

-- the entry is a primitive that holds, or the goal that always does
abbrev pub node_holds : List Template → List Gd → GoalEntry → Bool
node_holds ts us GoalEntry.succeed = true
node_holds ts us (GoalEntry.same a b) =
    holds_at us (Primitive.same (template_at ts a) (template_at ts b))
node_holds ts us (GoalEntry.differ a b) =
    holds_at us (Primitive.differ (template_at ts a) (template_at ts b))
node_holds ts us (GoalEntry.symbol a) = holds_at us (Primitive.symbol (template_at ts a))
node_holds ts us (GoalEntry.number a) = holds_at us (Primitive.number (template_at ts a))
node_holds ts us (GoalEntry.text a) = holds_at us (Primitive.text (template_at ts a))
node_holds ts us (GoalEntry.absent tag a) = holds_at us (Primitive.absent tag (template_at ts a))
node_holds ts us _ = false
