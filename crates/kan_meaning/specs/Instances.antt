-- What the answer of a store means: its instances are the values of the query's variable.
use Rattle.std.specs.Prelude.{◌≡◌, ◌↔◌, ◌≤◌, true}
use Rattle.kan_terms.specs.Table.{Table}
use Rattle.kan_terms.specs.Tree.{Gd}
use Rattle.kan_model.specs.Answers.AnswerText.{answer_of}
use Rattle.kan_model.specs.Answers.Covers.{Covers}
use Rattle.kan_model.specs.Programs.Scope.{is_counted}
use Rattle.kan_model.specs.Stores.Kept.{is_kept}
use Rattle.kan_model.specs.Stores.Store.{Store}
use Rattle.pull_bounds.specs.Finding.{IsSolvedAt}

-- the answer of a kept store covers the values of variable 0 under the store's solutions
abbrev pub SolutionsAreCovered : Type 0
SolutionsAreCovered =
    (table : Table) (st : Store) (u : Gd) → is_kept st ≡ true → IsSolvedAt u st →
    Covers (answer_of table st) u

-- where the store's counter lies above its variables, these are exactly its instances
abbrev pub InstancesAreValues : Type 0
InstancesAreValues =
    (table : Table) (st : Store) (u : Gd) → is_kept st ≡ true → is_counted st ≡ true →
    1 ≤ st.counter → Covers (answer_of table st) u ↔ IsSolvedAt u st
