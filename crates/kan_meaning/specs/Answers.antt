-- What the answers mean that a run gives: what they cover are solutions of the run, and no solution
-- is left uncovered but for a limit or the fuel.
use Rattle.std.specs.Prelude.{◌≡◌, ◌⊎◌, ◌↔◌, ℕ, true, List, [], ◌∷◌, Any, Contains}
use Rattle.kan_terms.specs.Table.{Table}
use Rattle.kan_terms.specs.Tree.{Gd}
use Rattle.kan_model.specs.Answers.AnswerText.{answer_of}
use Rattle.kan_model.specs.Answers.Covers.{Covers}
use Rattle.kan_model.specs.Meaning.Derivations.{Derivation, derives, IsRunSolution}
use Rattle.kan_model.specs.Programs.Goals.{Program, Query}
use Rattle.kan_model.specs.Stores.Store.{Store}
use Rattle.kan_model.specs.Streams.Pulls.{pulls_for}
use Rattle.kan_model.specs.Streams.Taking.{Ending, take_query}
use Rattle.pull_bounds.specs.Finding.{IsCutBefore}

-- each ground term that an answer of a run covers is a solution of the run
abbrev pub AnswersAreSolutions : Type 0
AnswersAreSolutions =
    (program : Program) (q : Query) (fuel : ℕ) (table : Table) (st : Store) (u : Gd) →
    Contains (take_query program fuel q).stores st → Covers (answer_of table st) u →
    IsRunSolution program q.goal u

-- the answer of one of the stores covers a ground term
abbrev pub IsCovered : Table → List Store → Gd → Type 0
IsCovered table sts u = Any (λ st. Covers (answer_of table st) u) sts

-- each solution is covered, but for the limit of answers, or for a fuel below its derivation's
-- pulls
abbrev pub SolutionsAreAnswered : Type 0
SolutionsAreAnswered =
    (program : Program) (q : Query) (fuel : ℕ) (table : Table) (u : Gd) (d : Derivation) →
    derives program q.goal (u ∷ []) d ≡ true →
    IsCovered table (take_query program fuel q).stores u
    ⊎ IsCutBefore (pulls_for program q.goal d) fuel (take_query program fuel q).ending

-- the answers of a run that comes to its end cover exactly its solutions
abbrev pub EndCoversAll : Type 0
EndCoversAll =
    (program : Program) (q : Query) (fuel : ℕ) (table : Table) (u : Gd) →
    (take_query program fuel q).ending ≡ Ending.end →
    IsCovered table (take_query program fuel q).stores u ↔ IsRunSolution program q.goal u
