-- What the answers of an accepted text mean.
use Rattle.std.specs.Prelude.{◌≡◌, ◌⊎◌, ◌↔◌, ℕ, true, List, [], ◌∷◌, Contains, Option, Some, None}
use Rattle.std.specs.Prelude.{⊤}
use Rattle.kan_terms.specs.Table.{Table}
use Rattle.kan_terms.specs.Tree.{Gd}
use Rattle.kan_model.specs.Answers.AnswerText.{answer_of}
use Rattle.kan_model.specs.Answers.Covers.{Covers}
use Rattle.kan_model.specs.Meaning.Derivations.{Derivation, derives, IsRunSolution}
use Rattle.kan_model.specs.Programs.Goals.{Program, Query}
use Rattle.kan_model.specs.Stores.Store.{Store}
use Rattle.kan_model.specs.Streams.Pulls.{pulls_for}
use Rattle.kan_model.specs.Streams.Taking.{Ending, take_query}
use Rattle.kan_grammar.specs.Texts.Reply.{Reply}
use Rattle.kan_meaning.specs.Answers.{IsCovered}
use Rattle.pull_bounds.specs.Finding.{IsCutBefore}
use Rattle.kanren_run.specs.Answers.{reply_to}
use Rattle.kanren_run.specs.Settings.{settings_of}
use Rattle.kanren_run.specs.declared.settings.Settings.{Settings}
use Rattle.command_line.specs.Lines.{Line}

-- What the answers of a run mean, of which each is written on a line of its own: the answer of a
-- store that is taken. Each ground term that one of them covers is a
-- solution of the run. Each solution is covered by one of them, or the run met its limit of
-- answers, or it spent a fuel below the pulls of the solution's derivation.
-- A run that came to its end covers exactly its solutions.
pub record RunMeans (table : Table) (program : Program) (fuel : ℕ) (q : Query) : Type 0 where
  pub sound : (st : Store) (u : Gd) → Contains (take_query program fuel q).stores st →
      Covers (answer_of table st) u → IsRunSolution program q.goal u
  pub none_missed : (u : Gd) (d : Derivation) → derives program q.goal (u ∷ []) d ≡ true →
      IsCovered table (take_query program fuel q).stores u
      ⊎ IsCutBefore (pulls_for program q.goal d) fuel (take_query program fuel q).ending
  pub all_at_end : (u : Gd) → (take_query program fuel q).ending ≡ Ending.end →
      IsCovered table (take_query program fuel q).stores u ↔ IsRunSolution program q.goal u

-- so for each run of a text that is accepted
abbrev pub TextMeans : Settings → List ℕ → Type 0
TextMeans s text =
    (table : Table) (program : Program) (queries : List Query) → reply_to s text
    ≡ Reply.accepted table program queries →
    (q : Query) → Contains queries q → RunMeans table program s.fuel q

-- and of every text, under the settings of the line that words are
abbrev pub TextsMean : Option Line → Type 0
TextsMean None = ⊤
TextsMean (Some l) = (text : List ℕ) → TextMeans (settings_of l) text
