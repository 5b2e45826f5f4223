-- What is written for a program and its runs: a line for each answer, and after each run its
-- summary line.
use Rattle.std.specs.Prelude.{ℕ, List, [], ◌∷◌, ◌++◌, length, codes}
use Rattle.std.specs.List.{flat_map}
use Rattle.kan_model.specs.Programs.Goals.{Program, Query}
use Rattle.kan_model.specs.Stores.Store.{Store}
use Rattle.kan_model.specs.Streams.Taking.{Ending, Taken, take_query}
use Rattle.kan_terms.specs.Table.{Table}
use Rattle.kan_model.specs.Answers.Decimals.{decimal_text}
use Rattle.kan_model.specs.Answers.AnswerText.{answer_of, answer_text}

-- a text with the line feed that ends it
abbrev pub line : List ℕ → List ℕ
line text = text ++ 10 ∷ []

abbrev pub answer_line : Table → Store → List ℕ
answer_line table st = line (answer_text table (answer_of table st))

abbrev pub ending_text : Ending → List ℕ
ending_text Ending.end = codes "end"
ending_text Ending.limit = codes "limit"
ending_text Ending.fuel = codes "fuel"

-- how many answers a run gave, how many pulls that took, and how it ended
abbrev pub summary_line : ℕ → ℕ → Ending → List ℕ
summary_line answers pulls ending =
    line (codes "; " ++ decimal_text answers ++ codes " answers, " ++ decimal_text pulls
    ++ codes " pulls, " ++ ending_text ending)

abbrev pub taken_text : Table → Taken → List ℕ
taken_text table t =
    flat_map (answer_line table) t.stores ++ summary_line (length t.stores) t.pulls t.ending

-- the output of runs at a fuel, run after run
abbrev pub runs_output : Table → Program → ℕ → List Query → List ℕ
runs_output table program fuel = flat_map (λ q. taken_text table (take_query program fuel q))
