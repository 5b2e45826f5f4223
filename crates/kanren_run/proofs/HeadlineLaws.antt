-- What the answers of an accepted text mean.
use Rattle.std.specs.Prelude.{ℕ, List, Option, Some, None}
use Rattle.command_line.specs.Lines.{Line}
use Rattle.kan_meaning.proofs.RunAnswers.{answers_are_solutions, solutions_are_answered, end_covers_all}
use Rattle.kanren_run.specs.Headline.{TextMeans, TextsMean}
use Rattle.kanren_run.specs.Settings.{settings_of}
use Rattle.kanren_run.specs.declared.settings.Settings.{Settings}

text_means : (s : Settings) (text : List ℕ) → TextMeans s text
text_means s text table program queries accepted q there = record {
  sound = λ st u taken covers. answers_are_solutions program q s.fuel table st u taken covers;
  none_missed = λ u d derived. solutions_are_answered program q s.fuel table u d derived;
  all_at_end = λ u ended. end_covers_all program q s.fuel table u ended;
}

pub texts_mean : (l : Option Line) → TextsMean l
texts_mean None = tt
texts_mean (Some l) = λ text. text_means (settings_of l) text
