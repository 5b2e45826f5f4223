-- What the answers of the code stand for.
use Rattle.std.specs.Prelude.{ℕ, List}
use Rattle.std.specs.Borrow.{Bor}
use Rattle.kan_model.specs.Answers.Answer as model
use Rattle.reify.specs.Parts.{answer_from}
pub use Rattle.reify.specs.OverNames.{absence}
use Rattle.reify.specs.declared.answers.Answer.{Answer}

-- the same, where the names are lent
abbrev pub lent_absence : ℕ × Bor (List ℕ) → model.Absence
lent_absence lent = record { tag = lent.0; names = lent.1.now }

-- an answer of the code is that of its parts, whose shapes are read back as terms
abbrev pub meaning : Answer → model.Answer
meaning a =
    answer_from a.term a.disequalities.items a.numbers.items a.symbols.items a.strings.items
    a.absences.items
