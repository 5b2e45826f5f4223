-- Answers made from their parts.
use Rattle.std.specs.Prelude.{ℕ, List, map}
use Rattle.kan_model.specs.Answers.Answer as model
use Rattle.reify.specs.OverNames.{absence}
use Rattle.reify.specs.Shapes.{named_pair, tree_of}
use Rattle.reify.specs.declared.answers.Absence.{Absence}
use Rattle.reify.specs.declared.shaping.NamePair.{NamePair}
use Rattle.reify.specs.declared.shaping.Shape.{Shape}

-- the answer made from the shapes of its term, its disequalities, the names that stand for numbers,
-- for symbols and for strings, and its absences
abbrev pub answer_from : List Shape → List (List NamePair) → List ℕ → List ℕ → List ℕ →
    List Absence → model.Answer
answer_from term disequalities numbers symbols strings absences = record {
  term = tree_of term;
  disequalities = map (map named_pair) disequalities;
  numbers = numbers;
  symbols = symbols;
  strings = strings;
  absences = map absence absences;
}
