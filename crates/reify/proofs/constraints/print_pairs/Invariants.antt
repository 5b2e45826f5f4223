use Rattle.std.proofs.Common.{◌≡◌, ◌++◌, map, take, string_bytes}
use Rattle.kan_model.specs.Answers.Text.{with_spaces}
use Rattle.kan_model.specs.Answers.AnswerText.{pair_text}
use Rattle.reify.specs.Shapes.{named_pair}
use Rattle.reify.proofs.constraints.print_pairs.Given as goal

abbrev pub invariant-loop-at : goal.invariant-loop-at
invariant-loop-at l = string_bytes l.text ≡ string_bytes l.initial.text ++ with_spaces (map (pair_text l.names) (map named_pair (take l.at l.pairs)))
