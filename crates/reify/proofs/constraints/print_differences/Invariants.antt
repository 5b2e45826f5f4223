use Rattle.std.proofs.Common.{◌≡◌, ◌++◌, map, take, string_bytes}
use Rattle.std.specs.List.{flat_map}
use Rattle.kan_model.specs.Answers.AnswerText.{difference_text}
use Rattle.reify.specs.Shapes.{named_pair}
use Rattle.reify.specs.Constraints.{behind_space}
use Rattle.reify.proofs.constraints.print_differences.Given as goal

abbrev pub invariant-loop-pairs : goal.invariant-loop-pairs
invariant-loop-pairs l = string_bytes l.text ≡ string_bytes l.initial.text ++ flat_map behind_space (map (difference_text l.names) (map (map named_pair) (take l.pairs-index l.disequalities)))
