use Rattle.std.proofs.Common.{◌≡◌, ◌++◌, map, take, string_bytes}
use Rattle.std.specs.List.{flat_map}
use Rattle.kan_model.specs.Answers.AnswerText.{absence_text}
use Rattle.reify.specs.Meaning.{absence}
use Rattle.reify.specs.Constraints.{behind_space}
use Rattle.reify.proofs.constraints.print_absences.Given as goal

abbrev pub invariant-loop-kept : goal.invariant-loop-kept
invariant-loop-kept l = string_bytes l.text ≡ string_bytes l.initial.text ++ flat_map behind_space (map (absence_text l.names) (map absence (take l.kept-index l.absences)))
