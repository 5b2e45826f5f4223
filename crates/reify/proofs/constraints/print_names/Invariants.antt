use Rattle.std.proofs.Common.{◌≡◌, ◌++◌, map, take, string_bytes}
use Rattle.kan_model.specs.Answers.Text.{name_text, with_spaces}
use Rattle.reify.proofs.constraints.print_names.Given as goal

abbrev pub invariant-loop-at : goal.invariant-loop-at
invariant-loop-at l = string_bytes l.text ≡ string_bytes l.initial.text ++ with_spaces (map name_text (take l.at l.listed))
