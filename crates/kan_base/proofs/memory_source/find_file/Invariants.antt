use Rattle.std.proofs.Common.{◌≡◌, drop}
use Rattle.kan_base.specs.InMemory.{file_of}
use Rattle.kan_base.specs.Files.{all_named}
use Rattle.kan_base.proofs.memory_source.find_file.Given as goal

-- no file before this place has the name
abbrev pub invariant-loop-at : goal.invariant-loop-at
invariant-loop-at l = file_of l.name (all_named (drop l.at l.files)) ≡ file_of l.name (all_named l.files)
