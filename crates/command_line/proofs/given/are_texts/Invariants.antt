-- All are text where those that are left are.
use Rattle.std.proofs.Common.{drop}
use Rattle.command_line.specs.Clap.{AreUtf8}
use Rattle.command_line.specs.Lines.{texts}
use Rattle.command_line.proofs.given.are_texts.Given as goal

abbrev pub invariant-loop-word : goal.invariant-loop-word
invariant-loop-word l = AreUtf8 (texts (drop l.word-index l.words)) → AreUtf8 (texts l.words)
