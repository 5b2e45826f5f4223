use Rattle.std.proofs.Common.{◌≡◌, eqb, take}
use Rattle.kan_model.specs.Answers.Order.{each_once}
use Rattle.reify.specs.Naming.{variables_of}
use Rattle.reify.proofs.naming.Naming.of.Given as goal

abbrev pub invariant-loop-letter : goal.invariant-loop-letter
invariant-loop-letter l = l.naming ≡ each_once eqb (variables_of (take l.letter-index l.letters))
