use Rattle.std.proofs.Common.{◌≡◌, map, take}
use Rattle.ground_meaning.specs.Values.{value_of}
use Rattle.ground_meaning.proofs.following.argument_values.Given as goal

-- the values of so many templates
abbrev pub invariant-loop-term : goal.invariant-loop-term
invariant-loop-term l = l.all ≡ map (value_of l.program l.values) (take l.term-index l.arguments)
