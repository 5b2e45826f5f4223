use Rattle.std.proofs.Common.{◌≡◌, ◌++◌, map}
use Rattle.kan_terms.specs.Terms.{tree}
use Rattle.kan_model.specs.Streams.Running.{variables}
use Rattle.kan_model.specs.Programs.Environments.{terms_of}
use Rattle.kan_model.proofs.environment.Env.extend.Given as goal

abbrev pub invariant-loop-offset : goal.invariant-loop-offset
invariant-loop-offset l = map tree l.values.items ≡ terms_of l.fn.self ++ variables l.first l.offset
