use Rattle.std.proofs.Common.{◌≡◌, ◌++◌, length, map}
use Rattle.kan_model.specs.Terms.Letters.{spelling}
use Rattle.kan_model.specs.Streams.Running.{instance}
use Rattle.kan_model.specs.Terms.Flat.{letters_waiting}
use Rattle.kan_model.specs.Programs.Closed as programs
use Rattle.kan_model.specs.Programs.Environments.{terms_of}
use Rattle.kan_model.proofs.environment.Env.spelled.Given as goal

-- what was written and what the waiting templates spell is what the template's term spells
abbrev pub invariant-loop-next : goal.invariant-loop-next
invariant-loop-next l =
    l.letters.items ++ letters_waiting (map (λ at. instance (terms_of l.self) (programs.template l.program at)) l.waiting.items)
    ≡ spelling (instance (terms_of l.self) (programs.template l.program l.term))

abbrev pub decreases-loop-next : goal.decreases-loop-next
decreases-loop-next l = length (letters_waiting (map (λ at. instance (terms_of l.self) (programs.template l.program at)) l.waiting.items))
