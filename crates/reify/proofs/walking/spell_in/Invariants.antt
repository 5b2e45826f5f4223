use Rattle.std.proofs.Common.{◌≡◌, ◌++◌, length}
use Rattle.kan_terms.specs.Terms.{tree}
use Rattle.kan_model.specs.Terms.Letters.{spelling}
use Rattle.kan_model.specs.Stores.Solve.{apply}
use Rattle.kan_model.specs.Stores.Calls.{replacement_of}
use Rattle.reify.specs.Walking.{waiting_under}
use Rattle.reify.proofs.walking.spell_in.Given as goal

-- what was written and what the waiting terms spell under the answer is what the term spells
abbrev pub invariant-loop-next : goal.invariant-loop-next
invariant-loop-next g l =
    l.letters.items ++ waiting_under (replacement_of (g.St.Store.meaning l.store)) l.waiting.items ≡ spelling (apply (replacement_of (g.St.Store.meaning l.store)) (tree l.term))

abbrev pub decreases-loop-next : goal.decreases-loop-next
decreases-loop-next g l = length (waiting_under (replacement_of (g.St.Store.meaning l.store)) l.waiting.items)
