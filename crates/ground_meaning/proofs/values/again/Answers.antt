use Rattle.std.proofs.Common.{ap, ◌∙◌, ◌++◌}
use Rattle.kan_terms.proofs.SpellingLaws.{spelling-same}
use Rattle.ground_meaning.proofs.values.again.Goals as goal

pub returns : goal.returns
returns c =
    spelling-same c.made.result c.args.term.now
    (c.made.ensures ∙ c.in_ok-extend_from_slice.ensures.items ∙ ap (λ l. l ++ c.marks.result.now) c.new-marks.ensures.items ∙ c.marks.ensures)
