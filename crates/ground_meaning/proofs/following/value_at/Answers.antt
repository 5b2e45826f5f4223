use Rattle.std.proofs.Common.{◌∙◌}
use Rattle.kan_terms.proofs.SpellingLaws.{spelling-same}
use Rattle.ground_meaning.specs.Values.{value_of}
use Rattle.ground_meaning.proofs.following.value_at.Goals as goal

pub returns : goal.returns
returns c = spelling-same c.made.result (value_of c.args.program.now c.args.values.now c.args.term) (c.made.ensures ∙ c.in_ok-marks.ensures)
