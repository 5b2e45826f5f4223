-- The word at the front is the name.
use Rattle.std.proofs.Common.{◌∙◌}
use Rattle.term_reading.proofs.ShapeLaws.{cut_all, name_got}
use Rattle.answer_reading.proofs.constraints.read_name.Goals as goal

pub returns-clause-reads : goal.returns-clause-reads
returns-clause-reads c = λ n more low over is.
    let got = name_got n c.args.bytes.now more c.front_length-length.result low over is c.front_length-length.ensures.count in
    (c.name_number.ensures n low got.0, cut_all c.args.bytes.now c.front_length-length.result c.front_length-length.ensures.within ∙ got.1)
