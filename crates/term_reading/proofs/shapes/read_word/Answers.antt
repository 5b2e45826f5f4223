-- The word at the front is that of the shape.
use Rattle.std.proofs.Common.{◌∙◌}
use Rattle.term_reading.proofs.ShapeLaws.{cut_all, word_got}
use Rattle.term_reading.proofs.shapes.read_word.Goals as goal

pub returns-clause-reads : goal.returns-clause-reads
returns-clause-reads c = λ table on x more worded fine over is.
    let got = word_got table x c.args.bytes.now more c.front_length-length.result on.spelled worded fine over is c.front_length-length.ensures.count in
    (c.in_ok-shape.ensures.reads table on x worded fine got.0, cut_all c.args.bytes.now c.front_length-length.result c.front_length-length.ensures.within ∙ got.1)
