-- A number is read back.
use Rattle.term_reading.proofs.WordLaws.{num_same, number_read, ok_err, ok_same}
use Rattle.term_reading.proofs.words.long_number.Goals as goal

pub returns-in-Ok-clause-reads : goal.returns-in-Ok-clause-reads
returns-in-Ok-clause-reads c = λ z range is. num_same _ z (ok_same c.parse.result _ z c.in-Ok.is (number_read z c.args.digits.now c.parse.result range is c.parse.ensures.value.0)) range

pub returns-in-Err-clause-reads : goal.returns-in-Err-clause-reads
returns-in-Err-clause-reads c = λ z range is. absurd (ok_err c.parse.result _ z c.in-Err.is (number_read z c.args.digits.now c.parse.result range is c.parse.ensures.value.0))
