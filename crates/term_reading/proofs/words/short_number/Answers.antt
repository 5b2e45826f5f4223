-- The number of a name is read back.
use Rattle.term_reading.proofs.WordLaws.{ok_err, ok_same, short_read}
use Rattle.term_reading.proofs.words.short_number.Goals as goal

pub returns-in-Ok : goal.returns-in-Ok
returns-in-Ok c = λ n low is. ok_same c.parse.result _ n c.in-Ok.is (short_read n c.args.digits.now c.parse.result low is c.parse.ensures.value.0)

pub returns-in-Err : goal.returns-in-Err
returns-in-Err c = λ n low is. absurd (ok_err c.parse.result _ n c.in-Err.is (short_read n c.args.digits.now c.parse.result low is c.parse.ensures.value.0))
