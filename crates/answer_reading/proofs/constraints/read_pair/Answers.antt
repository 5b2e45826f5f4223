-- A name, a space and a term stand between the brackets.
use Rattle.std.proofs.Common.{refl}
use Rattle.answer_reading.proofs.ListLaws.{pair_got}
use Rattle.answer_reading.proofs.constraints.read_pair.Goals as goal

pub returns-clause-reads : goal.returns-clause-reads
returns-clause-reads c =
    pair_got c.read_term.new.names c.args.bytes.now c.behind.result.now c.read_name-name.result.1.now c.behind-2.result.now c.in_ok-term.rest.now c.behind-3.result.now c.read_name-name.result.0 c.in_ok-term.term
    (record { name = c.read_name-name.result.0; term = c.in_ok-term.term }) c.behind.ensures c.read_name-name.ensures.reads c.behind-2.ensures c.in_ok-term.ensures.reads c.behind-3.ensures refl refl
