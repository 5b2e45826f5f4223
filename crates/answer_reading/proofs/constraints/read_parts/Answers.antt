-- The constraints stand behind the term.
use Rattle.answer_reading.proofs.PartLaws.{parts_by, parts_known}
use Rattle.answer_reading.proofs.constraints.read_parts.Goals as goal

pub returns-clause-reads : goal.returns-clause-reads
returns-clause-reads c =
    parts_by c.read_term.new.names c.read_constraints.new.names c.args.line.now c.in_ok-term.rest.now c.behind.result.now c.in_ok-term.term c.read_constraints.result
    c.in_ok-term.ensures.reads c.read_constraints.ensures.table.goes_on c.behind.ensures c.read_constraints.ensures.term c.read_constraints.ensures.reads

pub returns-clause-known : goal.returns-clause-known
returns-clause-known c =
    parts_known c.read_term.new.names c.read_constraints.new.names c.in_ok-term.term c.read_constraints.result c.in_ok-term.ensures.known c.read_constraints.ensures.table.goes_on c.read_constraints.ensures.term c.read_constraints.ensures.known
