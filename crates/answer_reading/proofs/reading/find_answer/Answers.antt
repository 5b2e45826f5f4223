-- The parts of the line are checked.
use Rattle.answer_reading.proofs.FoundLaws.{finds, is_found}
use Rattle.term_reading.proofs.WordLaws.{if_ok}
use Rattle.answer_reading.proofs.reading.find_answer.Goals as goal

pub returns-clause-found : goal.returns-clause-found
returns-clause-found c = if_ok c.checked.result (λ found checks. is_found c.read_parts.new.names c.args.line.now c.in_ok-parts.parts found c.in_ok-parts.ensures.known checks) c.checked.ensures

pub returns-clause-finds : goal.returns-clause-finds
returns-clause-finds c =
    if_ok c.checked.result (λ found checks. finds c.read_parts.new.names c.args.line.now c.in_ok-parts.parts found c.requires.size c.in_ok-parts.ensures.reads c.in_ok-parts.ensures.known checks) c.checked.ensures
