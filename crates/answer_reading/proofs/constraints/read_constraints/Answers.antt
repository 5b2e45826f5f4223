-- The constraints stand behind one another.
use Rattle.std.proofs.Common.{refl, map, ap₂}
use Rattle.std.specs.Prelude.{◌&&◌}
use Rattle.reify.specs.Meaning.{absence}
use Rattle.answer_reading.proofs.KnownLaws.{differences_further}
use Rattle.answer_reading.proofs.PartLaws.{constraints_got}
use Rattle.answer_reading.proofs.constraints.read_constraints.Goals as goal

pub returns-clause-reads : goal.returns-clause-reads
returns-clause-reads c =
    constraints_got c.read_differences.new.names c.read_absences.new.names c.args.bytes.now c.in_ok-disequalities.rest.now c.in_ok-kinds.rest.now c.in_ok-disequalities.disequalities.items c.in_ok-kinds.kinds
    (map absence c.in_ok-absences.absences.items) (record { term = c.args.term; disequalities = c.in_ok-disequalities.disequalities; kinds = c.in_ok-kinds.kinds; absences = c.in_ok-absences.absences })
    c.in_ok-disequalities.ensures.reads c.in_ok-absences.ensures.table.goes_on c.in_ok-kinds.ensures.reads c.in_ok-absences.ensures.reads refl refl refl

pub returns-clause-known : goal.returns-clause-known
returns-clause-known c =
    ap₂ (λ x y. x && y) (differences_further c.read_differences.new.names c.read_absences.new.names c.in_ok-absences.ensures.table.goes_on c.in_ok-disequalities.disequalities.items c.in_ok-disequalities.ensures.known) c.in_ok-absences.ensures.known
