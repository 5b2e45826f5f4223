-- The token is the atom's.
use Rattle.std.proofs.Common.{ap}
use Rattle.sexpr.specs.Meaning.{token_of}
use Rattle.sexpr.proofs.FrameLaws.{on_ok}
use Rattle.sexpr.proofs.ReadLaws.{takes_same}
use Rattle.sexpr.proofs.reader.take.Goals as goal

pub returns-in-Atom-clause-taken : goal.returns-in-Atom-clause-taken
returns-in-Atom-clause-taken c = on_ok c.take_atom.result (λ taken. takes_same c.take_atom.new.names c.args.enclosing.now c.take_atom.new.enclosing c.args.at _ _ (ap token_of c.in-Atom.is) taken) c.take_atom.ensures.taken
