-- An atom is put where a datum may begin.
use Rattle.sexpr.proofs.FrameLaws.{on_ok, takes_single}
use Rattle.sexpr.proofs.enclosing.Enclosing.take_single.Goals as goal

pub returns-clause-taken : goal.returns-clause-taken
returns-clause-taken c = on_ok c.put.result (λ p names a allowed w. takes_single names c.args.self.now c.put.new.self c.args.at a (record { at = c.args.at; kind = c.args.kind }) c.requires c.in_ok-may_begin.ensures.place c.in_ok-may_begin.ensures.depth allowed w (p names)) c.put.ensures.around
