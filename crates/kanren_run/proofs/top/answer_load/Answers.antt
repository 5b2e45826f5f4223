use Rattle.std.proofs.Common.{rules}
use Rattle.kanren_run.proofs.LoadLaws.{load_not_refused}
use Rattle.kanren_run.proofs.top.answer_load.Goals as goal

pub returns-in-Ok-clause-accepted : goal.returns-in-Ok-clause-accepted
returns-in-Ok-clause-accepted g c =
    load_not_refused c.args.settings c.args.number (g.K.Sink.view c.args.sink.now) (g.K.Sink.view c.answer_text.new.sink) c.answer_text.result c.requires.number c.requires.library (search rules)
