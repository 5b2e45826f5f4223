use Rattle.command_line.specs.Lines.{texts}
use Rattle.kanren_run.specs.Commands.{line_alone}
use Rattle.kanren_run.proofs.HeadlineLaws.{texts_mean}
use Rattle.kanren_run.proofs.top.kanren_over.Goals as goal

pub returns-in-Ok-clause-means : goal.returns-in-Ok-clause-means
returns-in-Ok-clause-means g c = texts_mean (line_alone (texts c.args.words.now))

pub returns-in-Err-Usage-clause-means : goal.returns-in-Err-Usage-clause-means
returns-in-Err-Usage-clause-means g c = texts_mean (line_alone (texts c.args.words.now))

pub returns-in-Err-Memory-clause-means : goal.returns-in-Err-Memory-clause-means
returns-in-Err-Memory-clause-means g c = texts_mean (line_alone (texts c.args.words.now))
