use Rattle.command_line.specs.WordsRead.{line_seen}
use Rattle.command_line.specs.Lines.{texts}
use Rattle.command_line.proofs.RangeLaws.{asked_in_its_range}
use Rattle.command_line.proofs.options.read_words.Goals as goal

pub returns-in-Ok-clause-range : goal.returns-in-Ok-clause-range
returns-in-Ok-clause-range c = asked_in_its_range (texts c.args.words.now) (line_seen c.in-Ok.line) c.options_of.result c.in-Ok.ensures c.options_of.ensures
