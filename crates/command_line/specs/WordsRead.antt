-- What reading the words answers.
use Rattle.std.specs.Prelude.{◌≡◌, Option, Some, None, Result, Ok, Err}
use Rattle.command_line.specs.Lines as lines
use Rattle.command_line.specs.CodeValues.{text_of}
use Rattle.command_line.specs.declared.options.Line.{Line}
use Rattle.command_line.specs.declared.options.Options.{Options}
use Rattle.command_line.specs.declared.fault.WordsFault.{WordsFault}
use Rattle.command_line.specs.declared.fault.WordsFault.TheVariants.{Usage, Memory}

abbrev pub line_seen : Line → lines.Line
line_seen l = record {
  workers = l.workers;
  fuel = l.fuel;
  ahead = l.ahead;
  round = l.round;
  library = l.library;
  load = l.load;
  dialect = l.dialect;
  file = text_of l.file;
}

-- the line that options are
abbrev pub line_asked : Options → lines.Line
line_asked o = record {
  workers = o.workers;
  fuel = o.fuel;
  ahead = o.ahead;
  round = o.round;
  library = o.library;
  load = o.load;
  dialect = o.dialect;
  file = o.file;
}

-- the options are those of the line, and there is a fault of usage where there is no line; want of
-- memory says nothing
abbrev pub Reads : Option lines.Line → Result Options WordsFault → Type 0
Reads line (Ok options) = line ≡ Some (line_asked options)
Reads line (Err Usage) = line ≡ None
Reads line (Err Memory) = Unit {0}

-- the same of the line as the code has it first
abbrev pub FindsLine : Option lines.Line → Result Line WordsFault → Type 0
FindsLine line (Ok l) = line ≡ Some (line_seen l)
FindsLine line (Err Usage) = line ≡ None
FindsLine line (Err Memory) = Unit {0}
