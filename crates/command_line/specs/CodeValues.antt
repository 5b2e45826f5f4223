-- What the values of the code stand for.
use Rattle.std.specs.Prelude.{◌≡◌, Option, Some, None, option_map, Result, Ok, Err}
use Rattle.std.specs.Borrow.{Bor}
use Rattle.clap.specs.declared.error.kind.ErrorKind.{ErrorKind}
use Rattle.clap.specs.declared.error.kind.ErrorKind.TheVariants.{OutOfMemory}
use Rattle.command_line.specs.Parts.{Text}
use Rattle.command_line.specs.Lines as lines
use Rattle.command_line.specs.declared.given.Given.{Given}
use Rattle.command_line.specs.declared.fault.WordsFault.{WordsFault}
use Rattle.command_line.specs.declared.fault.WordsFault.TheVariants.{Usage, Memory}

-- the text of a word that is lent, if there is one
abbrev pub text_of : Option (Bor Text) → Option Text
text_of word = option_map (λ w. w.now) word

abbrev pub given_of : Given → lines.Given
given_of g = record {
  workers = text_of g.workers;
  fuel = text_of g.fuel;
  ahead = text_of g.ahead;
  round = text_of g.round;
  dialect = text_of g.dialect;
  gen = text_of g.load;
  lib = g.lib;
  file = text_of g.file;
}

-- what the words give, or a fault of usage where they give nothing; want of memory says nothing
abbrev pub Gives : Option lines.Given → Result Given WordsFault → Type 0
Gives given (Ok g) = given ≡ Some (given_of g)
Gives given (Err Usage) = given ≡ None
Gives given (Err Memory) = Unit {0}

-- the fault that an error of clap is
abbrev pub words_fault : ErrorKind → WordsFault
words_fault OutOfMemory = Memory
words_fault kind = Usage
