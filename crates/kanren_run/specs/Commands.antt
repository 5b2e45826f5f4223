-- The words of the call that runs without workers.
use Rattle.std.specs.Prelude.{ℕ, zero, suc, List, Option, Some, None, option_and_then}
use Rattle.command_line.specs.Lines.{Line, line}

-- a line that asks for no workers
abbrev pub if_alone : ℕ → Line → Option Line
if_alone zero l = Some l
if_alone (suc n) l = None

abbrev pub alone : Line → Option Line
alone l = if_alone l.workers l

-- the line that words are, where they are one that asks for no workers
abbrev pub line_alone : List (List ℕ) → Option Line
line_alone words = option_and_then alone (line words)
