-- What a text is answered with: the library in front of it, its dialect and the fuel of its runs.
use Rattle.std.specs.Prelude.{◌≤◌, ℕ, Bool, true, false, List, []}
use Rattle.rel_library.specs.Library.{library}
use Rattle.command_line.specs.Lines.{Line}
use Rattle.kanren_run.specs.declared.settings.Settings.{Settings}

-- the bytes that stand in front of a text
abbrev pub library_before : Bool → List ℕ
library_before true = library
library_before false = []

-- the settings that a line of the command asks for
abbrev pub settings_of : Line → Settings
settings_of l = record { library = l.library; dialect = l.dialect; fuel = l.fuel; round = l.round }

-- a fuel and a round are in their ranges
pub record InRange (s : Settings) : Type 0 where
  pub some_fuel : 1 ≤ s.fuel
  pub fuel : s.fuel ≤ 1000000
  pub some_round : 1 ≤ s.round
  pub round : s.round ≤ 65536

-- settings, as clauses name them
abbrev pub Answering : Type 0
Answering = Settings
