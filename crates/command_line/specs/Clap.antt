-- The command as clap is told it.
use Rattle.std.specs.Prelude.{true, List, [], ◌∷◌, Some, codes}
use Rattle.std.specs.Str.{IsUtf8}
use Rattle.clap.specs.Walk.{Rule, Row, Text, first_of, has_row}
use Rattle.command_line.specs.Lines.{Given}
use Rattle.clap.specs.Simple.{App, new_app, new_rule, with_rule}
use Rattle.clap.specs.declared.builder.action.ArgAction.TheVariants.{Set}

-- an option with a value, the option for the library, and the file, as they are declared
abbrev pub option_rule : Text → Rule
option_rule name = record (new_rule name) { long = Some name; action = Some Set }

abbrev pub library_rule : Rule
library_rule = record (new_rule (codes "lib")) {
  long = Some (codes "lib");
  action = Some Set;
  range = Some (record { start_inclusive = 0; end_inclusive = 0 });
  missing = codes "true" ∷ [];
}

abbrev pub file_rule : Rule
file_rule = record (new_rule (codes "file")) { action = Some Set }

abbrev pub bare_app : App
bare_app = record (new_app (codes "kanren")) {
  top = record (new_app (codes "kanren")).top { no_binary_name = true; disable_help_flag = true };
}

-- with the options that take numbers and are none of a load, and with all that take a value
abbrev pub numbers_app : App
numbers_app = with_rule (with_rule (with_rule (with_rule bare_app
    (option_rule (codes "workers"))) (option_rule (codes "fuel")))
    (option_rule (codes "ahead"))) (option_rule (codes "round"))

abbrev pub values_app : App
values_app = with_rule (with_rule numbers_app
    (option_rule (codes "dialect"))) (option_rule (codes "gen"))

-- with the option for the library, and the file
abbrev pub app : App
app = with_rule (with_rule values_app library_rule) file_rule

-- what was given, by the rows of clap's matches
abbrev pub given_in : List Row → Given
given_in rows = record {
  workers = first_of (codes "workers") rows;
  fuel = first_of (codes "fuel") rows;
  ahead = first_of (codes "ahead") rows;
  round = first_of (codes "round") rows;
  dialect = first_of (codes "dialect") rows;
  gen = first_of (codes "gen") rows;
  lib = has_row (codes "lib") rows;
  file = first_of (codes "file") rows;
}

-- each word is text
abbrev pub AreUtf8 : List Text → Type 0
AreUtf8 [] = Unit {0}
AreUtf8 (w ∷ ws) = IsUtf8 w × AreUtf8 ws
