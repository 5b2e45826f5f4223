-- The lines of the command: what the words ask for.
use Rattle.std.specs.Prelude.{◌≡◌, ◌≤◌, ℕ, Bool, true, false, nat_le, ◌&&◌, ◌||◌, if◌then◌else◌}
use Rattle.std.specs.Prelude.{List, [], ◌∷◌, Option, Some, None, codes, bytes_eq}
use Rattle.std.specs.Prelude.{is_some, option_and_then, option_map}
use Rattle.std.specs.Borrow.{Bor}
use Rattle.std.specs.Str.Parse.{digits_value}
use Rattle.kan_grammar.specs.Data.Words.{all_digits}
use Rattle.kan_grammar.specs.declared.dialect.Dialect.{Dialect}
use Rattle.kan_grammar.specs.declared.dialect.Dialect.TheVariants.{Book, All}
use Rattle.command_line.specs.Parts.{Text, Part, setting, library, file, parts}
use Rattle.command_line.specs.Parts.{Setting, Workers, Fuel, Ahead, Round, Gen}
use Rattle.command_line.specs.Parts as named

-- what was given: the values of options, whether the library was, and the name of the file
pub record Given : Type 0 where
  pub workers : Option Text
  pub fuel : Option Text
  pub ahead : Option Text
  pub round : Option Text
  pub dialect : Option Text
  pub gen : Option Text
  pub lib : Bool
  pub file : Option Text

abbrev pub nothing_given : Given
nothing_given = record {
  workers = None;
  fuel = None;
  ahead = None;
  round = None;
  dialect = None;
  gen = None;
  lib = false;
  file = None;
}

-- what may be given once, and wasn't
abbrev pub once : Option Text → Given → Option Given
once None g = Some g
once (Some t) g = None

abbrev pub with_setting : Setting → Text → Given → Option Given
with_setting Workers v g = once g.workers (record g { workers = Some v })
with_setting Fuel v g = once g.fuel (record g { fuel = Some v })
with_setting Ahead v g = once g.ahead (record g { ahead = Some v })
with_setting Round v g = once g.round (record g { round = Some v })
with_setting named.Dialect v g = once g.dialect (record g { dialect = Some v })
with_setting Gen v g = once g.gen (record g { gen = Some v })

-- one part more, where it wasn't given before
abbrev pub with_given : Part → Given → Option Given
with_given (setting s v) g = with_setting s v g
with_given library g = if g.lib then None else Some (record g { lib = true })
with_given (file name) g = once g.file (record g { file = Some name })

-- all parts, each given once
abbrev pub all_given : Given → List Part → Option Given
all_given g [] = Some g
all_given g (p ∷ ps) = option_and_then (λ more. all_given more ps) (with_given p g)

abbrev pub values_given : List Text → Option Given
values_given words = option_and_then (all_given nothing_given) (parts words)

-- a number in a range
abbrev pub in_range : ℕ → ℕ → ℕ → Option ℕ
in_range low high n = if nat_le low n && nat_le n high then Some n else None

-- the number that a text is: one or more digits, and in the range
abbrev pub number_in : ℕ → ℕ → Text → Option ℕ
number_in low high [] = None
number_in low high (d ∷ ds) =
    if all_digits (d ∷ ds) then in_range low high (digits_value 10 (d ∷ ds)) else None

-- the number that is asked for
abbrev pub number_asked : ℕ → ℕ → ℕ → Option Text → Option ℕ
number_asked default low high None = Some default
number_asked default low high (Some text) = number_in low high text

-- the load that is asked for, if any
abbrev pub load_asked : Option Text → Option (Option ℕ)
load_asked None = Some None
load_asked (Some text) = option_map Some (number_in 0 400 text)

abbrev pub dialect_of : Text → Option Dialect
dialect_of text =
    if bytes_eq text (codes "book") then Some Book
    else if bytes_eq text (codes "all") then Some All else None

abbrev pub dialect_asked : Option Text → Option Dialect
dialect_asked None = Some Book
dialect_asked (Some text) = dialect_of text

-- the file of a name that isn't empty; the name of one dash stands for standard input
abbrev pub file_of : Text → Option (Option Text)
file_of [] = None
file_of (b ∷ bs) = if bytes_eq (b ∷ bs) (codes "-") then Some None else Some (Some (b ∷ bs))

-- the file that is asked for, where none means standard input; there is no name beside a load
abbrev pub file_asked : Bool → Option Text → Option (Option Text)
file_asked has_load None = Some None
file_asked true (Some name) = None
file_asked false (Some name) = file_of name

-- a line of the command
pub record Line : Type 0 where
  pub workers : ℕ
  pub fuel : ℕ
  pub ahead : ℕ
  pub round : ℕ
  pub library : Bool
  pub load : Option ℕ
  pub dialect : Dialect
  -- standard input, where it is none
  pub file : Option Text

-- the parts that are asked for, where all of them are there; a load uses the library
abbrev pub line_of : Option ℕ → Option ℕ → Option ℕ → Option ℕ → Bool → Option (Option ℕ)
    → Option Dialect → Option (Option Text) → Option Line
line_of (Some workers) (Some fuel) (Some ahead) (Some round) lib (Some load) (Some dialect)
    (Some place) = Some (record {
      workers = workers;
      fuel = fuel;
      ahead = ahead;
      round = round;
      library = lib || is_some load;
      load = load;
      dialect = dialect;
      file = place;
    })
line_of w f a r lib l d p = None

-- the line that is asked for
abbrev pub line_from_values : Given → Option Line
line_from_values g = line_of (number_asked 0 0 64 g.workers) (number_asked 100000 1 1000000 g.fuel)
    (number_asked 256 1 65536 g.ahead) (number_asked 8192 1 65536 g.round) g.lib
    (load_asked g.gen) (dialect_asked g.dialect) (file_asked (is_some g.gen) g.file)

-- the line of the command that words are, where they are one
unfoldable pub line : List Text → Option Line
line words = option_and_then line_from_values (values_given words)

-- what a line asks for lies in its range
pub record IsInRange (l : Line) : Type 0 where
  pub workers : l.workers ≤ 64
  pub some_fuel : 1 ≤ l.fuel
  pub fuel : l.fuel ≤ 1000000
  pub some_ahead : 1 ≤ l.ahead
  pub ahead : l.ahead ≤ 65536
  pub some_round : 1 ≤ l.round
  pub round : l.round ≤ 65536
  pub load : (number : ℕ) → l.load ≡ Some number → number ≤ 400
  -- a load stands behind the library
  pub library : is_some l.load ≡ true → l.library ≡ true

-- the words are a line of the command
abbrev pub is_line : List Text → Bool
is_line words = is_some (line words)

-- the texts of words that are lent
abbrev pub texts : List (Bor Text) → List Text
texts [] = []
texts (w ∷ ws) = w.now ∷ texts ws
