-- The reasons for which a text is refused: the table of their numbers and names, and the line that
-- says so.
use Rattle.std.specs.Prelude.{ℕ, List, [], ◌∷◌, ◌++◌, codes}
use Rattle.std.specs.Fmt.{decimal}
use Rattle.kan_refusals.specs.declared.refusals.Refusal.{Refusal}
use Rattle.kan_refusals.specs.declared.refusals.Refusal.TheVariants.{NotUtf8, UnclosedList}
use Rattle.kan_refusals.specs.declared.refusals.Refusal.TheVariants.{StrayClose, BadToken, BadDot}
use Rattle.kan_refusals.specs.declared.refusals.Refusal.TheVariants.{TooDeep, NumberRange}
use Rattle.kan_refusals.specs.declared.refusals.Refusal.TheVariants.{ReservedName, UnknownForm}
use Rattle.kan_refusals.specs.declared.refusals.Refusal.TheVariants.{BadShape, UnboundName}
use Rattle.kan_refusals.specs.declared.refusals.Refusal.TheVariants.{UnknownRelation, WrongCount}
use Rattle.kan_refusals.specs.declared.refusals.Refusal.TheVariants.{DefinedTwice, BadTag}
use Rattle.kan_refusals.specs.declared.refusals.Refusal.TheVariants.{BadString}

-- the number of a refusal, and what it is called
pub record Entry : Type 0 where
  pub number : ℕ
  pub text : List ℕ

-- the table of refusals
abbrev pub entry : Refusal → Entry
entry NotUtf8 = record { number = 1; text = codes "not UTF-8" }
entry UnclosedList = record { number = 2; text = codes "list not closed" }
entry StrayClose = record { number = 3; text = codes "close without open" }
entry BadToken = record { number = 4; text = codes "bad token" }
entry BadDot = record { number = 5; text = codes "bad dot" }
entry TooDeep = record { number = 6; text = codes "too deep" }
entry NumberRange = record { number = 7; text = codes "number out of range" }
entry ReservedName = record { number = 8; text = codes "reserved name" }
entry UnknownForm = record { number = 9; text = codes "unknown form" }
entry BadShape = record { number = 10; text = codes "bad shape" }
entry UnboundName = record { number = 11; text = codes "unbound name" }
entry UnknownRelation = record { number = 12; text = codes "unknown relation" }
entry WrongCount = record { number = 13; text = codes "wrong number of arguments" }
entry DefinedTwice = record { number = 14; text = codes "defined twice" }
entry BadTag = record { number = 15; text = codes "tag is not a quoted symbol" }
entry BadString = record { number = 16; text = codes "bad string" }

abbrev pub number_of : Refusal → ℕ
number_of refusal = (entry refusal).number

abbrev pub text_of : Refusal → List ℕ
text_of refusal = (entry refusal).text

-- the one line of a refused text: the number of the refusal, the offset, and what it is called,
-- with numbers as a function writes them
abbrev pub line_with : (ℕ → List ℕ) → ℕ → Refusal → List ℕ
line_with digits at refusal =
    (codes "error " ++ digits (number_of refusal) ++ codes " at " ++ digits at ++ codes ": "
    ++ text_of refusal) ++ 10 ∷ []

-- the line as it is printed
abbrev pub error_line : ℕ → Refusal → List ℕ
error_line at refusal = line_with decimal at refusal
