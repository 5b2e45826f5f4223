-- The line of a refusal is the one that is printed.
use Rattle.std.proofs.Common.{◌≡◌, ◌<◌, ◌^◌, ℕ, ◌∷◌, [], ◌++◌, codes, ap₂, arith}
use Rattle.kan_model.proofs.Answering.DecimalLaws.{decimal_as_printed}
use Rattle.kan_refusals.specs.Refusals.{error_line, number_of, text_of}
use Rattle.kan_refusals.specs.declared.refusals.Refusal.{Refusal}
use Rattle.kan_refusals.specs.declared.refusals.Refusal.TheVariants.{NotUtf8, UnclosedList, StrayClose, BadToken}
use Rattle.kan_refusals.specs.declared.refusals.Refusal.TheVariants.{BadDot, TooDeep, NumberRange, ReservedName}
use Rattle.kan_refusals.specs.declared.refusals.Refusal.TheVariants.{UnknownForm, BadShape, UnboundName}
use Rattle.kan_refusals.specs.declared.refusals.Refusal.TheVariants.{UnknownRelation, WrongCount, DefinedTwice}
use Rattle.kan_refusals.specs.declared.refusals.Refusal.TheVariants.{BadTag, BadString}
use Rattle.kan_grammar.specs.Texts.Reply.{line_at}

few_digits : (r : Refusal) → number_of r < 10 ^ 64
few_digits NotUtf8 = omega arith
few_digits UnclosedList = omega arith
few_digits StrayClose = omega arith
few_digits BadToken = omega arith
few_digits BadDot = omega arith
few_digits TooDeep = omega arith
few_digits NumberRange = omega arith
few_digits ReservedName = omega arith
few_digits UnknownForm = omega arith
few_digits BadShape = omega arith
few_digits UnboundName = omega arith
few_digits UnknownRelation = omega arith
few_digits WrongCount = omega arith
few_digits DefinedTwice = omega arith
few_digits BadTag = omega arith
few_digits BadString = omega arith

pub line_printed : (at : ℕ) (r : Refusal) → at < 2 ^ 32 → line_at at r ≡ error_line at r
line_printed at r small =
    ap₂ (λ n o. (codes "error " ++ n ++ codes " at " ++ o ++ codes ": " ++ text_of r) ++ 10 ∷ [])
    (decimal_as_printed (number_of r) (few_digits r)) (decimal_as_printed at (omega (arith, small)))
