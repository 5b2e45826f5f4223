-- No two refusals have one number.
use Rattle.std.proofs.Common.{◌≡◌, ℕ, List, [], ◌∷◌, refl, sym, ap, ◌∙◌}
use Rattle.std.specs.Prelude.{Option, Some, None, zero, suc, slice_get}
use Rattle.kan_refusals.specs.Refusals.{number_of}
use Rattle.kan_refusals.specs.declared.refusals.Refusal.{Refusal}
use Rattle.kan_refusals.specs.declared.refusals.Refusal.TheVariants.{NotUtf8, UnclosedList, StrayClose, BadToken}
use Rattle.kan_refusals.specs.declared.refusals.Refusal.TheVariants.{BadDot, TooDeep, NumberRange, ReservedName}
use Rattle.kan_refusals.specs.declared.refusals.Refusal.TheVariants.{UnknownForm, BadShape, UnboundName, UnknownRelation}
use Rattle.kan_refusals.specs.declared.refusals.Refusal.TheVariants.{WrongCount, DefinedTwice, BadTag, BadString}

-- all refusals, in the order of their numbers, which begin with 1
abbrev all_refusals : List Refusal
all_refusals = NotUtf8 ∷ UnclosedList ∷ StrayClose ∷ BadToken ∷ BadDot ∷ TooDeep ∷ NumberRange ∷ ReservedName ∷ UnknownForm ∷ BadShape ∷ UnboundName ∷ UnknownRelation ∷ WrongCount ∷ DefinedTwice ∷ BadTag ∷ BadString ∷ []

-- the refusal of a number
abbrev refusal_of : ℕ → Option Refusal
refusal_of zero = None
refusal_of (suc number) = slice_get all_refusals number

found : (r : Refusal) → refusal_of (number_of r) ≡ Some r
found NotUtf8 = refl
found UnclosedList = refl
found StrayClose = refl
found BadToken = refl
found BadDot = refl
found TooDeep = refl
found NumberRange = refl
found ReservedName = refl
found UnknownForm = refl
found BadShape = refl
found UnboundName = refl
found UnknownRelation = refl
found WrongCount = refl
found DefinedTwice = refl
found BadTag = refl
found BadString = refl

pub same_number : (a b : Refusal) → number_of a ≡ number_of b → a ≡ b
same_number a b h = let same : Some a ≡ Some b = sym (found a) ∙ ap refusal_of h ∙ found b in cc
