-- How a word is spelled, as clap reads it.
use Rattle.std.proofs.Common.{◌≡◌, ◌==◌, ℕ, Bool, true, false, [], ◌∷◌, Option, Some, None, refl, arith}
use Rattle.std.specs.Prelude.{bytes_eq}
use Rattle.std.proofs.lemmas.Bool.Decides.{nat_tests}
use Rattle.clap.specs.Lexer.{long_of, short_of}
use Rattle.command_line.specs.Parts.{Text, end, named, dashed, plain, spelling}

-- what a word is: the four spellings, and what clap sees of each
pub data Seen (w : Text) : Type 0 where
  sees_end : bytes_eq w (45 ∷ 45 ∷ []) ≡ true → spelling w ≡ end → Seen w
  sees_named : (name : Text) (value : Option Text) → bytes_eq w (45 ∷ 45 ∷ []) ≡ false → long_of w ≡ Some (name, value) → spelling w ≡ named name value → Seen w
  sees_dashed : (b : ℕ) (flags : Text) → bytes_eq w (45 ∷ 45 ∷ []) ≡ false → long_of w ≡ None → short_of w ≡ Some (b ∷ flags) → spelling w ≡ dashed → w ≡ 45 ∷ b ∷ flags → Seen w
  sees_plain : bytes_eq w (45 ∷ 45 ∷ []) ≡ false → long_of w ≡ None → short_of w ≡ None → spelling w ≡ plain → Seen w

by_third : (r : Text) → Seen (45 ∷ 45 ∷ r)
by_third [] = sees_end refl refl
by_third (b ∷ bs) = sees_named _ _ refl refl refl

by_second : (b : ℕ) (r : Text) → Seen (45 ∷ b ∷ r)
by_second b r = go (b == 45) refl
  where
    go : (t : Bool) → (b == 45) ≡ t → Seen (45 ∷ b ∷ r)
    go true e = let is : b ≡ 45 = grind (arith, nat_tests) in rw is (by_third r)
    go false e = sees_dashed b r (rw e refl) (rw e refl) (rw e refl) (rw e refl) refl

by_first : (b : ℕ) (r : Text) → Seen (b ∷ r)
by_first b r = go (b == 45) refl
  where
    dash : (r : Text) → Seen (45 ∷ r)
    dash [] = sees_plain refl refl refl refl
    dash (c ∷ cs) = by_second c cs

    go : (t : Bool) → (b == 45) ≡ t → Seen (b ∷ r)
    go true e = let is : b ≡ 45 = grind (arith, nat_tests) in rw is (dash r)
    go false e = sees_plain (rw e refl) (rw e refl) (rw e refl) (rw e refl)

pub word_seen : (w : Text) → Seen w
word_seen [] = sees_plain refl refl refl refl
word_seen (b ∷ bs) = by_first b bs
