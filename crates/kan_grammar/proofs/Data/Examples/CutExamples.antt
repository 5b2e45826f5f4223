-- A text cut off at each of its bytes.
use Rattle.std.specs.Prelude.{◌≡◌, ℕ, true, List, [], take, refl}
use Rattle.kan_refusals.specs.declared.refusals.Refusal.{Refusal}
use Rattle.kan_grammar.specs.Data.Faults.{data_are, refused, fault}
use Rattle.kan_grammar.proofs.Data.Examples.Readings.{read, is_read}
use lib.Chars.{codes}

-- a call cut off at each byte
call : List ℕ
call = codes "(run* (x y) (appendo x y '(a b)))"

cut_at_1 : read (take 1 call) ≡ refused (fault 0 Refusal.UnclosedList)
unfolding read call
cut_at_1 = refl

cut_at_2 : read (take 2 call) ≡ refused (fault 0 Refusal.UnclosedList)
unfolding read call
cut_at_2 = refl

cut_at_3 : read (take 3 call) ≡ refused (fault 0 Refusal.UnclosedList)
unfolding read call
cut_at_3 = refl

cut_at_4 : read (take 4 call) ≡ refused (fault 0 Refusal.UnclosedList)
unfolding read call
cut_at_4 = refl

cut_at_5 : read (take 5 call) ≡ refused (fault 0 Refusal.UnclosedList)
unfolding read call
cut_at_5 = refl

cut_at_6 : read (take 6 call) ≡ refused (fault 0 Refusal.UnclosedList)
unfolding read call
cut_at_6 = refl

cut_at_7 : read (take 7 call) ≡ refused (fault 6 Refusal.UnclosedList)
unfolding read call
cut_at_7 = refl

cut_at_8 : read (take 8 call) ≡ refused (fault 6 Refusal.UnclosedList)
unfolding read call
cut_at_8 = refl

cut_at_9 : read (take 9 call) ≡ refused (fault 6 Refusal.UnclosedList)
unfolding read call
cut_at_9 = refl

cut_at_10 : read (take 10 call) ≡ refused (fault 6 Refusal.UnclosedList)
unfolding read call
cut_at_10 = refl

cut_at_11 : read (take 11 call) ≡ refused (fault 0 Refusal.UnclosedList)
unfolding read call
cut_at_11 = refl

cut_at_12 : read (take 12 call) ≡ refused (fault 0 Refusal.UnclosedList)
unfolding read call
cut_at_12 = refl

cut_at_13 : read (take 13 call) ≡ refused (fault 12 Refusal.UnclosedList)
unfolding read call
cut_at_13 = refl

cut_at_14 : read (take 14 call) ≡ refused (fault 12 Refusal.UnclosedList)
unfolding read call
cut_at_14 = refl

cut_at_15 : read (take 15 call) ≡ refused (fault 12 Refusal.UnclosedList)
unfolding read call
cut_at_15 = refl

cut_at_16 : read (take 16 call) ≡ refused (fault 12 Refusal.UnclosedList)
unfolding read call
cut_at_16 = refl

cut_at_17 : read (take 17 call) ≡ refused (fault 12 Refusal.UnclosedList)
unfolding read call
cut_at_17 = refl

cut_at_18 : read (take 18 call) ≡ refused (fault 12 Refusal.UnclosedList)
unfolding read call
cut_at_18 = refl

cut_at_19 : read (take 19 call) ≡ refused (fault 12 Refusal.UnclosedList)
unfolding read call
cut_at_19 = refl

cut_at_20 : read (take 20 call) ≡ refused (fault 12 Refusal.UnclosedList)
unfolding read call
cut_at_20 = refl

cut_at_21 : read (take 21 call) ≡ refused (fault 12 Refusal.UnclosedList)
unfolding read call
cut_at_21 = refl

cut_at_22 : read (take 22 call) ≡ refused (fault 12 Refusal.UnclosedList)
unfolding read call
cut_at_22 = refl

cut_at_23 : read (take 23 call) ≡ refused (fault 12 Refusal.UnclosedList)
unfolding read call
cut_at_23 = refl

cut_at_24 : read (take 24 call) ≡ refused (fault 12 Refusal.UnclosedList)
unfolding read call
cut_at_24 = refl

cut_at_25 : read (take 25 call) ≡ refused (fault 12 Refusal.UnclosedList)
unfolding read call
cut_at_25 = refl

cut_at_26 : read (take 26 call) ≡ refused (fault 25 Refusal.BadToken)
unfolding read call
cut_at_26 = refl

cut_at_27 : read (take 27 call) ≡ refused (fault 26 Refusal.UnclosedList)
unfolding read call
cut_at_27 = refl

cut_at_28 : read (take 28 call) ≡ refused (fault 26 Refusal.UnclosedList)
unfolding read call
cut_at_28 = refl

cut_at_29 : read (take 29 call) ≡ refused (fault 26 Refusal.UnclosedList)
unfolding read call
cut_at_29 = refl

cut_at_30 : read (take 30 call) ≡ refused (fault 26 Refusal.UnclosedList)
unfolding read call
cut_at_30 = refl

cut_at_31 : read (take 31 call) ≡ refused (fault 12 Refusal.UnclosedList)
unfolding read call
cut_at_31 = refl

cut_at_32 : read (take 32 call) ≡ refused (fault 0 Refusal.UnclosedList)
unfolding read call
cut_at_32 = refl

cut_at_0 : read (take 0 call) ≡ data_are []
unfolding read call
cut_at_0 = refl

not_cut : is_read (read call) ≡ true
unfolding read call
not_cut = refl
