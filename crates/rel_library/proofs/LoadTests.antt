-- A test of loads, which computes.
use Rattle.std.proofs.Common.{◌≡◌, ◌+◌, ◌<◌, ◌≤◌, ◌&&◌, true≢false, ℕ, zero, suc, Bool, true, false, List, [], ◌∷◌, ◌++◌, Option, Some, None, codes, refl, sym, ap, ap₂, subst, inl, inr, arith}
use Rattle.std.specs.Prelude.{◌⊎◌}
use Rattle.std.proofs.lemmas.Bool.{cases_lt}
use Rattle.kan_model.specs.Answers.Decimals.{decimal_text}
use Rattle.kan_model.proofs.Answering.DecimalLaws.{decimal_as_printed}
use Rattle.kan_grammar.specs.Data.Enclosing.{as_written}
use Rattle.kan_grammar.specs.Data.Written.{Written}
use Rattle.kan_grammar.specs.Data.Faults.{Fault, Reading, data_are, refused, read_text}
use Rattle.kan_grammar.specs.Texts.Reply.{data_of}
use Rattle.kan_grammar.specs.Texts.TextFaults.{fault_of_text}
use Rattle.kan_grammar.specs.Texts.TextNames.{text_table}
use Rattle.rel_library.specs.Library.{library, text_of_lines}
use Rattle.rel_library.specs.Loads.{gap, numbers_below, turns_line, load}
use Rattle.rel_library.specs.Accepted.{library_data, LoadIsAccepted}

-- the load of a number, its decimals as they compute
abbrev pub numbers_text : ℕ → List ℕ
numbers_text zero = []
numbers_text (suc n) = numbers_text n ++ gap n ++ decimal_text n

abbrev pub load_text : ℕ → List ℕ
load_text n = text_of_lines ((codes "(run* q (fresh (x y) (appendo x y '(" ++ numbers_text n ++ codes ")) (membero 'none x)))") ∷ turns_line ∷ [])

same_numbers : (n : ℕ) → n ≤ 400 → numbers_below n ≡ numbers_text n
same_numbers zero few = refl
same_numbers (suc n) few = ap₂ (λ start last. start ++ gap n ++ last) (same_numbers n (omega arith)) (sym (decimal_as_printed n (omega arith)))

same_load : (n : ℕ) → n ≤ 400 → load n ≡ load_text n
unfolding load
same_load n few = ap (λ ns. text_of_lines ((codes "(run* q (fresh (x y) (appendo x y '(" ++ ns ++ codes ")) (membero 'none x)))") ∷ turns_line ∷ [])) (same_numbers n few)

abbrev pub is_free : Option Fault → Bool
is_free None = true
is_free (Some f) = false

abbrev pub stands : Reading Written → List ℕ → Bool
stands (data_are ds) bytes = is_free (fault_of_text (text_table library bytes) library_data ds)
stands (refused f) bytes = false

abbrev pub is_accepted : ℕ → Bool
is_accepted n = stands (read_text as_written (load_text n)) (load_text n)

-- all from a number on, so many
abbrev pub all_from : ℕ → ℕ → Bool
all_from zero n = true
all_from (suc k) n = is_accepted n && all_from k (suc n)

left_true : (a b : Bool) → (a && b) ≡ true → a ≡ true
left_true true b e = refl
left_true false b e = e

right_true : (a b : Bool) → (a && b) ≡ true → b ≡ true
right_true true b e = e
right_true false b e = absurd (true≢false (sym e))

is_none : (o : Option Fault) → is_free o ≡ true → o ≡ None
is_none None e = refl
is_none (Some f) e = absurd (true≢false (sym e))

reads : (r : Reading Written) (bytes : List ℕ) → stands r bytes ≡ true → (r ≡ data_are (data_of r)) × (fault_of_text (text_table library bytes) library_data (data_of r) ≡ None)
reads (data_are ds) bytes e = (refl, is_none (fault_of_text (text_table library bytes) library_data ds) e)
reads (refused f) bytes e = absurd (true≢false (sym e))

-- a load that passes the test is accepted
accepted_by : (n : ℕ) → n ≤ 400 → is_accepted n ≡ true → LoadIsAccepted n
accepted_by n few passes =
    let found : stands (read_text as_written (load n)) (load n) ≡ true = subst (λ bytes. stands (read_text as_written bytes) bytes ≡ true) (sym (same_load n few)) passes in
    let facts = reads (read_text as_written (load n)) (load n) found in
    record { read = facts.0; faultless = facts.1 }

among : (k n i : ℕ) → all_from k n ≡ true → n ≤ i → i < n + k → is_accepted i ≡ true
among zero n i all low high = absurd (omega arith)
among (suc k) n i all low high = go (cases_lt n i) (λ above. among k (suc n) i (right_true (is_accepted n) (all_from k (suc n)) all) (omega (arith, above)) (omega (arith, high)))
  where
    go : (n < i) ⊎ (i ≤ n) → (n < i → is_accepted i ≡ true) → is_accepted i ≡ true
    go (inl above) later = later above
    go (inr below) later = let same : n ≡ i = omega (arith, below, low) in subst (λ m. is_accepted m ≡ true) same (left_true (is_accepted n) (all_from k (suc n)) all)

-- each load of a row of them
pub accepted_among : (k n i : ℕ) → all_from k n ≡ true → n ≤ i → i < n + k → i ≤ 400 → LoadIsAccepted i
accepted_among k n i all low high few = accepted_by i few (among k n i all low high)
