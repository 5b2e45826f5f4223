-- Strings as they are printed, byte after byte.
use Rattle.std.proofs.Common.{◌≡◌, ℕ, suc, ◌<◌, Bool, true, false, List, [], ◌∷◌, ◌++◌, length, drop, get_or, refl, sym, ap, ◌∙◌, arith, append_assoc, append-nil, true≢false, subst, IsUtf8}
use Rattle.std.specs.Prelude.{◌==◌, eqb, if◌then◌else◌, codes, unwrap_or, Some}
use Rattle.std.specs.List.{flat_map}
use Rattle.std.specs.Str.{is_utf8}
use Rattle.std.proofs.lemmas.Bool.{and_parts, eqb-true}
use Rattle.std.proofs.lemmas.Str.{IsUtf8-from_is_utf8}
use Rattle.kan_model.specs.Answers.Text.{string_byte_text, string_text}
use Rattle.kan_terms.specs.Table.{Table, is_string_text, name_of, number_of}
use Rattle.term_reading.specs.Strings.{at_mark, behind_byte, front_byte}
use Rattle.term_reading.specs.Words.{Continues}
use Rattle.term_reading.proofs.WordLaws.{string_found, string_spelled, text_at}

-- one printed byte is read back
pub byte_printed : (b : ℕ) (more : List ℕ) → (front_byte (string_byte_text b ++ more) ≡ b) × (behind_byte (string_byte_text b ++ more) ≡ more) × (at_mark (string_byte_text b ++ more) ≡ false)
byte_printed b more = by (eqb b 34) (eqb b 92) (eqb b 10) (eqb b 9) (eqb b 13) refl refl refl refl refl
  where
    plain : (rest : List ℕ) → eqb b 34 ≡ false → eqb b 92 ≡ false → (front_byte (b ∷ rest) ≡ b) × (behind_byte (b ∷ rest) ≡ rest) × (at_mark (b ∷ rest) ≡ false)
    plain [] q s = (refl, refl, q)
    plain (c ∷ cs) q s = (rw s refl, rw s refl, q)

    by : (q s n t r : Bool) → eqb b 34 ≡ q → eqb b 92 ≡ s → eqb b 10 ≡ n → eqb b 9 ≡ t → eqb b 13 ≡ r →
        let text : List ℕ = if q then codes "\\\"" else (if s then codes "\\\\" else (if n then codes "\\n" else (if t then codes "\\t" else (if r then codes "\\r" else b ∷ [])))) in
        (front_byte (text ++ more) ≡ b) × (behind_byte (text ++ more) ≡ more) × (at_mark (text ++ more) ≡ false)
    by true s n t r e1 e2 e3 e4 e5 = (sym (eqb-true b 34 e1), refl, refl)
    by false true n t r e1 e2 e3 e4 e5 = (sym (eqb-true b 92 e2), refl, refl)
    by false false true t r e1 e2 e3 e4 e5 = (sym (eqb-true b 10 e3), refl, refl)
    by false false false true r e1 e2 e3 e4 e5 = (sym (eqb-true b 9 e4), refl, refl)
    by false false false false true e1 e2 e3 e4 e5 = (sym (eqb-true b 13 e5), refl, refl)
    by false false false false false e1 e2 e3 e4 e5 = plain more e1 e2

-- what was read is the front of the text whose printing these bytes begin with, and what is left prints the rest of it
abbrev pub LeftText : List ℕ → List ℕ → List ℕ → Type 0
LeftText start made rest = (text more : List ℕ) → start ≡ flat_map string_byte_text text ++ 34 ∷ more → (left : List ℕ) × (text ≡ made ++ left) × (rest ≡ flat_map string_byte_text left ++ 34 ∷ more)

pub text_goes_on : (start made rest new behind : List ℕ) (b : ℕ) → at_mark rest ≡ false → b ≡ front_byte rest → new ≡ made ++ b ∷ [] → behind ≡ behind_byte rest → LeftText start made rest → LeftText start new behind
text_goes_on start made rest new behind b some first grown left held text more e = by (held text more e).0 (held text more e).1 (held text more e).2
  where
    by : (ls : List ℕ) → text ≡ made ++ ls → rest ≡ flat_map string_byte_text ls ++ 34 ∷ more → (ls' : List ℕ) × (text ≡ new ++ ls') × (behind ≡ flat_map string_byte_text ls' ++ 34 ∷ more)
    by [] p q = absurd (true≢false (sym (ap at_mark q) ∙ some))
    by (c ∷ cs) p q =
        let whole : rest ≡ string_byte_text c ++ (flat_map string_byte_text cs ++ 34 ∷ more) = q ∙ append_assoc (string_byte_text c) (flat_map string_byte_text cs) (34 ∷ more) in
        let read = byte_printed c (flat_map string_byte_text cs ++ 34 ∷ more) in
        let same : b ≡ c = first ∙ ap front_byte whole ∙ read.0 in
        (cs, p ∙ sym (append_assoc made (c ∷ []) cs) ∙ ap (λ l. l ++ cs) (sym (grown ∙ ap (λ x. made ++ x ∷ []) same)), left ∙ ap behind_byte whole ∙ read.1)

pub text_ends : (start made rest : List ℕ) → at_mark rest ≡ true → LeftText start made rest → (text more : List ℕ) → start ≡ flat_map string_byte_text text ++ 34 ∷ more → (made ≡ text) × (rest ≡ 34 ∷ more)
text_ends start made rest ended held text more e = by (held text more e).0 (held text more e).1 (held text more e).2
  where
    by : (ls : List ℕ) → text ≡ made ++ ls → rest ≡ flat_map string_byte_text ls ++ 34 ∷ more → (made ≡ text) × (rest ≡ 34 ∷ more)
    by [] p q = (sym (append-nil made) ∙ sym p, q)
    by (c ∷ cs) p q =
        let whole : rest ≡ string_byte_text c ++ (flat_map string_byte_text cs ++ 34 ∷ more) = q ∙ append_assoc (string_byte_text c) (flat_map string_byte_text cs) (34 ∷ more) in
        absurd (true≢false (sym ended ∙ ap at_mark whole ∙ (byte_printed c (flat_map string_byte_text cs ++ 34 ∷ more)).2))

pub behind_shorter : (rest behind : List ℕ) → at_mark rest ≡ false → behind ≡ behind_byte rest → length behind < length rest
behind_shorter [] behind some is = absurd (true≢false some)
behind_shorter (b ∷ []) behind some is = omega (arith, ap length is)
behind_shorter (b ∷ c ∷ cs) behind some is = by (b == 92) (ap length is)
  where
    by : (t : Bool) → length behind ≡ length (if t then cs else c ∷ cs) → length behind < suc (suc (length cs))
    by true e = omega (arith, e)
    by false e = omega (arith, e)

-- a string's number
pub string_is : (new table : Table) (bytes text : List ℕ) (k s : ℕ) → Continues new table → number_of new.strings text ≡ Some k → text ≡ bytes → s < length table.strings → bytes ≡ get_or table.strings s [] → k ≡ s
string_is new table bytes text k s on known same low is = string_found new table text k s on known low (same ∙ is)

pub no_text : (new table : Table) (bytes : List ℕ) (s : ℕ) → Continues new table → (IsUtf8 bytes → ⊥) → s < length table.strings → bytes ≡ get_or table.strings s [] → ⊥
no_text new table bytes s on other low is =
    other (subst IsUtf8 (sym is) (IsUtf8-from_is_utf8 _ (and_parts (is_string_text (get_or table.strings s [])) (is_utf8 (get_or table.strings s [])) (string_spelled table s on.spelled low)).1))

-- the bytes of a string behind its first mark
pub quoted_bytes : (table : Table) (s : ℕ) (bytes more : List ℕ) → s < length table.strings → 34 ∷ bytes ≡ string_text table s ++ more → bytes ≡ flat_map string_byte_text (get_or table.strings s []) ++ 34 ∷ more
quoted_bytes table s bytes more low is =
    ap (drop 1) is ∙ append_assoc (flat_map string_byte_text (unwrap_or (name_of table.strings s) [])) (34 ∷ []) more
    ∙ ap (λ o. flat_map string_byte_text (unwrap_or o []) ++ 34 ∷ more) (text_at table.strings s low)
