-- Where the pieces of a text end, a text may be cut.
use Rattle.std.proofs.Common.{◌≡◌, ◌≢◌, ℕ, suc, ◌+◌, ◌-◌, ◌<◌, ◌≤◌, Bool, true, false, List, [], ◌∷◌, length, take, drop, get_or, refl, subst, sym, ap, ◌∙◌, arith}
use Rattle.std.specs.Prelude.{not, ◌==◌, nat_lt, if◌then◌else◌, Option, None, Some, ℤ, take_while}
use Rattle.std.specs.List.{prefix_len}
use Rattle.std.specs.Str.Parse.{without_leading_sign, signed_digits_value}
use Rattle.std.specs.Str.{IsUtf8, IsCharBoundary}
use Rattle.std.proofs.lemmas.Bool.Decides.{nat_tests}
use Rattle.std.proofs.lemmas.Bool.{false≢true}
use Rattle.std.proofs.lemmas.List.Sums.{prefix_len-le-length, prefix_len_stops}
use Rattle.std.proofs.lemmas.Str.{IsCharBoundary-after_ascii, IsCharBoundary-before_ascii}
use Rattle.std.proofs.Math.Seq.{take-length}
use Rattle.kan_grammar.specs.Data.Words.{is_word_byte, Token, opening, closing, dot, atom, symbol, string, truth, reserved, number_atom, number_token, number, out_of_range, bad, bad_string, prefix, unquote, is_dot, looks_like_number, all_digits, is_in_range, is_reserved, word_token}
use Rattle.kan_grammar.specs.Data.Strings.{Role, role, begins_escape, length_by, string_length, string_meaning}
use Rattle.kan_grammar.proofs.Data.CuttingLaws.{string_length-within}
use Rattle.kan_grammar.specs.Data.Tokens.{Start, separator, comment, whole, comma, hash, quotation, in_word, string_piece, start, spelled, comma_piece, hash_token, piece_of, piece, more}
use Rattle.sexpr.specs.Pieces.{first_piece}
use Rattle.sexpr.specs.Reads.{HasText, HasPieceText}
use Rattle.sexpr.proofs.StringLaws.{meaning_text}

wide_word : (b : ℕ) → 127 < b → is_word_byte b ≡ true
wide_word b h = grind (arith, nat_tests)

wide_comment : (b : ℕ) → 127 < b → not (b == 10) ≡ true
wide_comment b h = grind (arith, nat_tests)

wide_start : (b : ℕ) → 127 < b → start b ≡ in_word
wide_start b h = let w = wide_word b h in grind (arith, nat_tests)

-- a run of bytes that has every byte above 127 in it ends before an ASCII byte, or at the end
run_boundary : (p : ℕ → Bool) (b : ℕ) (bs : List ℕ) → ((c : ℕ) → 127 < c → p c ≡ true) → IsCharBoundary (b ∷ bs) (suc (prefix_len p bs))
run_boundary p b bs wide =
    let within : prefix_len p bs ≤ length bs = prefix_len-le-length p bs in
    (omega arith, λ lt high. absurd (false≢true (sym (prefix_len_stops p bs 0 (omega arith)) ∙ wide (get_or bs (prefix_len p bs) 0) (omega (arith, high)))))

pub word_boundary : (b : ℕ) (bs : List ℕ) → IsCharBoundary (b ∷ bs) (suc (prefix_len is_word_byte bs))
word_boundary b bs = run_boundary is_word_byte b bs wide_word

-- what begins with a byte that isn't of a word ends after ASCII bytes
narrow : (b : ℕ) (s : Start) → start b ≡ s → s ≢ in_word → b < 128
narrow b s e n = by_size (nat_lt 127 b) refl
  where
    by_size : (t : Bool) → nat_lt 127 b ≡ t → b < 128
    by_size true h = absurd (n (sym e ∙ wide_start b (grind (arith, nat_tests))))
    by_size false h = grind (arith, nat_tests)

after_first : (b : ℕ) (bs : List ℕ) → IsUtf8 (b ∷ bs) → b < 128 → IsCharBoundary (b ∷ bs) 1
after_first b bs u h = IsCharBoundary-after_ascii (b ∷ bs) 0 u (omega arith) h

after_comma : (b : ℕ) (bs : List ℕ) → IsUtf8 (b ∷ bs) → b < 128 → IsCharBoundary (b ∷ bs) (suc (more (comma_piece bs)))
after_comma b [] u h = after_first b [] u h
after_comma b (x ∷ bs) u h = by_at (x == 64) refl
  where
    by_at : (t : Bool) → (x == 64) ≡ t → IsCharBoundary (b ∷ x ∷ bs) (suc (more (if t then spelled bad 1 else spelled (prefix unquote) 0)))
    by_at true e = IsCharBoundary-after_ascii (b ∷ x ∷ bs) 1 u (omega arith) (grind (arith, nat_tests))
    by_at false e = after_first b (x ∷ bs) u h

-- a string ends before its closing mark
mark_by : (r : Role) (b : ℕ) (bs : List ℕ) (rest : Option ℕ) (n : ℕ) → (r ≡ Role.closes → b ≡ 34) → ((m : ℕ) → rest ≡ Some m → get_or bs m 0 ≡ 34) → length_by r rest ≡ Some n → get_or (b ∷ bs) n 0 ≡ 34
mark_by Role.closes b bs rest n first later e = let z : 0 ≡ n = cc in ap (λ k. get_or (b ∷ bs) k 0) (sym z) ∙ first refl
mark_by Role.never b bs rest n first later e = absurd cc
mark_by Role.part b bs None n first later e = absurd cc
mark_by Role.part b bs (Some m) n first later e = let z : suc m ≡ n = cc in ap (λ k. get_or (b ∷ bs) k 0) (sym z) ∙ later m refl

closes_at_mark : (escape : Bool) (b : ℕ) → role escape b ≡ Role.closes → b ≡ 34
closes_at_mark escape b e = grind (arith, nat_tests)

mark_at : (escape : Bool) (bs : List ℕ) (n : ℕ) → string_length escape bs ≡ Some n → get_or bs n 0 ≡ 34
mark_at escape [] n e = absurd cc
mark_at escape (b ∷ bs) n e = mark_by (role escape b) b bs (string_length (begins_escape escape b) bs) n (closes_at_mark escape b) (mark_at (begins_escape escape b) bs) e

after_string : (b : ℕ) (bs : List ℕ) (o : Option ℕ) → string_length false bs ≡ o → IsUtf8 (b ∷ bs) → b < 128 → IsCharBoundary (b ∷ bs) (suc (more (string_piece o bs)))
after_string b bs None e u h = after_first b bs u h
after_string b bs (Some n) e u h =
    let low : suc n ≤ length bs = string_length-within false bs n e in
    let k : suc n + 1 ≡ suc (suc n) = omega arith in
    subst (IsCharBoundary (b ∷ bs)) k (IsCharBoundary-after_ascii (b ∷ bs) (suc n) u (omega (arith, low)) (omega (arith, mark_at false bs n e)))

-- what stands between the marks of a string may be cut off
pub string_begins : (text : List ℕ) (bs : List ℕ) → text ≡ 34 ∷ bs → IsUtf8 text → IsCharBoundary text 1
string_begins text bs e u = rw e (after_first 34 bs (subst IsUtf8 e u) (omega arith))

pub string_to : (text : List ℕ) (bs : List ℕ) (n : ℕ) → text ≡ 34 ∷ bs → string_length false bs ≡ Some n → IsCharBoundary text (1 + n)
string_to text bs n t e =
    let low : suc n ≤ length bs = string_length-within false bs n e in
    let k : suc n ≡ 1 + n = omega arith in
    rw t (subst (IsCharBoundary (34 ∷ bs)) k (IsCharBoundary-before_ascii (34 ∷ bs) (suc n) (omega (arith, low)) (omega (arith, mark_at false bs n e))))

begun_boundary : (s : Start) (b : ℕ) (bs : List ℕ) → start b ≡ s → IsUtf8 (b ∷ bs) → IsCharBoundary (b ∷ bs) (suc (more (piece_of s b bs)))
begun_boundary separator b bs e u = after_first b bs u (narrow b separator e (λ x. cc))
begun_boundary comment b bs e u = run_boundary (λ c. not (c == 10)) b bs wide_comment
begun_boundary (whole t) b bs e u = after_first b bs u (narrow b (whole t) e (λ x. cc))
begun_boundary comma b bs e u = after_comma b bs u (narrow b comma e (λ x. cc))
begun_boundary hash b bs e u = word_boundary b bs
begun_boundary quotation b bs e u = after_string b bs (string_length false bs) refl u (narrow b quotation e (λ x. cc))
begun_boundary in_word b bs e u = word_boundary b bs

pub piece_boundary : (b : ℕ) (bs : List ℕ) → IsUtf8 (b ∷ bs) → IsCharBoundary (b ∷ bs) (suc (more (piece b bs)))
unfolding piece
piece_boundary b bs u = begun_boundary (start b) b bs refl u

-- a string's text is one that a table may hold
no_string : (b : ℕ) (s : List ℕ) → start b ≡ whole (atom (string s)) → ⊥
no_string b s e = grind (arith, nat_tests)

whole_text : (t : Token) (b : ℕ) → start b ≡ whole t → HasText t
whole_text (opening s) b e = tt
whole_text (closing s) b e = tt
whole_text (prefix p) b e = tt
whole_text dot b e = tt
whole_text (atom (symbol s)) b e = tt
whole_text (atom (string s)) b e = absurd (no_string b s e)
whole_text (atom (number n)) b e = tt
whole_text (atom (truth x)) b e = tt
whole_text (atom out_of_range) b e = tt
whole_text (atom reserved) b e = tt
whole_text bad_string b e = tt
whole_text bad b e = tt

token_if : (t : Bool) (x y : Token) → HasText x → HasText y → HasText (if t then x else y)
token_if true x y h k = h
token_if false x y h k = k

number_text : (t : Bool) (z : ℤ) → HasText (atom (if t then number z else out_of_range))
number_text true z = tt
number_text false z = tt

word_text : (w : List ℕ) → HasText (word_token w)
unfolding word_token
word_text w =
    let last : Token = if is_reserved w then atom reserved else atom (symbol w) in
    token_if (is_dot w) dot (if looks_like_number w then number_token w else last) tt
    (token_if (looks_like_number w) (number_token w) last
    (token_if (all_digits (without_leading_sign w)) (atom (number_atom (signed_digits_value 10 w))) bad (number_text (is_in_range (signed_digits_value 10 w)) (signed_digits_value 10 w)) tt)
    (token_if (is_reserved w) (atom reserved) (atom (symbol w)) tt tt))

hash_text : (w : List ℕ) → HasText (hash_token w)
hash_text [] = tt
hash_text (b ∷ []) = token_if (b == 116) (atom (truth true)) (if b == 102 then atom (truth false) else bad) tt (token_if (b == 102) (atom (truth false)) bad tt tt)
hash_text (b ∷ c ∷ w) = tt

string_text : (o : Option ℕ) (bs : List ℕ) → string_length false bs ≡ o → HasPieceText (string_piece o bs)
string_text None bs e = tt
string_text (Some n) bs e = meaning_text false bs n e

comma_text : (bs : List ℕ) → HasPieceText (comma_piece bs)
comma_text [] = tt
comma_text (b ∷ bs) = by_at (b == 64)
  where
    by_at : (t : Bool) → HasPieceText (if t then spelled bad 1 else spelled (prefix unquote) 0)
    by_at true = tt
    by_at false = tt

begun_text : (s : Start) (b : ℕ) (bs : List ℕ) → start b ≡ s → HasPieceText (piece_of s b bs)
begun_text separator b bs h = tt
begun_text comment b bs h = tt
begun_text (whole t) b bs h = whole_text t b h
begun_text comma b bs h = comma_text bs
begun_text hash b bs h = hash_text (take_while is_word_byte bs)
begun_text quotation b bs h = string_text (string_length false bs) bs refl
begun_text in_word b bs h = word_text (b ∷ take_while is_word_byte bs)

pub piece_text : (b : ℕ) (bs : List ℕ) → HasPieceText (piece b bs)
unfolding piece
piece_text b bs = begun_text (start b) b bs refl

pub first_piece_text : (bs : List ℕ) → HasPieceText (first_piece bs)
first_piece_text [] = tt
first_piece_text (b ∷ bs) = piece_text b bs

-- the string at the front of a text is its piece
pub text_string_piece : (text : List ℕ) (bs : List ℕ) (n : ℕ) (s : List ℕ) → text ≡ 34 ∷ bs → string_length false bs ≡ Some n → s ≡ take ((1 + n) - 1) (drop 1 text) → spelled (atom (string (string_meaning false s))) ((2 + n) - 1) ≡ string_piece (string_length false bs) bs
text_string_piece text bs n s t e h =
    let k : (1 + n) - 1 ≡ n = omega arith in
    let m : (2 + n) - 1 ≡ suc n = omega arith in
    let same : s ≡ take n bs = h ∙ ap (λ i. take i (drop 1 text)) k ∙ ap (λ xs. take n (drop 1 xs)) t in
    ap (λ x. spelled (atom (string (string_meaning false x))) ((2 + n) - 1)) same
    ∙ ap (spelled (atom (string (string_meaning false (take n bs))))) m
    ∙ ap (λ x. string_piece x bs) (sym e)

-- a run at the front of bytes lies within them
pub run_within : (p : ℕ → Bool) (bs : List ℕ) → prefix_len p bs ≤ length bs
run_within p bs = prefix_len-le-length p bs

-- the word at the front of a text may be cut off, and is its piece
pub text_word_boundary : (text : List ℕ) (b : ℕ) (bs : List ℕ) (n : ℕ) → text ≡ b ∷ bs → n ≡ prefix_len is_word_byte bs → IsCharBoundary text (1 + n)
text_word_boundary text b bs n e h =
    let k : 1 + prefix_len is_word_byte bs ≡ suc (prefix_len is_word_byte bs) = omega arith in
    rw (e, h, k) (word_boundary b bs)

pub text_word_piece : (text : List ℕ) (b : ℕ) (bs : List ℕ) (n : ℕ) (t : Token) → text ≡ b ∷ bs → n ≡ prefix_len is_word_byte bs → start b ≡ in_word → t ≡ word_token (take (1 + n) text) → spelled t ((1 + n) - 1) ≡ piece b bs
unfolding piece
text_word_piece text b bs n t e h s w =
    let k : 1 + prefix_len is_word_byte bs ≡ suc (prefix_len is_word_byte bs) = omega arith in
    let m : suc (prefix_len is_word_byte bs) - 1 ≡ prefix_len is_word_byte bs = omega arith in
    rw (w, e, h, s, k, m) refl

pub text_piece_boundary : (text : List ℕ) (b : ℕ) (bs : List ℕ) (n : ℕ) → IsUtf8 text → text ≡ b ∷ bs → n ≡ suc (more (piece b bs)) → IsCharBoundary text n
text_piece_boundary text b bs n u e s = rw (e, s) (piece_boundary b bs (subst IsUtf8 e u))

-- the first byte of a text and the bytes after it
pub text_front : (text bytes : List ℕ) → bytes ≡ text → 0 < length text → text ≡ get_or bytes 0 0 ∷ take (length bytes - 1) (drop 1 bytes)
text_front text [] e h = absurd (omega (arith, ap length e))
text_front text (b ∷ bs) e h =
    let m : suc (length bs) - 1 ≡ length bs = omega arith in
    sym e ∙ rw m (ap (λ xs. b ∷ xs) (sym (take-length bs)))
