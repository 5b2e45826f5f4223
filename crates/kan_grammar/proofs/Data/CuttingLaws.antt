-- How a text is cut into tokens piece by piece, at the end of a line, and before a token.
use Rattle.std.proofs.Common.{◌≡◌, ℕ, zero, suc, ◌+◌, ◌-◌, ◌≤◌, Bool, true, false, cond, List, [], ◌∷◌, ◌++◌, length, take, drop, refl, sym, ap, ◌∙◌, arith}
use Rattle.std.proofs.lemmas.List.{take-append-le}
use Rattle.std.proofs.lemmas.List.Sums.{prefix_len-le-length}
use Rattle.std.specs.Prelude.{not, take_while, ◌==◌, if◌then◌else◌, Option, None, Some, option_map}
use Rattle.std.specs.List.{prefix_len}
use Rattle.kan_grammar.specs.Data.Words.{Token, prefix, unquote, bad, atom, string, is_word_byte, word_token}
use Rattle.kan_grammar.specs.Data.Tokens.{Placed, placed, Piece, blank, spelled, piece, more, placed_before, tokens_from, tokens, Start, separator, comment, whole, comma, hash, quotation, in_word, string_piece, start, piece_of, hash_token}
use Rattle.kan_grammar.specs.Data.Strings.{Role, role, begins_escape, length_by, string_length, string_meaning}
use Rattle.kan_grammar.specs.Data.Laws.{EndsAtLine, CutsBefore}

-- the bytes that belong to the piece before are gone past
pub tokens_from-skip : (at skip : ℕ) (bs : List ℕ) → tokens_from at skip bs ≡ tokens_from (at + skip) 0 (drop skip bs)
unfolding tokens_from
tokens_from-skip at zero bs = let e : at + 0 ≡ at = omega arith in rw e refl
tokens_from-skip at (suc skip) [] = refl
tokens_from-skip at (suc skip) (b ∷ bs) = let e : at + suc skip ≡ suc at + skip = omega arith in tokens_from-skip (suc at) skip bs ∙ rw e refl

-- the tokens of a piece, before those after it
pub tokens_from-piece : (at b : ℕ) (bs : List ℕ) → tokens_from at 0 (b ∷ bs) ≡ placed_before at (piece b bs) (tokens_from (at + suc (more (piece b bs))) 0 (drop (more (piece b bs)) bs))
unfolding tokens_from
tokens_from-piece at b bs =
    let n : ℕ = more (piece b bs) in
    let e : suc at + n ≡ at + suc n = omega arith in
    ap (placed_before at (piece b bs)) (tokens_from-skip (suc at) n bs ∙ ap (λ (k : ℕ). tokens_from k 0 (drop n bs)) e)

-- the two pieces that a comma can begin
comma_by : Bool → Piece
comma_by c = if c then spelled bad 1 else spelled (prefix unquote) 0

comma_by-within : (c : Bool) (n : ℕ) → more (comma_by c) ≤ suc n
unfolding comma_by
comma_by-within true n = omega arith
comma_by-within false n = omega arith

-- a string is closed within the text
length_by-within : (r : Role) (rest : Option ℕ) (most : ℕ) → ((n : ℕ) → rest ≡ Some n → suc n ≤ most) → (n : ℕ) → length_by r rest ≡ Some n → suc n ≤ suc most
length_by-within Role.closes rest most h n e = let same : 0 ≡ n = cc in omega (arith, same)
length_by-within Role.never rest most h n e = absurd cc
length_by-within Role.part None most h n e = absurd cc
length_by-within Role.part (Some m) most h n e = let same : suc m ≡ n = cc in let low : suc m ≤ most = h m refl in omega (arith, same, low)

pub string_length-within : (escape : Bool) (bs : List ℕ) (n : ℕ) → string_length escape bs ≡ Some n → suc n ≤ length bs
string_length-within escape [] n e = absurd cc
string_length-within escape (b ∷ bs) n e = length_by-within (role escape b) (string_length (begins_escape escape b) bs) (length bs) (string_length-within (begins_escape escape b) bs) n e

string_piece-within : (o : Option ℕ) (bs : List ℕ) → string_length false bs ≡ o → more (string_piece o bs) ≤ length bs
string_piece-within None bs e = omega arith
string_piece-within (Some n) bs e = string_length-within false bs n e

-- a piece lies within the text
within : (s : Start) (b : ℕ) (bs : List ℕ) → more (piece_of s b bs) ≤ length bs
unfolding comma_by
within separator b bs = omega arith
within comment b bs = prefix_len-le-length _ bs
within (whole t) b bs = omega arith
within comma b [] = omega arith
within comma b (x ∷ bs) = comma_by-within (x == 64) (length bs)
within hash b bs = prefix_len-le-length _ bs
within quotation b bs = string_piece-within (string_length false bs) bs refl
within in_word b bs = prefix_len-le-length _ bs

pub piece-within : (b : ℕ) (bs : List ℕ) → more (piece b bs) ≤ length bs
unfolding piece
piece-within b bs = within (start b) b bs

-- a run ends before what does not belong to it
prefix-stops : (p : ℕ → Bool) (xs : List ℕ) (c : ℕ) (ys : List ℕ) → p c ≡ false → prefix_len p (xs ++ c ∷ ys) ≡ prefix_len p xs
prefix-stops p [] c ys h = rw h refl
prefix-stops p (x ∷ xs) c ys h = ap (λ n. cond (p x) (1 + n) 0) (prefix-stops p xs c ys h)

word-line : (xs ys : List ℕ) → take_while is_word_byte (xs ++ 10 ∷ ys) ≡ take_while is_word_byte xs
word-line xs ys =
    ap (λ n. take n (xs ++ 10 ∷ ys)) (prefix-stops is_word_byte xs 10 ys refl)
    ∙ take-append-le (prefix_len is_word_byte xs) xs (10 ∷ ys) (prefix_len-le-length is_word_byte xs)

-- no string goes on behind a line feed
feed-ends : (escape : Bool) (o : Option ℕ) → length_by (role escape 10) o ≡ None
feed-ends true o = refl
feed-ends false o = refl

string_length-line : (escape : Bool) (xs ys : List ℕ) → string_length escape (xs ++ 10 ∷ ys) ≡ string_length escape xs
string_length-line escape [] ys = feed-ends escape (string_length (begins_escape escape 10) ys)
string_length-line escape (x ∷ xs) ys = ap (length_by (role escape x)) (string_length-line (begins_escape escape x) xs ys)

string_piece-line : (o : Option ℕ) (xs ys : List ℕ) → string_length false xs ≡ o → string_piece o (xs ++ 10 ∷ ys) ≡ string_piece o xs
string_piece-line None xs ys e = refl
string_piece-line (Some n) xs ys e =
    let low : suc n ≤ length xs = string_length-within false xs n e in
    ap (λ bs. spelled (atom (string (string_meaning false bs))) (suc n)) (take-append-le n xs (10 ∷ ys) (omega (arith, low)))

-- a line feed ends each piece
line : (s : Start) (b : ℕ) (xs ys : List ℕ) → piece_of s b (xs ++ 10 ∷ ys) ≡ piece_of s b xs
line separator b xs ys = refl
line comment b xs ys = ap blank (prefix-stops (λ c. not (c == 10)) xs 10 ys refl)
line (whole t) b xs ys = refl
line comma b [] ys = refl
line comma b (x ∷ xs) ys = refl
line hash b xs ys =
    ap (λ w. spelled (hash_token w) (prefix_len is_word_byte (xs ++ 10 ∷ ys))) (word-line xs ys)
    ∙ ap (spelled (hash_token (take_while is_word_byte xs))) (prefix-stops is_word_byte xs 10 ys refl)
line quotation b xs ys =
    ap (λ o. string_piece o (xs ++ 10 ∷ ys)) (string_length-line false xs ys)
    ∙ string_piece-line (string_length false xs) xs ys refl
line in_word b xs ys =
    ap (λ w. spelled (word_token (b ∷ w)) (prefix_len is_word_byte (xs ++ 10 ∷ ys))) (word-line xs ys)
    ∙ ap (spelled (word_token (b ∷ take_while is_word_byte xs))) (prefix-stops is_word_byte xs 10 ys refl)

piece-line : (b : ℕ) (xs ys : List ℕ) → piece b (xs ++ 10 ∷ ys) ≡ piece b xs
unfolding piece
piece-line b xs ys = line (start b) b xs ys

placed_before-append : (at : ℕ) (q : Piece) (us vs : List Placed) → placed_before at q (us ++ vs) ≡ placed_before at q us ++ vs
placed_before-append at (blank n) us vs = refl
placed_before-append at (spelled t n) us vs = refl

pub tokens_from-line : (at k : ℕ) (xs ys : List ℕ) → k ≤ length xs → tokens_from at k (xs ++ 10 ∷ ys) ≡ tokens_from at k xs ++ tokens_from (at + suc (length xs)) 0 ys
unfolding tokens_from piece
tokens_from-line at zero [] ys h = let e : at + 1 ≡ suc at = omega arith in rw e refl
tokens_from-line at (suc k) [] ys h = absurd (omega arith)
tokens_from-line at zero (b ∷ xs) ys h =
    let e : suc at + suc (length xs) ≡ at + suc (suc (length xs)) = omega arith in
    ap (λ q. placed_before at q (tokens_from (suc at) (more q) (xs ++ 10 ∷ ys))) (piece-line b xs ys)
    ∙ ap (placed_before at (piece b xs)) (tokens_from-line (suc at) (more (piece b xs)) xs ys (piece-within b xs))
    ∙ placed_before-append at (piece b xs) (tokens_from (suc at) (more (piece b xs)) xs) (tokens_from (suc at + suc (length xs)) 0 ys)
    ∙ ap (λ n. placed_before at (piece b xs) (tokens_from (suc at) (more (piece b xs)) xs) ++ tokens_from n 0 ys) e
tokens_from-line at (suc k) (b ∷ xs) ys h =
    let e : suc at + suc (length xs) ≡ at + suc (suc (length xs)) = omega arith in
    tokens_from-line (suc at) k xs ys (omega arith) ∙ ap (λ n. tokens_from (suc at) k xs ++ tokens_from n 0 ys) e

pub ends_at_line : EndsAtLine
unfolding tokens
ends_at_line front back =
    let e : 0 + suc (length front) ≡ suc (length front) = omega arith in
    tokens_from-line 0 0 front back (omega arith) ∙ ap (λ n. tokens_from 0 0 front ++ tokens_from n 0 back) e

-- a run that is not cut stays as it is
cut_by : (b : Bool) (m n j : ℕ) → cond b (1 + n) 0 ≤ suc j → (n ≤ j → m ≡ n) → cond b (1 + m) 0 ≡ cond b (1 + n) 0
cut_by true m n j h same = ap (λ k. 1 + k) (same (omega arith))
cut_by false m n j h same = refl

prefix-cut : (p : ℕ → Bool) (xs : List ℕ) (j : ℕ) → prefix_len p xs ≤ j → prefix_len p (take j xs) ≡ prefix_len p xs
prefix-cut p [] zero h = refl
prefix-cut p [] (suc j) h = refl
prefix-cut p (x ∷ xs) zero h = omega arith
prefix-cut p (x ∷ xs) (suc j) h = cut_by (p x) (prefix_len p (take j xs)) (prefix_len p xs) j h (λ k. prefix-cut p xs j k)

take-cut : (m j : ℕ) (xs : List ℕ) → m ≤ j → take m (take j xs) ≡ take m xs
take-cut zero j xs h = refl
take-cut (suc m) zero xs h = absurd (omega arith)
take-cut (suc m) (suc j) [] h = refl
take-cut (suc m) (suc j) (x ∷ xs) h = ap (λ ys. x ∷ ys) (take-cut m j xs (omega arith))

word-cut : (j : ℕ) (xs : List ℕ) → prefix_len is_word_byte xs ≤ j → take_while is_word_byte (take j xs) ≡ take_while is_word_byte xs
word-cut j xs h = ap (λ n. take n (take j xs)) (prefix-cut is_word_byte xs j h) ∙ take-cut (prefix_len is_word_byte xs) j xs h

comma-cut : (c : Bool) → more (comma_by c) ≤ 0 → spelled (prefix unquote) 0 ≡ comma_by c
unfolding comma_by
comma-cut true h = absurd (omega arith)
comma-cut false h = refl

-- a string is the same in a text that is cut behind it, and what is no string stays none
length_by-cut : (r : Role) (o p : Option ℕ) (j : ℕ) → ((n : ℕ) → o ≡ Some n → suc n ≤ j → p ≡ o) → (o ≡ None → p ≡ None) → (n : ℕ) → length_by r o ≡ Some n → suc n ≤ suc j → length_by r p ≡ length_by r o
length_by-cut Role.closes o p j same none n e low = refl
length_by-cut Role.never o p j same none n e low = refl
length_by-cut Role.part None p j same none n e low = ap (option_map (λ m. suc m)) (none refl)
length_by-cut Role.part (Some m) p j same none n e low =
    let count : suc m ≡ n = cc in
    ap (option_map (λ m. suc m)) (same m refl (omega (arith, count, low)))

length_by-none : (r : Role) (o p : Option ℕ) → (o ≡ None → p ≡ None) → length_by r o ≡ None → length_by r p ≡ None
length_by-none Role.closes o p none e = absurd cc
length_by-none Role.never o p none e = refl
length_by-none Role.part None p none e = ap (option_map (λ m. suc m)) (none refl)
length_by-none Role.part (Some m) p none e = absurd cc

string_length-none : (escape : Bool) (j : ℕ) (bs : List ℕ) → string_length escape bs ≡ None → string_length escape (take j bs) ≡ None
string_length-none escape zero bs e = refl
string_length-none escape (suc j) [] e = refl
string_length-none escape (suc j) (b ∷ bs) e = length_by-none (role escape b) (string_length (begins_escape escape b) bs) (string_length (begins_escape escape b) (take j bs)) (string_length-none (begins_escape escape b) j bs) e

string_length-cut : (escape : Bool) (j : ℕ) (bs : List ℕ) (n : ℕ) → string_length escape bs ≡ Some n → suc n ≤ j → string_length escape (take j bs) ≡ string_length escape bs
string_length-cut escape zero bs n e low = absurd (omega arith)
string_length-cut escape (suc j) [] n e low = refl
string_length-cut escape (suc j) (b ∷ bs) n e low =
    length_by-cut (role escape b) (string_length (begins_escape escape b) bs) (string_length (begins_escape escape b) (take j bs)) j (string_length-cut (begins_escape escape b) j bs) (string_length-none (begins_escape escape b) j bs) n e low

string_piece-cut : (o : Option ℕ) (j : ℕ) (bs : List ℕ) → string_length false bs ≡ o → more (string_piece o bs) ≤ j → string_piece (string_length false (take j bs)) (take j bs) ≡ string_piece o bs
string_piece-cut None j bs e low = ap (λ o. string_piece o (take j bs)) (string_length-none false j bs e)
string_piece-cut (Some n) j bs e low =
    ap (λ o. string_piece o (take j bs)) (string_length-cut false j bs n e low ∙ e)
    ∙ ap (λ xs. spelled (atom (string (string_meaning false xs))) (suc n)) (take-cut n j bs (omega (arith, low)))

uncut : (s : Start) (b j : ℕ) (bs : List ℕ) → more (piece_of s b bs) ≤ j → piece_of s b (take j bs) ≡ piece_of s b bs
unfolding comma_by
uncut separator b j bs h = refl
uncut comment b j bs h = ap blank (prefix-cut (λ c. not (c == 10)) bs j h)
uncut (whole t) b j bs h = refl
uncut comma b zero [] h = refl
uncut comma b (suc j) [] h = refl
uncut comma b zero (x ∷ bs) h = comma-cut (x == 64) h
uncut comma b (suc j) (x ∷ bs) h = refl
uncut hash b j bs h =
    ap (λ w. spelled (hash_token w) (prefix_len is_word_byte (take j bs))) (word-cut j bs h)
    ∙ ap (spelled (hash_token (take_while is_word_byte bs))) (prefix-cut is_word_byte bs j h)
uncut quotation b j bs h = string_piece-cut (string_length false bs) j bs refl h
uncut in_word b j bs h =
    ap (λ w. spelled (word_token (b ∷ w)) (prefix_len is_word_byte (take j bs))) (word-cut j bs h)
    ∙ ap (spelled (word_token (b ∷ take_while is_word_byte bs))) (prefix-cut is_word_byte bs j h)

piece-uncut : (b j : ℕ) (bs : List ℕ) → more (piece b bs) ≤ j → piece b (take j bs) ≡ piece b bs
unfolding piece
piece-uncut b j bs h = uncut (start b) b j bs h

-- a text cut where a token begins has the tokens before it
abbrev IsCut : ℕ → ℕ → List ℕ → List Placed → ℕ → Type 0
IsCut n k bytes before at = (n + k ≤ at) × (tokens_from n k (take (at - n) bytes) ≡ before)

after_byte : (n b : ℕ) (bs : List ℕ) (at : ℕ) → suc n ≤ at → take (at - n) (b ∷ bs) ≡ b ∷ take (at - suc n) bs
after_byte n b bs at h = let e : at - n ≡ suc (at - suc n) = omega arith in rw e refl

after_piece : (n b : ℕ) (bs : List ℕ) (at : ℕ) (before : List Placed) → IsCut (suc n) (more (piece b bs)) bs before at → IsCut n 0 (b ∷ bs) (placed_before n (piece b bs) before) at
unfolding tokens_from
after_piece n b bs at before c =
    let low : suc n + more (piece b bs) ≤ at = c.0 in (
      omega arith,
      ap (tokens_from n 0) (after_byte n b bs at (omega arith))
          ∙ ap (λ q. placed_before n q (tokens_from (suc n) (more q) (take (at - suc n) bs))) (piece-uncut b (at - suc n) bs (omega arith))
          ∙ ap (placed_before n (piece b bs)) c.1,
    )

cut_before : (n k : ℕ) (bytes : List ℕ) (before : List Placed) (at : ℕ) (t : Token) (later : List Placed) → tokens_from n k bytes ≡ before ++ placed at t ∷ later → IsCut n k bytes before at
unfolding tokens_from
cut_before n k [] [] at t later h = absurd cc
cut_before n k [] (x ∷ before) at t later h = absurd cc
cut_before n (suc k) (b ∷ bs) before at t later h =
    let c : IsCut (suc n) k bs before at = cut_before (suc n) k bs before at t later h in
    let low : suc n + k ≤ at = c.0 in
    (omega arith, ap (tokens_from n (suc k)) (after_byte n b bs at (omega arith)) ∙ c.1)
cut_before n zero (b ∷ bs) before at t later h = by_piece (piece b bs) refl before h (λ xs e. cut_before (suc n) (more (piece b bs)) bs xs at t later e)
  where
    by_piece : (q : Piece) → piece b bs ≡ q → (xs : List Placed) → placed_before n (piece b bs) (tokens_from (suc n) (more (piece b bs)) bs) ≡ xs ++ placed at t ∷ later → ((ys : List Placed) → tokens_from (suc n) (more (piece b bs)) bs ≡ ys ++ placed at t ∷ later → IsCut (suc n) (more (piece b bs)) bs ys at) → IsCut n 0 (b ∷ bs) xs at
    by_piece (blank m) e xs g next =
        let same : tokens_from (suc n) (more (piece b bs)) bs ≡ xs ++ placed at t ∷ later = ap (λ q. placed_before n q (tokens_from (suc n) (more (piece b bs)) bs)) (sym e) ∙ g in
        let c : IsCut n 0 (b ∷ bs) (placed_before n (piece b bs) xs) at = after_piece n b bs at xs (next xs same) in
        (c.0, c.1 ∙ ap (λ q. placed_before n q xs) e)
    by_piece (spelled x m) e [] g next =
        let same : placed n x ∷ tokens_from (suc n) (more (piece b bs)) bs ≡ placed at t ∷ later = ap (λ q. placed_before n q (tokens_from (suc n) (more (piece b bs)) bs)) (sym e) ∙ g in
        let here : n ≡ at = cc in
        let none : at - n ≡ 0 = omega arith in
        (omega arith, rw none refl)
    by_piece (spelled x m) e (y ∷ ys) g next =
        let same : placed n x ∷ tokens_from (suc n) (more (piece b bs)) bs ≡ y ∷ (ys ++ placed at t ∷ later) = ap (λ q. placed_before n q (tokens_from (suc n) (more (piece b bs)) bs)) (sym e) ∙ g in
        let first : placed n x ≡ y = cc in
        let rest : tokens_from (suc n) (more (piece b bs)) bs ≡ ys ++ placed at t ∷ later = cc in
        let c : IsCut n 0 (b ∷ bs) (placed_before n (piece b bs) ys) at = after_piece n b bs at ys (next ys rest) in
        (c.0, c.1 ∙ ap (λ q. placed_before n q ys) e ∙ ap (λ z. z ∷ ys) first)

pub cuts_before : CutsBefore
unfolding tokens
cuts_before bytes before at t later h =
    let c : IsCut 0 0 bytes before at = cut_before 0 0 bytes before at t later h in
    let e : at - 0 ≡ at = omega arith in
    rw e at c.1
