-- Shapes at the front of a text.
use Rattle.std.proofs.Common.{◌≡◌, ℕ, zero, suc, ◌+◌, ◌-◌, ◌<◌, ◌≤◌, ◌^◌, Bool, true, false, List, [], ◌∷◌, ◌++◌, length, take, drop, refl, sym, ap, ap₂, ◌∙◌, arith, append_assoc, true≢false}
use Rattle.std.specs.Prelude.{◌==◌, ◌&&◌, not, eqb, if◌then◌else◌, codes, pos, negsuc}
use Rattle.std.specs.List.{list_all, prefix_len}
use Rattle.std.specs.Char.{is_ascii_digit}
use Rattle.std.proofs.lemmas.Bool.{and_parts, eqb-true}
use Rattle.std.proofs.lemmas.Bool.Decides.{nat_tests}
use Rattle.std.proofs.Math.Seq.{take-length}
use Rattle.kan_model.specs.Answers.Decimals.{decimal_text}
use Rattle.kan_model.specs.Answers.Text.{name_text, symbol_text, string_text}
use Rattle.kan_terms.specs.Table.{Table}
use Rattle.kan_grammar.specs.Data.Words.{all_digits, begins_with_digit, is_dot, is_word_byte}
use Rattle.kan_model.specs.Answers.InForm.{is_filled}
use Rattle.reify.specs.declared.shaping.Shape.{Shape}
use Rattle.reify.specs.declared.shaping.Shape.TheVariants.{Pair, Name, Sym, Str, Num, Truth, Nil}
use Rattle.reify.specs.Printing.{atom_text, element_text, rest_text}
use Rattle.term_reading.specs.declared.shapes.Lead.{Lead}
use Rattle.term_reading.specs.declared.shapes.Lead.TheVariants as fronts
use Rattle.term_reading.specs.declared.shapes.Step.{Step}
use Rattle.term_reading.specs.declared.shapes.Step.TheVariants as turns
use Rattle.term_reading.specs.Words.{Continues, IsSpelled, ends, is_fine, is_worded}
use Rattle.term_reading.specs.Reading.{GetsDotted, GetsBegun, GetsShape, GetsTruth, follows, front, is_atom, begins_element, turn}
use Rattle.term_reading.proofs.WordLaws.{digits_all, digits_begin, plain_of, plain_parts, symbol_spelled}

-- bytes of words
digit_word : (b : ℕ) → is_ascii_digit b ≡ true → is_word_byte b ≡ true
digit_word b h = grind (arith, nat_tests)

digits_words : (ds : List ℕ) → all_digits ds ≡ true → list_all is_word_byte ds ≡ true
digits_words [] h = refl
digits_words (d ∷ ds) h = let parts = and_parts (is_ascii_digit d) (all_digits ds) h in ap₂ (λ a b. a && b) (digit_word d parts.0) (digits_words ds parts.1)

filled : (w : List ℕ) → is_filled w ≡ true → 0 < length w
filled [] h = absurd (true≢false (sym h))
filled (b ∷ bs) h = omega arith

begun : (ds : List ℕ) → begins_with_digit ds ≡ true → 0 < length ds
begun [] h = absurd (true≢false (sym h))
begun (d ∷ ds) h = omega arith

pub symbol_parts : (table : Table) (s : ℕ) → IsSpelled table → is_fine table (Sym s) ≡ true → (list_all is_word_byte (symbol_text table s) ≡ true) × (is_dot (symbol_text table s) ≡ false) × (0 < length (symbol_text table s))
symbol_parts table s ok fine =
    let low : s < length table.symbols = grind (arith, nat_tests) in
    let parts = plain_parts (symbol_text table s) (plain_of (symbol_text table s) (symbol_spelled table s ok.symbols low)) in
    (parts.0, parts.1, filled (symbol_text table s) parts.4)

pub word_bytes : (table : Table) (x : Shape) → IsSpelled table → is_worded x ≡ true → is_fine table x ≡ true → (list_all is_word_byte (atom_text table x) ≡ true) × (0 < length (atom_text table x))
word_bytes table (Name n) ok worded fine =
    let low : n < 2 ^ 64 = grind (arith, nat_tests) in
    (digits_words (decimal_text n) (digits_all n (omega (arith, low))), omega arith)
word_bytes table (Sym s) ok worded fine = let parts = symbol_parts table s ok fine in (parts.0, parts.2)
word_bytes table (Num (pos n)) ok worded fine =
    let low : n ≤ 2 ^ 127 = grind (arith, nat_tests) in
    (digits_words (decimal_text n) (digits_all n low), begun (decimal_text n) (digits_begin n low))
word_bytes table (Num (negsuc n)) ok worded fine =
    let low : suc n ≤ 2 ^ 127 = grind (arith, nat_tests) in
    (digits_words (decimal_text (suc n)) (digits_all (suc n) low), omega arith)
word_bytes table Pair ok worded fine = absurd (true≢false (sym worded))
word_bytes table (Str s) ok worded fine = absurd (true≢false (sym worded))
word_bytes table (Truth b) ok worded fine = absurd (true≢false (sym worded))
word_bytes table Nil ok worded fine = absurd (true≢false (sym worded))

-- a word that ends goes as far as its bytes
none_further : (more : List ℕ) → ends more ≡ true → prefix_len is_word_byte more ≡ 0
none_further [] h = refl
none_further (b ∷ bs) h = by (is_word_byte b) h
  where
    by : (t : Bool) → not t ≡ true → (if t then 1 + prefix_len is_word_byte bs else 0) ≡ 0
    by true h = absurd (true≢false (sym h))
    by false h = refl

pub word_goes : (w more : List ℕ) → list_all is_word_byte w ≡ true → ends more ≡ true → prefix_len is_word_byte (w ++ more) ≡ length w
word_goes [] more all over = none_further more over
word_goes (b ∷ bs) more all over =
    let parts = and_parts (is_word_byte b) (list_all is_word_byte bs) all in
    ap (λ t. if t then 1 + prefix_len is_word_byte (bs ++ more) else 0) parts.0 ∙ one_more (prefix_len is_word_byte (bs ++ more)) (length bs) (word_goes bs more parts.1 over)
  where
    one_more : (a b : ℕ) → a ≡ b → 1 + a ≡ suc b
    one_more a b e = omega (arith, e)

pub cut_front : (w more : List ℕ) → take (length w) (w ++ more) ≡ w
cut_front [] more = refl
cut_front (b ∷ bs) more = ap (λ l. b ∷ l) (cut_front bs more)

pub cut_back : (w more : List ℕ) → drop (length w) (w ++ more) ≡ more
cut_back [] more = refl
cut_back (b ∷ bs) more = cut_back bs more

pub cut_all : {X : Type 0} (xs : List X) (n : ℕ) → n ≤ length xs → take (length xs - n) (drop n xs) ≡ drop n xs
cut_all [] zero h = refl
cut_all [] (suc n) h = absurd (let none : ⊥ = omega (arith, h) in none)
cut_all (x ∷ xs) zero h = ap (λ k. take k (x ∷ xs)) (let e : suc (length xs) - 0 ≡ suc (length xs) = omega arith in e) ∙ take-length (x ∷ xs)
cut_all (x ∷ xs) (suc n) h = ap (λ k. take k (drop n xs)) (let e : suc (length xs) - suc n ≡ length xs - n = omega arith in e) ∙ cut_all xs n (let l : n ≤ length xs = omega (arith, h) in l)

-- the word at the front
pub word_got : (table : Table) (x : Shape) (bytes more : List ℕ) (n : ℕ) → IsSpelled table → is_worded x ≡ true → is_fine table x ≡ true → ends more ≡ true → bytes ≡ atom_text table x ++ more →
    (0 < prefix_len is_word_byte bytes → n ≡ prefix_len is_word_byte bytes) → (take n bytes ≡ atom_text table x) × (drop n bytes ≡ more)
word_got table x bytes more n ok worded fine over is known =
    let parts = word_bytes table x ok worded fine in
    let far : prefix_len is_word_byte bytes ≡ length (atom_text table x) = ap (prefix_len is_word_byte) is ∙ word_goes (atom_text table x) more parts.0 over in
    let many : n ≡ length (atom_text table x) = known (omega (arith, far, parts.1)) ∙ far in
    (ap₂ take many is ∙ cut_front (atom_text table x) more, ap₂ drop many is ∙ cut_back (atom_text table x) more)

-- the name at the front
pub name_got : (n : ℕ) (bytes more : List ℕ) (k : ℕ) → n < 2 ^ 64 → ends more ≡ true → bytes ≡ name_text n ++ more → (0 < prefix_len is_word_byte bytes → k ≡ prefix_len is_word_byte bytes) →
    (take k bytes ≡ name_text n) × (drop k bytes ≡ more)
name_got n bytes more k low over is known =
    let far : prefix_len is_word_byte bytes ≡ length (name_text n) = ap (prefix_len is_word_byte) is ∙ word_goes (name_text n) more (digits_words (decimal_text n) (digits_all n (omega (arith, low)))) over in
    let many : k ≡ length (name_text n) = known (omega (arith, far)) ∙ far in
    (ap₂ take many is ∙ cut_front (name_text n) more, ap₂ drop many is ∙ cut_back (name_text n) more)

-- what an element begins with
abbrev pub front_of : Shape → Lead
front_of Pair = fronts.Bracket
front_of Nil = fronts.Bracket
front_of (Truth b) = fronts.Hash
front_of (Str s) = fronts.Mark
front_of (Name n) = fronts.Word
front_of (Sym s) = fronts.Word
front_of (Num z) = fronts.Word

abbrev pub code : Lead → ℕ
code fronts.Bracket = 0
code fronts.Hash = 1
code fronts.Mark = 2
code fronts.Word = 3

word_front : (b : ℕ) (bs : List ℕ) → is_word_byte b ≡ true → front (b ∷ bs) ≡ fronts.Word
word_front b bs h =
    let bracket_byte : eqb b 40 ≡ false = grind (arith, nat_tests) in
    let hash : eqb b 35 ≡ false = grind (arith, nat_tests) in
    let mark : eqb b 34 ≡ false = grind (arith, nat_tests) in
    rw (bracket_byte, hash, mark) refl

words_front : (w more : List ℕ) → list_all is_word_byte w ≡ true → 0 < length w → front (w ++ more) ≡ fronts.Word
words_front [] more all some = absurd (let none : ⊥ = omega (arith, some) in none)
words_front (b ∷ bs) more all some = word_front b (bs ++ more) (and_parts (is_word_byte b) (list_all is_word_byte bs) all).0

worded_front : (table : Table) (x : Shape) (more : List ℕ) → IsSpelled table → is_worded x ≡ true → is_fine table x ≡ true → front (atom_text table x ++ more) ≡ fronts.Word
worded_front table x more ok worded fine = let parts = word_bytes table x ok worded fine in words_front (atom_text table x) more parts.0 parts.1

element_front : (table : Table) (x : Shape) (more : List ℕ) → IsSpelled table → is_fine table x ≡ true → front (element_text table x ++ more) ≡ front_of x
element_front table Pair more ok fine = refl
element_front table Nil more ok fine = refl
element_front table (Truth true) more ok fine = refl
element_front table (Truth false) more ok fine = refl
element_front table (Str s) more ok fine = refl
element_front table (Name n) more ok fine = refl
element_front table (Sym s) more ok fine = worded_front table (Sym s) more ok refl fine
element_front table (Num z) more ok fine = worded_front table (Num z) more ok refl fine

front_known : (table : Table) (x : Shape) (bytes more : List ℕ) (f : Lead) → IsSpelled table → is_fine table x ≡ true → bytes ≡ element_text table x ++ more → front bytes ≡ f → code f ≡ code (front_of x)
front_known table x bytes more f ok fine is found = ap code (sym found ∙ ap front is ∙ element_front table x more ok fine)

pub begun_got : (new : Table) (bytes behind left : List ℕ) (shape : Shape) → front bytes ≡ fronts.Bracket → behind ≡ drop 1 bytes → GetsBegun behind shape left → GetsShape new true bytes shape left
begun_got new bytes behind left shape found cut got table on Pair more fine over is = got.0 more over (cut ∙ ap (drop 1) is)
begun_got new bytes behind left shape found cut got table on Nil more fine over is = got.1 more (cut ∙ ap (drop 1) is)
begun_got new bytes behind left shape found cut got table on (Truth b) more fine over is = absurd (let e : 0 ≡ 1 = front_known table (Truth b) bytes more fronts.Bracket on.spelled fine is found in omega (arith, e))
begun_got new bytes behind left shape found cut got table on (Str s) more fine over is = absurd (let e : 0 ≡ 2 = front_known table (Str s) bytes more fronts.Bracket on.spelled fine is found in omega (arith, e))
begun_got new bytes behind left shape found cut got table on (Name n) more fine over is = absurd (let e : 0 ≡ 3 = front_known table (Name n) bytes more fronts.Bracket on.spelled fine is found in omega (arith, e))
begun_got new bytes behind left shape found cut got table on (Sym s) more fine over is = absurd (let e : 0 ≡ 3 = front_known table (Sym s) bytes more fronts.Bracket on.spelled fine is found in omega (arith, e))
begun_got new bytes behind left shape found cut got table on (Num z) more fine over is = absurd (let e : 0 ≡ 3 = front_known table (Num z) bytes more fronts.Bracket on.spelled fine is found in omega (arith, e))

hash_begun : (bytes : List ℕ) → front bytes ≡ fronts.Hash → bytes ≡ 35 ∷ drop 1 bytes
hash_begun [] h = absurd (let e : 3 ≡ 1 = ap code h in omega (arith, e))
hash_begun (b ∷ bs) h = by (eqb b 40) (eqb b 35) (eqb b 34) refl h
  where
    by : (x y z : Bool) → eqb b 35 ≡ y → (if x then fronts.Bracket else (if y then fronts.Hash else (if z then fronts.Mark else fronts.Word))) ≡ fronts.Hash → b ∷ bs ≡ 35 ∷ bs
    by true y z e h = absurd (let e : 0 ≡ 1 = ap code h in omega (arith, e))
    by false true z e h = ap (λ c. c ∷ bs) (eqb-true b 35 e)
    by false false true e h = absurd (let e : 2 ≡ 1 = ap code h in omega (arith, e))
    by false false false e h = absurd (let e : 3 ≡ 1 = ap code h in omega (arith, e))

mark_begun : (bytes : List ℕ) → front bytes ≡ fronts.Mark → bytes ≡ 34 ∷ drop 1 bytes
mark_begun [] h = absurd (let e : 3 ≡ 2 = ap code h in omega (arith, e))
mark_begun (b ∷ bs) h = by (eqb b 40) (eqb b 35) (eqb b 34) refl h
  where
    by : (x y z : Bool) → eqb b 34 ≡ z → (if x then fronts.Bracket else (if y then fronts.Hash else (if z then fronts.Mark else fronts.Word))) ≡ fronts.Mark → b ∷ bs ≡ 34 ∷ bs
    by true y z e h = absurd (let e : 0 ≡ 2 = ap code h in omega (arith, e))
    by false true z e h = absurd (let e : 1 ≡ 2 = ap code h in omega (arith, e))
    by false false true e h = ap (λ c. c ∷ bs) (eqb-true b 34 e)
    by false false false e h = absurd (let e : 3 ≡ 2 = ap code h in omega (arith, e))

pub hash_got : (new : Table) (bytes behind left : List ℕ) (shape : Shape) → front bytes ≡ fronts.Hash → behind ≡ drop 1 bytes → GetsTruth behind shape left → GetsShape new true bytes shape left
hash_got new bytes behind left shape found cut got table on (Truth b) more fine over is = got b more (ap (λ l. 35 ∷ l) cut ∙ sym (hash_begun bytes found) ∙ is)
hash_got new bytes behind left shape found cut got table on Pair more fine over is = absurd (let e : 1 ≡ 0 = front_known table Pair bytes more fronts.Hash on.spelled fine is found in omega (arith, e))
hash_got new bytes behind left shape found cut got table on Nil more fine over is = absurd (let e : 1 ≡ 0 = front_known table Nil bytes more fronts.Hash on.spelled fine is found in omega (arith, e))
hash_got new bytes behind left shape found cut got table on (Str s) more fine over is = absurd (let e : 1 ≡ 2 = front_known table (Str s) bytes more fronts.Hash on.spelled fine is found in omega (arith, e))
hash_got new bytes behind left shape found cut got table on (Name n) more fine over is = absurd (let e : 1 ≡ 3 = front_known table (Name n) bytes more fronts.Hash on.spelled fine is found in omega (arith, e))
hash_got new bytes behind left shape found cut got table on (Sym s) more fine over is = absurd (let e : 1 ≡ 3 = front_known table (Sym s) bytes more fronts.Hash on.spelled fine is found in omega (arith, e))
hash_got new bytes behind left shape found cut got table on (Num z) more fine over is = absurd (let e : 1 ≡ 3 = front_known table (Num z) bytes more fronts.Hash on.spelled fine is found in omega (arith, e))

pub mark_got : (new : Table) (bytes behind left : List ℕ) (shape : Shape) → front bytes ≡ fronts.Mark → behind ≡ drop 1 bytes →
    ((table : Table) → Continues new table → (s : ℕ) (more : List ℕ) → is_fine table (Str s) ≡ true → 34 ∷ behind ≡ string_text table s ++ more → (shape ≡ Str s) × (left ≡ more)) → GetsShape new true bytes shape left
mark_got new bytes behind left shape found cut got table on (Str s) more fine over is = got table on s more fine (ap (λ l. 34 ∷ l) cut ∙ sym (mark_begun bytes found) ∙ is)
mark_got new bytes behind left shape found cut got table on Pair more fine over is = absurd (let e : 2 ≡ 0 = front_known table Pair bytes more fronts.Mark on.spelled fine is found in omega (arith, e))
mark_got new bytes behind left shape found cut got table on Nil more fine over is = absurd (let e : 2 ≡ 0 = front_known table Nil bytes more fronts.Mark on.spelled fine is found in omega (arith, e))
mark_got new bytes behind left shape found cut got table on (Truth b) more fine over is = absurd (let e : 2 ≡ 1 = front_known table (Truth b) bytes more fronts.Mark on.spelled fine is found in omega (arith, e))
mark_got new bytes behind left shape found cut got table on (Name n) more fine over is = absurd (let e : 2 ≡ 3 = front_known table (Name n) bytes more fronts.Mark on.spelled fine is found in omega (arith, e))
mark_got new bytes behind left shape found cut got table on (Sym s) more fine over is = absurd (let e : 2 ≡ 3 = front_known table (Sym s) bytes more fronts.Mark on.spelled fine is found in omega (arith, e))
mark_got new bytes behind left shape found cut got table on (Num z) more fine over is = absurd (let e : 2 ≡ 3 = front_known table (Num z) bytes more fronts.Mark on.spelled fine is found in omega (arith, e))

pub word_shape_got : (new : Table) (bytes left : List ℕ) (shape : Shape) → front bytes ≡ fronts.Word →
    ((table : Table) → Continues new table → (x : Shape) (more : List ℕ) → is_worded x ≡ true → is_fine table x ≡ true → ends more ≡ true → bytes ≡ atom_text table x ++ more → (shape ≡ x) × (left ≡ more)) → GetsShape new true bytes shape left
word_shape_got new bytes left shape found got table on (Name n) more fine over is = got table on (Name n) more refl fine over is
word_shape_got new bytes left shape found got table on (Sym s) more fine over is = got table on (Sym s) more refl fine over is
word_shape_got new bytes left shape found got table on (Num z) more fine over is = got table on (Num z) more refl fine over is
word_shape_got new bytes left shape found got table on Pair more fine over is = absurd (let e : 3 ≡ 0 = front_known table Pair bytes more fronts.Word on.spelled fine is found in omega (arith, e))
word_shape_got new bytes left shape found got table on Nil more fine over is = absurd (let e : 3 ≡ 0 = front_known table Nil bytes more fronts.Word on.spelled fine is found in omega (arith, e))
word_shape_got new bytes left shape found got table on (Truth b) more fine over is = absurd (let e : 3 ≡ 1 = front_known table (Truth b) bytes more fronts.Word on.spelled fine is found in omega (arith, e))
word_shape_got new bytes left shape found got table on (Str s) more fine over is = absurd (let e : 3 ≡ 2 = front_known table (Str s) bytes more fronts.Word on.spelled fine is found in omega (arith, e))

-- what comes behind an element
abbrev pub turn_of : Shape → Step
turn_of Pair = turns.Next
turn_of Nil = turns.Close
turn_of _ = turns.Dot

abbrev pub turn_code : Step → ℕ
turn_code turns.Next = 0
turn_code turns.Close = 1
turn_code turns.Dot = 2

next_turn : (more : List ℕ) → begins_element more ≡ true → turn (32 ∷ more) ≡ turns.Next
next_turn [] over = refl
next_turn (b ∷ []) over = refl
next_turn (b ∷ c ∷ cs) over = by (b == 46 && c == 32) (and_parts (not (b == 41)) (not (b == 46 && c == 32)) over).1
  where
    by : (t : Bool) → not t ≡ true → (if t then turns.Dot else turns.Next) ≡ turns.Next
    by true h = absurd (true≢false (sym h))
    by false h = refl

close_turn : (more : List ℕ) → turn (41 ∷ more) ≡ turns.Close
close_turn [] = refl
close_turn (b ∷ []) = refl
close_turn (b ∷ c ∷ cs) = refl

rest_turn : (table : Table) (x : Shape) (more : List ℕ) → follows false x more ≡ true → turn (rest_text table x ++ more) ≡ turn_of x
rest_turn table Pair more over = next_turn more over
rest_turn table Nil more over = close_turn more
rest_turn table (Name n) more over = refl
rest_turn table (Sym s) more over = refl
rest_turn table (Str s) more over = refl
rest_turn table (Num z) more over = refl
rest_turn table (Truth b) more over = refl

turn_known : (table : Table) (x : Shape) (bytes more : List ℕ) (t : Step) → follows false x more ≡ true → bytes ≡ rest_text table x ++ more → turn bytes ≡ t → turn_code t ≡ turn_code (turn_of x)
turn_known table x bytes more t over is found = ap turn_code (sym found ∙ ap turn is ∙ rest_turn table x more over)

dot_by : (bytes behind left text more : List ℕ) (new table : Table) (shape x : Shape) → behind ≡ drop 3 bytes → GetsDotted new behind shape left → Continues new table → is_atom x ≡ true → is_fine table x ≡ true → text ≡ atom_text table x →
    bytes ≡ (codes " . " ++ text ++ 41 ∷ []) ++ more → (shape ≡ x) × (left ≡ more)
dot_by bytes behind left text more new table shape x cut got on atom fine same is =
    got table on x more atom fine (cut ∙ ap (drop 3) is ∙ append_assoc text (41 ∷ []) more ∙ ap (λ l. l ++ 41 ∷ more) same)

pub dot_got : (new : Table) (bytes behind left : List ℕ) (shape : Shape) → turn bytes ≡ turns.Dot → behind ≡ drop 3 bytes → GetsDotted new behind shape left → GetsShape new false bytes shape left
dot_got new bytes behind left shape found cut got table on Pair more fine over is = absurd (let e : 2 ≡ 0 = turn_known table Pair bytes more turns.Dot over is found in omega (arith, e))
dot_got new bytes behind left shape found cut got table on Nil more fine over is = absurd (let e : 2 ≡ 1 = turn_known table Nil bytes more turns.Dot over is found in omega (arith, e))
dot_got new bytes behind left shape found cut got table on (Name n) more fine over is = dot_by bytes behind left _ more new table shape (Name n) cut got on refl fine refl is
dot_got new bytes behind left shape found cut got table on (Sym s) more fine over is = dot_by bytes behind left _ more new table shape (Sym s) cut got on refl fine refl is
dot_got new bytes behind left shape found cut got table on (Str s) more fine over is = dot_by bytes behind left _ more new table shape (Str s) cut got on refl fine refl is
dot_got new bytes behind left shape found cut got table on (Num z) more fine over is = dot_by bytes behind left _ more new table shape (Num z) cut got on refl fine refl is
dot_got new bytes behind left shape found cut got table on (Truth b) more fine over is = dot_by bytes behind left _ more new table shape (Truth b) cut got on refl fine refl is

-- the last part of a list and its close
pub dotted_got : (new : Table) (bytes rest left : List ℕ) (shape : Shape) → GetsShape new true bytes shape rest → left ≡ drop 1 rest → GetsDotted new bytes shape left
dotted_got new bytes rest left shape got cut table on x more atom fine is = by x atom fine is
  where
    done : (y : Shape) → (shape ≡ y) × (rest ≡ 41 ∷ more) → (shape ≡ y) × (left ≡ more)
    done y h = (h.0, cut ∙ ap (drop 1) h.1)

    by : (y : Shape) → is_atom y ≡ true → is_fine table y ≡ true → bytes ≡ atom_text table y ++ 41 ∷ more → (shape ≡ y) × (left ≡ more)
    by Pair atom fine is = absurd (true≢false (sym atom))
    by Nil atom fine is = done Nil (got table on Nil (41 ∷ more) fine refl is)
    by (Name n) atom fine is = done (Name n) (got table on (Name n) (41 ∷ more) fine refl is)
    by (Sym s) atom fine is = done (Sym s) (got table on (Sym s) (41 ∷ more) fine refl is)
    by (Str s) atom fine is = done (Str s) (got table on (Str s) (41 ∷ more) fine refl is)
    by (Num z) atom fine is = done (Num z) (got table on (Num z) (41 ∷ more) fine refl is)
    by (Truth b) atom fine is = done (Truth b) (got table on (Truth b) (41 ∷ more) fine refl is)
