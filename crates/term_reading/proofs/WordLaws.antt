-- Words: how far they go, and what the texts of names, numbers and symbols are.
use Rattle.std.proofs.Common.{◌≡◌, ℕ, zero, suc, ◌<◌, ◌≤◌, ◌^◌, Bool, true, false, List, [], ◌∷◌, ◌++◌, length, refl, sym, ap, ap₂, ◌∙◌, arith, true≢false, subst, get_or, IsUtf8, rules, to_z, of_z}
use Rattle.std.proofs.Math.Facts.{to_z-of_z}
use Rattle.std.specs.Prelude.{◌==◌, ◌&&◌, not, nat_lt, if◌then◌else◌, ℤ, pos, negsuc, neg_ℤ, Option, Some, None, Result, Ok, Err, unwrap_or, is_some, option_map, bytes_eq, IfOk}
use Rattle.std.specs.List.{list_all}
use Rattle.std.specs.Int.{w128}
use Rattle.std.specs.Int.RustNames.{FitsSigned}
use Rattle.std.specs.Fmt.{decimal}
use Rattle.std.specs.Str.{is_utf8}
use Rattle.std.specs.Str.Parse.{IsNumeral, ParsesUnsigned, ParsesSigned, digits_value}
use Rattle.std.specs.Char.{is_ascii_digit}
use Rattle.std.proofs.lemmas.Bool.{and_parts}
use Rattle.std.proofs.lemmas.Bool.Decides.{nat_tests}
use Rattle.std.proofs.lemmas.Str.{IsUtf8-from_ascii, IsUtf8-from_is_utf8, is_utf8-from_IsUtf8}
use Rattle.std.proofs.lemmas.List.Folds.{list_all-append}
use Rattle.std.proofs.lemmas.Result.{Ok-from_Ok_iff}
use Rattle.std.proofs.lemmas.Str.Parse.{IsNumeralModel, numerals_by_value, tells_digits, parse_signed_digits, parse_signed_minus}
use Rattle.std.proofs.lemmas.Fmt.{parse-decimal_wide, decimal_is_IsNumeral_wide, IsAscii-decimal_wide}
use Rattle.std.proofs.lemmas.Option.{slice_get-get_or}
use Rattle.kan_model.specs.Answers.Decimals.{decimal_text, number_text}
use Rattle.kan_model.specs.Answers.Text.{name_text, symbol_text}
use Rattle.kan_model.proofs.Answering.DecimalLaws.{decimal_as_printed}
use Rattle.kan_terms.specs.Table.{Table, IsDistinct, name_of, number_of, with_symbol}
use Rattle.kan_terms.proofs.TableLaws.{number_of-append, number_of-name_of}
use Rattle.kan_grammar.specs.Data.Words.{all_digits, begins_with_digit, is_dot, is_in_range, is_reserved, is_word_byte, looks_like_number}
use Rattle.kan_grammar.proofs.Texts.NameLaws.{extends_symbol}
use Rattle.kan_model.specs.Answers.InForm.{is_filled}
use Rattle.reify.specs.declared.shaping.Shape.{Shape}
use Rattle.reify.specs.declared.shaping.Shape.TheVariants.{Pair, Name, Sym, Str, Num, Truth, Nil}
use Rattle.reify.specs.Printing.{atom_text}
use Rattle.term_reading.specs.Words.{AreSymbols, Continues, IsSpelled, Moves, is_fine, is_plain, is_string, is_symbol, is_worded}

-- digits
own : IsNumeralModel (λ ds. all_digits ds ≡ true) (digits_value 10)
own = numerals_by_value _ (search rules)

few_128 : (n : ℕ) → n ≤ 2 ^ 127 → n < 10 ^ 64
few_128 n h = omega arith

printed : (n : ℕ) → n ≤ 2 ^ 127 → decimal_text n ≡ decimal n
printed n h = decimal_as_printed n (few_128 n h)

numeral : (n : ℕ) → n ≤ 2 ^ 127 → IsNumeral 10 (decimal_text n)
numeral n h = subst (IsNumeral 10) (sym (printed n h)) (decimal_is_IsNumeral_wide n (few_128 n h)).0

pub digits_all : (n : ℕ) → n ≤ 2 ^ 127 → all_digits (decimal_text n) ≡ true
digits_all n h = own.from (decimal_text n) (numeral n h).1

digit_begins : (ds : List ℕ) → 0 < length ds → all_digits ds ≡ true → begins_with_digit ds ≡ true
digit_begins [] some all = absurd (omega (arith, some))
digit_begins (d ∷ ds) some all = (and_parts (is_ascii_digit d) (all_digits ds) all).0

pub digits_begin : (n : ℕ) → n ≤ 2 ^ 127 → begins_with_digit (decimal_text n) ≡ true
digits_begin n h = digit_begins (decimal_text n) (numeral n h).0 (digits_all n h)

pub digits_utf8 : (n : ℕ) → n ≤ 2 ^ 127 → IsUtf8 (decimal_text n)
digits_utf8 n h = subst IsUtf8 (sym (printed n h)) (IsUtf8-from_ascii (decimal n) (IsAscii-decimal_wide n (few_128 n h)))

-- a name's number is read back
pub short_read : {E : Type 0} (n : ℕ) (digits : List ℕ) (r : Result ℕ E) → n < 2 ^ 64 → digits ≡ decimal_text n → ParsesUnsigned 64 10 digits r → r ≡ Ok n
short_read n digits r low is parsed = parse-decimal_wide 64 n digits r low (few_128 n (omega (arith, low))) (is ∙ printed n (omega (arith, low))) parsed

pub ok_same : {T E : Type 0} (r : Result T E) (x y : T) → r ≡ Ok x → r ≡ Ok y → x ≡ y
ok_same r x y a b = cc

pub ok_err : {T E : Type 0} (r : Result T E) (e : E) (y : T) → r ≡ Err e → r ≡ Ok y → ⊥
ok_err r e y a b = cc

-- the bytes of a number are a text
pub number_utf8 : (z : ℤ) → is_in_range z ≡ true → IsUtf8 (number_text z)
number_utf8 (pos n) h = digits_utf8 n (let low : n ≤ 2 ^ 127 = grind (arith, nat_tests) in low)
number_utf8 (negsuc n) h =
    let low : suc n ≤ 2 ^ 127 = grind (arith, nat_tests) in
    subst IsUtf8 (ap (λ l. 45 ∷ l) (sym (printed (suc n) low))) (IsUtf8-from_ascii (45 ∷ decimal (suc n)) ascii)
  where
    ascii : (i : ℕ) → get_or (45 ∷ decimal (suc n)) i 0 < 128
    ascii zero = omega arith
    ascii (suc i) = IsAscii-decimal_wide (suc n) (few_128 (suc n) (let low : suc n ≤ 2 ^ 127 = grind (arith, nat_tests) in low)) i

-- a number is read back
pub number_read : {E : Type 0} (z : ℤ) (word : List ℕ) (r : Result ℤ E) → is_in_range z ≡ true → word ≡ number_text z → ParsesSigned w128 10 word r → r ≡ Ok z
number_read (pos n) word r range is parsed =
    let low : n < 2 ^ 127 = grind (arith, nat_tests) in
    let small : n < 10 ^ 64 = few_128 n (omega (arith, low)) in
    let k = decimal_is_IsNumeral_wide n small in
    let same : word ≡ decimal n = is ∙ decimal_as_printed n small in
    let read = parse_signed_digits (numerals_by_value _ tells_digits) w128 (decimal n) r (subst (λ l. ParsesSigned w128 10 l r) same parsed) k.0.1 in
    Ok-from_Ok_iff r _ _ read (k.0.0, omega (arith, k.1, low)) ∙ ap (λ m. Ok (pos m)) k.1
number_read (negsuc n) word r range is parsed =
    let low : n < 2 ^ 127 = grind (arith, nat_tests) in
    let small : suc n < 10 ^ 64 = few_128 (suc n) (omega (arith, low)) in
    let k = decimal_is_IsNumeral_wide (suc n) small in
    let same : word ≡ 45 ∷ decimal (suc n) = is ∙ ap (λ l. 45 ∷ l) (decimal_as_printed (suc n) small) in
    let read = parse_signed_minus (numerals_by_value _ tells_digits) w128 (45 ∷ decimal (suc n)) r (subst (λ l. ParsesSigned w128 10 l r) same parsed) refl in
    Ok-from_Ok_iff r _ _ read (k.0.1, k.0.0, omega (arith, k.1, low)) ∙ ap (λ m. Ok (neg_ℤ (pos m))) k.1

-- which words names, numbers and symbols are
pub name_reserved : (n : ℕ) → n < 2 ^ 64 → is_reserved (name_text n) ≡ true
name_reserved n low = ap₂ (λ a b. a && b) (digits_begin n (omega (arith, low))) (digits_all n (omega (arith, low)))

digit_first : (ds : List ℕ) → begins_with_digit ds ≡ true → (is_reserved ds ≡ false) × (looks_like_number ds ≡ true)
digit_first [] h = absurd cc
digit_first (d ∷ ds) h = (plain d ds h, looks d ds h)
  where
    plain : (d : ℕ) (ds : List ℕ) → is_ascii_digit d ≡ true → is_reserved (d ∷ ds) ≡ false
    plain d ds h = let other : (d == 95) ≡ false = grind (arith, nat_tests) in ap (λ b. b && (begins_with_digit ds && all_digits ds)) other

    looks : (d : ℕ) (ds : List ℕ) → is_ascii_digit d ≡ true → looks_like_number (d ∷ ds) ≡ true
    looks d ds h =
        let plus : (d == 43) ≡ false = grind (arith, nat_tests) in
        let minus : (d == 45) ≡ false = grind (arith, nat_tests) in
        let point : (d == 46) ≡ false = grind (arith, nat_tests) in
        rw (plus, minus, point) h

minus_first : (ds : List ℕ) → begins_with_digit ds ≡ true → looks_like_number (45 ∷ ds) ≡ true
minus_first [] h = absurd cc
minus_first (d ∷ ds) h = let point : (d == 46) ≡ false = grind (arith, nat_tests) in rw point h

pub number_looks : (z : ℤ) → is_in_range z ≡ true → (is_reserved (number_text z) ≡ false) × (looks_like_number (number_text z) ≡ true)
number_looks (pos n) h = digit_first (decimal_text n) (digits_begin n (let low : n ≤ 2 ^ 127 = grind (arith, nat_tests) in low))
number_looks (negsuc n) h = (refl, minus_first (decimal_text (suc n)) (digits_begin (suc n) (let low : suc n ≤ 2 ^ 127 = grind (arith, nat_tests) in low)))

-- each symbol of a spelled table
passes_at : {X : Type 0} (p : X → Bool) (xs : List X) (i : ℕ) (d : X) → i < length xs → list_all p xs ≡ true → p (get_or xs i d) ≡ true
passes_at p [] i d low all = absurd (let none : ⊥ = omega (arith, low) in none)
passes_at p (x ∷ xs) zero d low all = (and_parts (p x) (list_all p xs) all).0
passes_at p (x ∷ xs) (suc i) d low all = passes_at p xs i d (let l : i < length xs = omega (arith, low) in l) (and_parts (p x) (list_all p xs) all).1

pub text_at : (texts : List (List ℕ)) (s : ℕ) → s < length texts → name_of texts s ≡ Some (get_or texts s [])
text_at texts s low = slice_get-get_or texts s [] low

pub symbol_is : (table : Table) (s : ℕ) → s < length table.symbols → symbol_text table s ≡ get_or table.symbols s []
symbol_is table s low = ap (λ o. unwrap_or o []) (text_at table.symbols s low)

pub symbol_spelled : (table : Table) (s : ℕ) → AreSymbols table → s < length table.symbols → is_symbol (symbol_text table s) ≡ true
symbol_spelled table s all low = ap is_symbol (symbol_is table s low) ∙ passes_at is_symbol table.symbols s [] low all

pub plain_of : (w : List ℕ) → is_symbol w ≡ true → is_plain w ≡ true
plain_of w h = (and_parts (is_plain w) (is_utf8 w) h).0

pub utf8_of : (w : List ℕ) → is_symbol w ≡ true → IsUtf8 w
utf8_of w h = IsUtf8-from_is_utf8 w (and_parts (is_plain w) (is_utf8 w) h).1

not_true : (b : Bool) → not b ≡ true → b ≡ false
not_true true h = absurd (true≢false (sym h))
not_true false h = refl

pub plain_parts : (w : List ℕ) → is_plain w ≡ true → (list_all is_word_byte w ≡ true) × (is_dot w ≡ false) × (looks_like_number w ≡ false) × (is_reserved w ≡ false) × (is_filled w ≡ true)
plain_parts w h =
    let one = and_parts (is_filled w && list_all is_word_byte w && not (is_dot w) && not (looks_like_number w)) (not (is_reserved w)) h in
    let two = and_parts (is_filled w && list_all is_word_byte w && not (is_dot w)) (not (looks_like_number w)) one.0 in
    let three = and_parts (is_filled w && list_all is_word_byte w) (not (is_dot w)) two.0 in
    let four = and_parts (is_filled w) (list_all is_word_byte w) three.0 in
    (four.1, not_true _ three.1, not_true _ two.1, not_true _ one.1, four.0)

-- a text's number in a table that goes on is its number there
further : (texts more : List (List ℕ)) (longer : List (List ℕ)) (text : List ℕ) (k s : ℕ) → longer ≡ texts ++ more → IsDistinct longer → number_of texts text ≡ Some k → name_of longer s ≡ Some text → k ≡ s
further texts more longer text k s goes apart known named =
    let one : number_of longer text ≡ Some k = ap (λ l. number_of l text) goes ∙ number_of-append texts more text k known in
    let two : number_of longer text ≡ Some s = number_of-name_of longer text s apart named in
    cc

pub symbol_found : (new table : Table) (word : List ℕ) (k s : ℕ) → Continues new table → number_of new.symbols word ≡ Some k → s < length table.symbols → word ≡ symbol_text table s → k ≡ s
symbol_found new table word k s on known low is =
    further new.symbols on.goes_on.symbols.0 table.symbols word k s on.goes_on.symbols.1 on.spelled.symbols_apart known
    (text_at table.symbols s low ∙ ap Some (sym (symbol_is table s low) ∙ sym is))

pub string_found : (new table : Table) (text : List ℕ) (k s : ℕ) → Continues new table → number_of new.strings text ≡ Some k → s < length table.strings → text ≡ get_or table.strings s [] → k ≡ s
string_found new table text k s on known low is =
    further new.strings on.goes_on.strings.0 table.strings text k s on.goes_on.strings.1 on.spelled.strings_apart known
    (text_at table.strings s low ∙ ap Some (sym is))

pub string_spelled : (table : Table) (s : ℕ) → IsSpelled table → s < length table.strings → is_string (get_or table.strings s []) ≡ true
string_spelled table s ok low = passes_at is_string table.strings s [] low ok.strings

-- a table with a symbol more
with_one : (b : Bool) (p : List ℕ → Bool) (texts : List (List ℕ)) (text : List ℕ) → p text ≡ true → list_all p texts ≡ true → list_all p (if b then texts else texts ++ text ∷ []) ≡ true
with_one true p texts text one all = all
with_one false p texts text one all = list_all-append p texts (text ∷ []) ∙ ap₂ (λ a b. a && b) all (ap (λ b. b && true) one)

pub symbol_moves : (old new : Table) (word : List ℕ) → new ≡ with_symbol old word → is_plain word ≡ true → IsUtf8 word → Moves old (length word) new 0
symbol_moves old new word is plain utf8 =
    let more = extends_symbol old word in
    let some : 0 < length word = filled word (plain_parts word plain).4 in
    subst (λ t. Moves old (length word) t 0) (sym is) (record {
      goes_on = more.goes_on;
      symbols = omega (arith, more.symbols, some);
      strings = omega (arith, more.strings, some);
      spelled = λ all. with_one (is_some (number_of old.symbols word)) is_symbol old.symbols word (ap₂ (λ a b. a && b) plain (is_utf8-from_IsUtf8 word utf8)) all;
    })
  where
    filled : (w : List ℕ) → is_filled w ≡ true → 0 < length w
    filled [] h = absurd (true≢false (sym h))
    filled (b ∷ bs) h = omega arith

-- a shape that is a word
pub word_is_name : (table : Table) (word : List ℕ) (x : Shape) (n : ℕ) → is_worded x ≡ true → is_fine table x ≡ true → IsSpelled table → is_reserved word ≡ true → word ≡ atom_text table x →
    ((m : ℕ) → m < 2 ^ 64 → word ≡ name_text m → n ≡ m) → Name n ≡ x
word_is_name table word (Name m) n worded fine ok reserved is read = ap Name (read m (let low : m < 2 ^ 64 = grind (arith, nat_tests) in low) is)
word_is_name table word (Num z) n worded fine ok reserved is read = absurd (true≢false (sym reserved ∙ ap is_reserved is ∙ (number_looks z fine).0))
word_is_name table word (Sym s) n worded fine ok reserved is read =
    absurd (true≢false (sym reserved ∙ ap is_reserved is ∙ (plain_parts (symbol_text table s) (plain_of (symbol_text table s) (symbol_spelled table s ok.symbols (let low : s < length table.symbols = grind (arith, nat_tests) in low)))).3))
word_is_name table word Pair n worded fine ok reserved is read = absurd (true≢false (sym worded))
word_is_name table word (Str s) n worded fine ok reserved is read = absurd (true≢false (sym worded))
word_is_name table word (Truth b) n worded fine ok reserved is read = absurd (true≢false (sym worded))
word_is_name table word Nil n worded fine ok reserved is read = absurd (true≢false (sym worded))

pub word_is_number : (table : Table) (word : List ℕ) (x y : Shape) → is_worded x ≡ true → is_fine table x ≡ true → IsSpelled table → is_reserved word ≡ false → looks_like_number word ≡ true → word ≡ atom_text table x →
    ((z : ℤ) → is_in_range z ≡ true → word ≡ number_text z → y ≡ Num z) → y ≡ x
word_is_number table word (Name m) y worded fine ok reserved looks is read =
    absurd (true≢false (sym (ap is_reserved is ∙ name_reserved m (let low : m < 2 ^ 64 = grind (arith, nat_tests) in low)) ∙ reserved))
word_is_number table word (Num z) y worded fine ok reserved looks is read = read z fine is
word_is_number table word (Sym s) y worded fine ok reserved looks is read =
    absurd (true≢false (sym looks ∙ ap looks_like_number is ∙ (plain_parts (symbol_text table s) (plain_of (symbol_text table s) (symbol_spelled table s ok.symbols (let low : s < length table.symbols = grind (arith, nat_tests) in low)))).2))
word_is_number table word Pair y worded fine ok reserved looks is read = absurd (true≢false (sym worded))
word_is_number table word (Str s) y worded fine ok reserved looks is read = absurd (true≢false (sym worded))
word_is_number table word (Truth b) y worded fine ok reserved looks is read = absurd (true≢false (sym worded))
word_is_number table word Nil y worded fine ok reserved looks is read = absurd (true≢false (sym worded))

pub word_is_symbol : (table : Table) (word : List ℕ) (x y : Shape) → is_worded x ≡ true → is_fine table x ≡ true → IsSpelled table → is_reserved word ≡ false → looks_like_number word ≡ false → word ≡ atom_text table x →
    ((s : ℕ) → is_fine table (Sym s) ≡ true → word ≡ atom_text table (Sym s) → y ≡ Sym s) → y ≡ x
word_is_symbol table word (Name m) y worded fine ok reserved looks is read =
    absurd (true≢false (sym (ap is_reserved is ∙ name_reserved m (let low : m < 2 ^ 64 = grind (arith, nat_tests) in low)) ∙ reserved))
word_is_symbol table word (Num z) y worded fine ok reserved looks is read = absurd (true≢false (sym (ap looks_like_number is ∙ (number_looks z fine).1) ∙ looks))
word_is_symbol table word (Sym s) y worded fine ok reserved looks is read = read s fine is
word_is_symbol table word Pair y worded fine ok reserved looks is read = absurd (true≢false (sym worded))
word_is_symbol table word (Str s) y worded fine ok reserved looks is read = absurd (true≢false (sym worded))
word_is_symbol table word (Truth b) y worded fine ok reserved looks is read = absurd (true≢false (sym worded))
word_is_symbol table word Nil y worded fine ok reserved looks is read = absurd (true≢false (sym worded))

-- a symbol's word
pub no_symbol : (table : Table) (word : List ℕ) (s : ℕ) → IsSpelled table → s < length table.symbols → word ≡ symbol_text table s → (is_plain word ≡ true) × IsUtf8 word
no_symbol table word s ok low is =
    let spelled : is_symbol word ≡ true = ap is_symbol is ∙ symbol_spelled table s ok.symbols low in (plain_of word spelled, utf8_of word spelled)

pub below_of : (s n : ℕ) → nat_lt s n ≡ true → s < n
below_of s n h = grind (arith, nat_tests)

known_by : (texts : List (List ℕ)) (text : List ℕ) (n : ℕ) → number_of texts text ≡ Some n → n < length texts
known_by [] text n h = absurd cc
known_by (t ∷ ts) text n h = by (λ m. known_by ts text m) (bytes_eq text t) (number_of ts text) refl h
  where
    by : ((m : ℕ) → number_of ts text ≡ Some m → m < length ts) → (b : Bool) (o : Option ℕ) → number_of ts text ≡ o → (if b then Some 0 else option_map (λ m. suc m) o) ≡ Some n → n < suc (length ts)
    by ih true o e f = let z : 0 ≡ n = cc in omega (arith, z)
    by ih false None e f = absurd cc
    by ih false (Some m) e f = let z : suc m ≡ n = cc in omega (arith, z, ih m e)

pub number_below : (texts : List (List ℕ)) (text : List ℕ) (n : ℕ) → number_of texts text ≡ Some n → nat_lt n (length texts) ≡ true
number_below texts text n h = let low : n < length texts = known_by texts text n h in grind (arith, nat_tests)

pub if_ok : {T E : Type 0} {P Q : T → Type 0} (r : Result T E) → ((x : T) → P x → Q x) → IfOk r P → IfOk r Q
if_ok (Ok x) so h = so x h
if_ok (Err e) so h = h

pub fits_range : (z : ℤ) → is_in_range z ≡ true → FitsSigned w128 z
fits_range (pos n) h = record { sfits = (let low : n < 2 ^ 127 = grind (arith, nat_tests) in low) }
fits_range (negsuc n) h = record { sfits = (let low : n < 2 ^ 127 = grind (arith, nat_tests) in low) }

pub num_same : (y z : ℤ) → y ≡ z → is_in_range z ≡ true → Num (to_z w128 (of_z w128 y)) ≡ Num z
num_same y z same range = ap Num (ap (λ x. to_z w128 (of_z w128 x)) same ∙ to_z-of_z (fits_range z range))
