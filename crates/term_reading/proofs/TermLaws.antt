-- A term read shape after shape.
use Rattle.std.proofs.Common.{◌≡◌, ℕ, zero, suc, ◌+◌, ◌<◌, ◌≤◌, ◌^◌, Bool, true, false, List, [], ◌∷◌, ◌++◌, length, drop, refl, sym, ap, ap₂, ◌∙◌, arith, append_assoc, append-nil, true≢false, ◌⊎◌, inl, inr}
use Rattle.std.specs.Prelude.{◌==◌, ◌&&◌, ◌||◌, not, eqb, nat_lt, if◌then◌else◌, codes, pos, negsuc}
use Rattle.std.specs.List.{list_all}
use Rattle.std.proofs.lemmas.Bool.{and_parts}
use Rattle.std.proofs.lemmas.List.{length-drop}
use Rattle.std.proofs.lemmas.Bool.Decides.{nat_tests}
use Rattle.kan_model.specs.Answers.Decimals.{decimal_text, number_text}
use Rattle.kan_model.specs.Answers.Text.{name_text, print, print_rest, string_text, symbol_text, term_text, truth_text}
use Rattle.kan_model.specs.Answers.InForm.{is_filled}
use Rattle.kan_terms.specs.Table.{Table}
use Rattle.kan_terms.specs.Tree.{Tree, Tm}
use Rattle.kan_grammar.specs.Data.Words.{begins_with_digit, is_dot, is_word_byte}
use Rattle.kan_grammar.specs.Texts.TextNames.{GoesOn}
use Rattle.reify.specs.declared.shaping.Shape.{Shape}
use Rattle.reify.specs.declared.shaping.Shape.TheVariants.{Pair, Name, Sym, Str, Num, Truth, Nil}
use Rattle.reify.specs.Printing.{element_text, rest_text}
use Rattle.reify.specs.Shapes.{spelling, spells}
use Rattle.kan_grammar.proofs.Texts.NameLaws.{goes_on_further}
use Rattle.term_reading.specs.Words.{Continues, IsSpelled, Moves, ends, is_fine}
use Rattle.term_reading.specs.Reading.{GetsShape, GetsTerm, follows, is_unfinished, is_pair, unclosed_after, begins_element, text_from}
use Rattle.term_reading.proofs.WordLaws.{digits_begin}
use Rattle.term_reading.proofs.ShapeLaws.{symbol_parts, word_bytes}

-- behind an atom no word goes on
pub rests_end : (table : Table) (n : ℕ) (xs : List Shape) (more : List ℕ) → spells n xs ≡ true → ends more ≡ true → ends (text_from table false n xs ++ more) ≡ true
rests_end table zero [] more whole over = over
rests_end table zero (x ∷ xs) more whole over = over
rests_end table (suc n) [] more whole over = absurd (true≢false (sym whole))
rests_end table (suc n) (Pair ∷ xs) more whole over = refl
rests_end table (suc n) (Nil ∷ xs) more whole over = refl
rests_end table (suc n) (Name m ∷ xs) more whole over = refl
rests_end table (suc n) (Sym s ∷ xs) more whole over = refl
rests_end table (suc n) (Str s ∷ xs) more whole over = refl
rests_end table (suc n) (Num z ∷ xs) more whole over = refl
rests_end table (suc n) (Truth b ∷ xs) more whole over = refl

-- an element begins_element
plain_begins : (b : ℕ) (bs : List ℕ) → eqb b 41 ≡ false → eqb b 46 ≡ false → begins_element (b ∷ bs) ≡ true
plain_begins b [] shut point = ap not shut
plain_begins b (c ∷ cs) shut point = ap₂ (λ x y. not x && not (y && c == 32)) shut point

digits_begin_element : (ds more : List ℕ) → begins_with_digit ds ≡ true → begins_element (ds ++ more) ≡ true
digits_begin_element [] more h = absurd (true≢false (sym h))
digits_begin_element (d ∷ ds) more h =
    let shut : eqb d 41 ≡ false = grind (arith, nat_tests) in
    let point : eqb d 46 ≡ false = grind (arith, nat_tests) in
    plain_begins d (ds ++ more) shut point

word_begins : (w more : List ℕ) → list_all is_word_byte w ≡ true → is_dot w ≡ false → 0 < length w → begins_element (w ++ more) ≡ true
word_begins [] more all dot some = absurd (let none : ⊥ = omega (arith, some) in none)
word_begins (b ∷ []) more all dot some =
    let word : is_word_byte b ≡ true = (and_parts (is_word_byte b) true all).0 in
    let shut : eqb b 41 ≡ false = grind (arith, nat_tests) in
    plain_begins b more shut dot
word_begins (b ∷ c ∷ cs) more all dot some =
    let parts = and_parts (is_word_byte b) (is_word_byte c && list_all is_word_byte cs) all in
    let word : is_word_byte b ≡ true = parts.0 in
    let next : is_word_byte c ≡ true = (and_parts (is_word_byte c) (list_all is_word_byte cs) parts.1).0 in
    let shut : eqb b 41 ≡ false = grind (arith, nat_tests) in
    let blank : eqb c 32 ≡ false = grind (arith, nat_tests) in
    ap₂ (λ x y. not x && not (y)) shut (ap (λ y. (b == 46) && y) blank ∙ and_none (b == 46))
  where
    and_none : (t : Bool) → (t && false) ≡ false
    and_none true = refl
    and_none false = refl

element_begins : (table : Table) (x : Shape) (more : List ℕ) → IsSpelled table → is_fine table x ≡ true → begins_element (element_text table x ++ more) ≡ true
element_begins table Pair [] ok fine = refl
element_begins table Pair (b ∷ bs) ok fine = refl
element_begins table Nil more ok fine = refl
element_begins table (Name n) more ok fine = plain_begins 95 (decimal_text n ++ more) refl refl
element_begins table (Sym s) more ok fine = let parts = symbol_parts table s ok fine in word_begins (symbol_text table s) more parts.0 parts.1 parts.2
element_begins table (Str s) more ok fine = plain_begins 34 _ refl refl
element_begins table (Num (pos n)) more ok fine = digits_begin_element (decimal_text n) more (digits_begin n (let low : n ≤ 2 ^ 127 = grind (arith, nat_tests) in low))
element_begins table (Num (negsuc n)) more ok fine = plain_begins 45 (decimal_text (suc n) ++ more) refl refl
element_begins table (Truth true) more ok fine = refl
element_begins table (Truth false) more ok fine = refl

elements_begin : (table : Table) (n : ℕ) (xs : List Shape) (more : List ℕ) → IsSpelled table → spells (suc n) xs ≡ true → list_all (is_fine table) xs ≡ true → begins_element (text_from table true n xs ++ more) ≡ true
elements_begin table n [] more ok whole fine = absurd (true≢false (sym whole))
elements_begin table n (x ∷ xs) more ok whole fine =
    let behind : List ℕ = text_from table (is_pair x) (unclosed_after n true (is_pair x)) xs in
    ap begins_element (append_assoc (element_text table x) behind more) ∙ element_begins table x (behind ++ more) ok (and_parts (is_fine table x) (list_all (is_fine table) xs) fine).0

-- how many terms are wanted
abbrev pub terms_wanted : Bool → ℕ → ℕ
terms_wanted element n = if element then suc n else n

-- what was read is the front of each term whose text these bytes begin with, and what is left is the text of the rest
abbrev pub LeftTerm : Table → List ℕ → List Shape → Bool → ℕ → List ℕ → Type 0
LeftTerm new start made element n rest =
    (table : Table) → Continues new table → (xs : List Shape) (more : List ℕ) → spells 1 xs ≡ true → list_all (is_fine table) xs ≡ true → ends more ≡ true →
    start ≡ text_from table true 0 xs ++ more →
    (left : List Shape) × (xs ≡ made ++ left) × (spells (terms_wanted element n) left ≡ true) × (list_all (is_fine table) left ≡ true) × (rest ≡ text_from table element n left ++ more)

pub continues_back : (old new table : Table) → GoesOn old new → Continues new table → Continues old table
continues_back old new table goes on = record { goes_on = goes_on_further old new table goes on.goes_on; spelled = on.spelled }

-- how many terms are wanted behind a shape
element_next : (n : ℕ) (x : Shape) (xs : List Shape) → spells (suc n) (x ∷ xs) ≡ true → spells (terms_wanted (is_pair x) (unclosed_after n true (is_pair x))) xs ≡ true
element_next n Pair xs whole = whole
element_next n (Name m) xs whole = whole
element_next n (Sym s) xs whole = whole
element_next n (Num z) xs whole = whole
element_next n (Str s) xs whole = whole
element_next n (Truth b) xs whole = whole
element_next n Nil xs whole = whole

rest_next : (n : ℕ) (x : Shape) (xs : List Shape) → spells (suc n) (x ∷ xs) ≡ true → spells (terms_wanted (is_pair x) (unclosed_after (suc n) false (is_pair x))) xs ≡ true
rest_next n Pair xs whole = whole
rest_next n (Name m) xs whole = whole
rest_next n (Sym s) xs whole = whole
rest_next n (Num z) xs whole = whole
rest_next n (Str s) xs whole = whole
rest_next n (Truth b) xs whole = whole
rest_next n Nil xs whole = whole

-- what follows it
follow_element : (table : Table) (n : ℕ) (x : Shape) (xs : List Shape) (more : List ℕ) → IsSpelled table → spells (suc n) (x ∷ xs) ≡ true → list_all (is_fine table) xs ≡ true → ends more ≡ true →
    follows true x (text_from table (is_pair x) (unclosed_after n true (is_pair x)) xs ++ more) ≡ true
follow_element table n Pair xs more ok whole fine over = elements_begin table (suc n) xs more ok whole fine
follow_element table n (Name m) xs more ok whole fine over = rests_end table n xs more whole over
follow_element table n (Sym s) xs more ok whole fine over = rests_end table n xs more whole over
follow_element table n (Num z) xs more ok whole fine over = rests_end table n xs more whole over
follow_element table n (Str s) xs more ok whole fine over = refl
follow_element table n (Truth b) xs more ok whole fine over = refl
follow_element table n Nil xs more ok whole fine over = refl

follow_rest : (table : Table) (n : ℕ) (x : Shape) (xs : List Shape) (more : List ℕ) → IsSpelled table → spells (suc n) (x ∷ xs) ≡ true → list_all (is_fine table) xs ≡ true →
    follows false x (text_from table (is_pair x) (unclosed_after (suc n) false (is_pair x)) xs ++ more) ≡ true
follow_rest table n Pair xs more ok whole fine = elements_begin table (suc n) xs more ok whole fine
follow_rest table n (Name m) xs more ok whole fine = refl
follow_rest table n (Sym s) xs more ok whole fine = refl
follow_rest table n (Num z) xs more ok whole fine = refl
follow_rest table n (Str s) xs more ok whole fine = refl
follow_rest table n (Truth b) xs more ok whole fine = refl
follow_rest table n Nil xs more ok whole fine = refl

-- one shape
pub term_goes_on : (old new : Table) (start rest left : List ℕ) (made grown : List Shape) (element pair : Bool) (lists next : ℕ) (shape : Shape) →
    (element ≡ false → 0 < lists) → GoesOn old new → GetsShape new element rest shape left → grown ≡ made ++ shape ∷ [] → pair ≡ is_pair shape → next ≡ unclosed_after lists element pair →
    LeftTerm old start made element lists rest → LeftTerm new start grown pair next left
term_goes_on old new start rest left made grown element pair lists next shape some goes got add tells counts held table on xs more whole fine over is =
    let h = held table (continues_back old new table goes on) xs more whole fine over is in
    by element lists some got counts h.0 h.1 h.2 h.3 h.4
  where
    Goal : Type 0
    Goal = (ls : List Shape) × (xs ≡ grown ++ ls) × (spells (terms_wanted pair next) ls ≡ true) × (list_all (is_fine table) ls ≡ true) × (left ≡ text_from table pair next ls ++ more)

    finish : (e : Bool) (n : ℕ) (x : Shape) (ls : List Shape) → next ≡ unclosed_after n e pair → shape ≡ x → xs ≡ made ++ x ∷ ls → list_all (is_fine table) ls ≡ true →
        spells (terms_wanted (is_pair x) (unclosed_after n e (is_pair x))) ls ≡ true → left ≡ text_from table (is_pair x) (unclosed_after n e (is_pair x)) ls ++ more → Goal
    finish e n x ls c same p f w l =
        let which : pair ≡ is_pair x = tells ∙ ap is_pair same in
        let many : next ≡ unclosed_after n e (is_pair x) = c ∙ ap (unclosed_after n e) which in (
          ls,
          p ∙ sym (append_assoc made (x ∷ []) ls) ∙ ap (λ l. l ++ ls) (sym (add ∙ ap (λ y. made ++ y ∷ []) same)),
          ap₂ (λ b k. spells (terms_wanted b k) ls) which many ∙ w,
          f,
          l ∙ ap₂ (λ b k. text_from table b k ls ++ more) (sym which) (sym many),
        )

    by : (e : Bool) (n : ℕ) → (e ≡ false → 0 < n) → GetsShape new e rest shape left → next ≡ unclosed_after n e pair → (ls : List Shape) → xs ≡ made ++ ls → spells (terms_wanted e n) ls ≡ true → list_all (is_fine table) ls ≡ true →
        rest ≡ text_from table e n ls ++ more → Goal
    by true n s g c [] p w f r = absurd (true≢false (sym w))
    by true n s g c (x ∷ ls) p w f r =
        let parts = and_parts (is_fine table x) (list_all (is_fine table) ls) f in
        let behind : List ℕ = text_from table (is_pair x) (unclosed_after n true (is_pair x)) ls in
        let read = g table on x (behind ++ more) parts.0 (follow_element table n x ls more on.spelled w parts.1 over) (r ∙ append_assoc (element_text table x) behind more) in
        finish true n x ls c read.0 p parts.1 (element_next n x ls w) read.1
    by false zero s g c ls p w f r = absurd (let some : 0 < 0 = s refl in let none : ⊥ = omega (arith, some) in none)
    by false (suc n) s g c [] p w f r = absurd (true≢false (sym w))
    by false (suc n) s g c (x ∷ ls) p w f r =
        let parts = and_parts (is_fine table x) (list_all (is_fine table) ls) f in
        let behind : List ℕ = text_from table (is_pair x) (unclosed_after (suc n) false (is_pair x)) ls in
        let read = g table on x (behind ++ more) parts.0 (follow_rest table n x ls more on.spelled w parts.1) (r ∙ append_assoc (rest_text table x) behind more) in
        finish false (suc n) x ls c read.0 p parts.1 (rest_next n x ls w) read.1

-- a shape has a text
element_some : (table : Table) (x : Shape) → IsSpelled table → is_fine table x ≡ true → 0 < length (element_text table x)
element_some table Pair ok fine = omega arith
element_some table Nil ok fine = omega arith
element_some table (Name n) ok fine = omega arith
element_some table (Sym s) ok fine = (symbol_parts table s ok fine).2
element_some table (Str s) ok fine = omega arith
element_some table (Num z) ok fine = (word_bytes table (Num z) ok refl fine).1
element_some table (Truth true) ok fine = omega arith
element_some table (Truth false) ok fine = omega arith

rest_some : (table : Table) (x : Shape) → 0 < length (rest_text table x)
rest_some table Pair = omega arith
rest_some table Nil = omega arith
rest_some table (Name n) = omega arith
rest_some table (Sym s) = omega arith
rest_some table (Str s) = omega arith
rest_some table (Num z) = omega arith
rest_some table (Truth b) = omega arith

-- nothing more is wanted, or nothing more is there
pub term_ends : (new : Table) (start : List ℕ) (made : List Shape) (element : Bool) (n : ℕ) (rest : List ℕ) → LeftTerm new start made element n rest →
    ((element ≡ true → ⊥) × (n ≡ 0)) ⊎ (length rest ≡ 0) → GetsTerm new start made rest
term_ends new start made element n rest held ended table on xs more whole fine over is =
    let h = held table on xs more whole fine over is in
    by element n ended h.0 h.1 h.2 h.3 h.4
  where
    short : (w u : List ℕ) → 0 < length w → length rest ≡ 0 → rest ≡ (w ++ u) ++ more → ⊥
    short [] u some none e = omega (arith, some)
    short (b ∷ bs) u some none e = omega (arith, none, ap length e)

    by : (e : Bool) (k : ℕ) → ((e ≡ true → ⊥) × (k ≡ 0)) ⊎ (length rest ≡ 0) → (ls : List Shape) → xs ≡ made ++ ls → spells (terms_wanted e k) ls ≡ true → list_all (is_fine table) ls ≡ true → rest ≡ text_from table e k ls ++ more → (made ≡ xs) × (rest ≡ more)
    by false zero done [] p w f r = (sym (p ∙ append-nil made), r)
    by false zero done (x ∷ ls) p w f r = absurd (true≢false (sym w))
    by false (suc k) (inl d) ls p w f r = absurd (let none : ⊥ = omega (arith, d.1) in none)
    by false (suc k) (inr d) [] p w f r = absurd (true≢false (sym w))
    by false (suc k) (inr d) (x ∷ ls) p w f r = absurd (short (rest_text table x) _ (rest_some table x) d r)
    by true k (inl d) ls p w f r = absurd (d.0 refl)
    by true k (inr d) [] p w f r = absurd (true≢false (sym w))
    by true k (inr d) (x ∷ ls) p w f r = absurd (short (element_text table x) _ (element_some table x on.spelled (and_parts (is_fine table x) (list_all (is_fine table) ls) f).0) d r)

-- the text of a term's shapes is the term's, as an element and behind one
dotted : (d x rest : List ℕ) → (d ++ x ++ 41 ∷ []) ++ rest ≡ (d ++ x) ++ 41 ∷ rest
dotted d x rest = append_assoc (d ++ x) (41 ∷ []) rest

in_list : (a b rest : List ℕ) → 40 ∷ (a ++ (b ++ 41 ∷ rest)) ≡ (40 ∷ a ++ b ++ 41 ∷ []) ++ rest
in_list a b rest = ap (λ l. 40 ∷ l) (sym (append_assoc (a ++ b) (41 ∷ []) rest ∙ append_assoc a b (41 ∷ rest)))

mutual
  pub element_printed : (table : Table) (n : ℕ) (t : Tm) (more : List Shape) → text_from table true n (spelling t ++ more) ≡ print name_text table t ++ text_from table false n more
  element_printed table n (Tree.leaf v) more = refl
  element_printed table n (Tree.sym s) more = refl
  element_printed table n (Tree.str s) more = refl
  element_printed table n (Tree.num z) more = refl
  element_printed table n (Tree.truth b) more = refl
  element_printed table n Tree.nil more = refl
  element_printed table n (Tree.pair a b) more =
      ap (λ l. 40 ∷ text_from table true (suc n) l) (append_assoc (spelling a) (spelling b) more)
      ∙ ap (λ l. 40 ∷ l) (element_printed table (suc n) a (spelling b ++ more) ∙ ap (λ l. print name_text table a ++ l) (rest_printed table n b more))
      ∙ in_list (print name_text table a) (print_rest name_text table b) (text_from table false n more)

  pub rest_printed : (table : Table) (n : ℕ) (t : Tm) (more : List Shape) → text_from table false (suc n) (spelling t ++ more) ≡ print_rest name_text table t ++ 41 ∷ text_from table false n more
  rest_printed table n (Tree.leaf v) more = dotted (codes " . ") (name_text v) (text_from table false n more)
  rest_printed table n (Tree.sym s) more = dotted (codes " . ") (symbol_text table s) (text_from table false n more)
  rest_printed table n (Tree.str s) more = dotted (codes " . ") (string_text table s) (text_from table false n more)
  rest_printed table n (Tree.num z) more = dotted (codes " . ") (number_text z) (text_from table false n more)
  rest_printed table n (Tree.truth b) more = dotted (codes " . ") (truth_text b) (text_from table false n more)
  rest_printed table n Tree.nil more = refl
  rest_printed table n (Tree.pair a b) more =
      ap (λ l. 32 ∷ text_from table true (suc n) l) (append_assoc (spelling a) (spelling b) more)
      ∙ ap (λ l. 32 ∷ l) (element_printed table (suc n) a (spelling b ++ more) ∙ ap (λ l. print name_text table a ++ l) (rest_printed table n b more))
      ∙ ap (λ l. 32 ∷ l) (sym (append_assoc (print name_text table a) (print_rest name_text table b) (41 ∷ text_from table false n more)))

pub term_printed : (table : Table) (t : Tm) → text_from table true 0 (spelling t) ≡ term_text table t
term_printed table t =
    ap (text_from table true 0) (sym (append-nil (spelling t))) ∙ element_printed table 0 t [] ∙ append-nil (term_text table t)

-- there is room for what is left
pub moves_on : (old middle new : Table) (size left less : ℕ) → Moves old size middle left → Moves middle left new less → Moves old size new less
moves_on old middle new size left less m n = record {
  goes_on = goes_on_further old middle new m.goes_on n.goes_on;
  symbols = omega (arith, m.symbols, n.symbols);
  strings = omega (arith, m.strings, n.strings);
  spelled = λ all. n.spelled (m.spelled all);
}

-- whether the loop goes on
pub unfinished_lists : (e : Bool) (n : ℕ) (rest : List ℕ) → is_unfinished e n rest ≡ true → e ≡ false → 0 < n
unfinished_lists true n rest h e = absurd (true≢false e)
unfinished_lists false n rest h e = let some : nat_lt 0 n ≡ true = (and_parts (nat_lt 0 n) (is_filled rest) h).0 in grind (arith, nat_tests)

pub unfinished_some : (e : Bool) (n : ℕ) (rest : List ℕ) → is_unfinished e n rest ≡ true → 0 < length rest
unfinished_some e n [] h = absurd (true≢false (sym (and_parts (e || nat_lt 0 n) false h).1))
unfinished_some e n (b ∷ bs) h = omega arith

pub unfinished_ends : (e : Bool) (n : ℕ) (rest : List ℕ) → is_unfinished e n rest ≡ false → ((e ≡ true → ⊥) × (n ≡ 0)) ⊎ (length rest ≡ 0)
unfinished_ends e n [] h = inr refl
unfinished_ends true n (b ∷ bs) h = absurd (true≢false h)
unfinished_ends false zero (b ∷ bs) h = inl ((λ e. true≢false (sym e)), refl)
unfinished_ends false (suc n) (b ∷ bs) h = absurd (true≢false (sym (ap (λ t. t && true) (let some : nat_lt 0 (suc n) ≡ true = grind (arith, nat_tests) in some)) ∙ h))

one_more_unclosed : (n : ℕ) (e p : Bool) → unclosed_after n e p ≤ n + 1
one_more_unclosed n true true = omega arith
one_more_unclosed n true false = omega arith
one_more_unclosed n false true = omega arith
one_more_unclosed zero false false = omega arith
one_more_unclosed (suc n) false false = omega arith

pub unclosed_bound : (lists next : ℕ) (e p : Bool) (rest left bytes : List ℕ) → next ≡ unclosed_after lists e p → lists + length rest ≤ length bytes → length left < length rest → next + length left ≤ length bytes
unclosed_bound lists next e p rest left bytes is fits less = let most : unclosed_after lists e p ≤ lists + 1 = one_more_unclosed lists e p in omega (arith, is, most, fits, less)

pub moves_less : (old new : Table) (size left less : ℕ) → Moves old size new left → less ≤ left → Moves old size new less
moves_less old new size left less m h = record { goes_on = m.goes_on; symbols = omega (arith, m.symbols, h); strings = omega (arith, m.strings, h); spelled = m.spelled }

pub shorter_behind : (k : ℕ) (xs ys : List ℕ) → ys ≡ drop k xs → length ys ≤ length xs
shorter_behind k xs ys is = omega (arith, ap length is, length-drop k xs)

-- past some bytes before and behind
pub moves_past : (old middle new : Table) (size j k : ℕ) (rest cut back left : List ℕ) → Moves old size middle (length rest) → cut ≡ drop j rest → Moves middle (length cut) new (length back) → left ≡ drop k back → Moves old size new (length left)
moves_past old middle new size j k rest cut back left m one n two =
    moves_on old middle new size (length rest) (length left) m (record {
      goes_on = n.goes_on;
      symbols = omega (arith, n.symbols, shorter_behind j rest cut one, shorter_behind k back left two);
      strings = omega (arith, n.strings, shorter_behind j rest cut one, shorter_behind k back left two);
      spelled = n.spelled;
    })
