-- Names and constraints read one after another.
use Rattle.std.proofs.Common.{◌≡◌, ℕ, suc, ◌<◌, ◌≤◌, ◌^◌, Bool, true, false, List, [], ◌∷◌, ◌++◌, length, drop, map, refl, sym, ap, ◌∙◌, arith, append_assoc, append-nil, true≢false}
use Rattle.std.specs.Prelude.{◌==◌, ◌&&◌, nat_lt, if◌then◌else◌, codes, Option, Some, None, IfSome}
use Rattle.std.specs.Option.{option_map, option_to_list}
use Rattle.std.specs.List.{flat_map, list_all}
use Rattle.std.proofs.lemmas.Bool.{and_parts}
use Rattle.std.proofs.lemmas.Bool.Decides.{nat_tests}
use Rattle.std.proofs.lemmas.List.{map-append}
use Rattle.kan_terms.specs.Table.{Table}
use Rattle.kan_model.specs.Answers.Answer as model
use Rattle.kan_model.specs.Answers.AnswerText.{absence_text, names_texts}
use Rattle.kan_model.specs.Answers.Text.{name_text, symbol_text, with_spaces}
use Rattle.kan_grammar.specs.Texts.TextNames.{GoesOn}
use Rattle.reify.specs.declared.answers.Absence.{Absence}
use Rattle.reify.specs.declared.shaping.NamePair.{NamePair}
use Rattle.reify.specs.declared.shaping.Shape.{Shape}
use Rattle.reify.specs.declared.shaping.Shape.TheVariants.{Sym}
use Rattle.reify.specs.Constraints.{behind_space}
use Rattle.reify.specs.OverNames.{absence}
use Rattle.reify.specs.Printing.{atom_text}
use Rattle.reify.specs.Shapes.{spells}
use Rattle.answer_reading.specs.declared.constraints.Kinds.{Kinds}
use Rattle.term_reading.specs.Words.{Continues, ends, is_fine, is_worded}
use Rattle.term_reading.specs.Reading.{GetsTerm, text_from}
use Rattle.answer_reading.specs.Listing.{GetsAbsence, GetsAbsences, GetsDifferences, GetsKind, GetsKinds, GetsNames, GetsPair, GetsPairs, begins, difference_text, has_fourth, is_fine_absence, is_fine_pair, is_short, pair_text, past_space}
use Rattle.term_reading.proofs.TermLaws.{continues_back}
use Rattle.term_reading.proofs.KnownTerms.{one_known}

-- what follows the first of some texts with spaces between them
abbrev pub tail_text : List (List ℕ) → List ℕ → List ℕ
tail_text [] more = 41 ∷ more
tail_text (t ∷ ts) more = 32 ∷ (with_spaces (t ∷ ts) ++ 41 ∷ more)

first_listed : (t : List ℕ) (ts : List (List ℕ)) (more : List ℕ) → with_spaces (t ∷ ts) ++ 41 ∷ more ≡ t ++ tail_text ts more
first_listed t [] more = refl
first_listed t (u ∷ us) more = append_assoc t (32 ∷ with_spaces (u ∷ us)) (41 ∷ more)

tail_past : (ts : List (List ℕ)) (more : List ℕ) → past_space (tail_text ts more) ≡ with_spaces ts ++ 41 ∷ more
tail_past [] more = refl
tail_past (t ∷ ts) more = refl

tail_ends : (ts : List (List ℕ)) (more : List ℕ) → ends (tail_text ts more) ≡ true
tail_ends [] more = refl
tail_ends (t ∷ ts) more = refl

-- what was made is the front of some items, and what is left is the text of the others, with spaces between them and a close
abbrev pub Listed : {X : Type 0} → (X → List ℕ) → (X → Bool) → List X → List X → List ℕ → List ℕ → Type 0
Listed {X} text fine xs made rest more = (ls : List X) × (xs ≡ made ++ ls) × (list_all fine ls ≡ true) × (rest ≡ with_spaces (map text ls) ++ 41 ∷ more)

pushed : {X : Type 0} (xs made grown ls : List X) (x y : X) → x ≡ y → grown ≡ made ++ x ∷ [] → xs ≡ made ++ y ∷ ls → xs ≡ grown ++ ls
pushed xs made grown ls x y same add is = is ∙ sym (append_assoc made (y ∷ []) ls) ∙ ap (λ l. l ++ ls) (sym (add ∙ ap (λ z. made ++ z ∷ []) same))

pub listed_next : {X : Type 0} (text : X → List ℕ) (fine : X → Bool) (xs made grown : List X) (rest left behind more : List ℕ) (x : X) (b : ℕ) → (41 == b) ≡ false → begins b rest ≡ true →
    ((y : X) (u : List ℕ) → fine y ≡ true → ends u ≡ true → rest ≡ text y ++ u → (x ≡ y) × (left ≡ u)) → grown ≡ made ++ x ∷ [] → behind ≡ past_space left →
    Listed text fine xs made rest more → Listed text fine xs grown behind more
listed_next text fine xs made grown rest left behind more x b other some read add past (ls, is, all, e) = by ls is all e
  where
    by : (ls : List _) → xs ≡ made ++ ls → list_all fine ls ≡ true → rest ≡ with_spaces (map text ls) ++ 41 ∷ more → Listed text fine xs grown behind more
    by [] is all e = absurd (true≢false (sym some ∙ ap (begins b) e ∙ other))
    by (y ∷ ls) is all e =
        let parts = and_parts (fine y) (list_all fine ls) all in
        let got = read y (tail_text (map text ls) more) parts.0 (tail_ends (map text ls) more) (e ∙ first_listed (text y) (map text ls) more) in
        (ls, pushed xs made grown ls x y got.0 add is, parts.1, past ∙ ap past_space got.1 ∙ tail_past (map text ls) more)

pub listed_ends : {X : Type 0} (text : X → List ℕ) (fine : X → Bool) (xs made : List X) (rest more : List ℕ) (b : ℕ) → begins b rest ≡ false → ((y : X) (u : List ℕ) → begins b (text y ++ u) ≡ true) →
    Listed text fine xs made rest more → (made ≡ xs) × (rest ≡ 41 ∷ more)
listed_ends text fine xs made rest more b none first (ls, is, all, e) = by ls is e
  where
    by : (ls : List _) → xs ≡ made ++ ls → rest ≡ with_spaces (map text ls) ++ 41 ∷ more → (made ≡ xs) × (rest ≡ 41 ∷ more)
    by [] is e = (sym (is ∙ append-nil made), e)
    by (y ∷ ls) is e = absurd (true≢false (sym (ap (begins b) (e ∙ first_listed (text y) (map text ls) more) ∙ first y (tail_text (map text ls) more)) ∙ none))

-- the same of items of which each stands behind a space
abbrev pub Spaced : {X : Type 0} → (X → List ℕ) → (X → Bool) → List X → List X → List ℕ → List ℕ → Type 0
Spaced {X} text fine xs made rest more = (ls : List X) × (xs ≡ made ++ ls) × (list_all fine ls ≡ true) × (rest ≡ flat_map behind_space (map text ls) ++ more)

pub spaced_next : {X : Type 0} (text : X → List ℕ) (fine : X → Bool) (xs made grown : List X) (rest left more : List ℕ) (x : X) (b : ℕ) → has_fourth b more ≡ false → has_fourth b rest ≡ true →
    ((y : X) (u : List ℕ) → fine y ≡ true → rest ≡ behind_space (text y) ++ u → (x ≡ y) × (left ≡ u)) → grown ≡ made ++ x ∷ [] →
    Spaced text fine xs made rest more → Spaced text fine xs grown left more
spaced_next text fine xs made grown rest left more x b other some read add (ls, is, all, e) = by ls is all e
  where
    by : (ls : List _) → xs ≡ made ++ ls → list_all fine ls ≡ true → rest ≡ flat_map behind_space (map text ls) ++ more → Spaced text fine xs grown left more
    by [] is all e = absurd (true≢false (sym some ∙ ap (has_fourth b) e ∙ other))
    by (y ∷ ls) is all e =
        let parts = and_parts (fine y) (list_all fine ls) all in
        let got = read y (flat_map behind_space (map text ls) ++ more) parts.0 (e ∙ append_assoc (behind_space (text y)) (flat_map behind_space (map text ls)) more) in
        (ls, pushed xs made grown ls x y got.0 add is, parts.1, got.1)

pub spaced_ends : {X : Type 0} (text : X → List ℕ) (fine : X → Bool) (xs made : List X) (rest more : List ℕ) (b : ℕ) → has_fourth b rest ≡ false → ((y : X) (u : List ℕ) → has_fourth b (behind_space (text y) ++ u) ≡ true) →
    Spaced text fine xs made rest more → (made ≡ xs) × (rest ≡ more)
spaced_ends text fine xs made rest more b none fourth (ls, is, all, e) = by ls is e
  where
    by : (ls : List _) → xs ≡ made ++ ls → rest ≡ flat_map behind_space (map text ls) ++ more → (made ≡ xs) × (rest ≡ more)
    by [] is e = (sym (is ∙ append-nil made), e)
    by (y ∷ ls) is e =
        absurd (true≢false (sym (ap (has_fourth b) (e ∙ append_assoc (behind_space (text y)) (flat_map behind_space (map text ls)) more) ∙ fourth y (flat_map behind_space (map text ls) ++ more)) ∙ none))

-- names
abbrev pub LeftNames : List ℕ → List ℕ → List ℕ → Type 0
LeftNames start made rest = (ns more : List ℕ) → list_all is_short ns ≡ true → start ≡ with_spaces (map name_text ns) ++ 41 ∷ more → Listed name_text is_short ns made rest more

pub names_go_on : (start made grown rest left behind : List ℕ) (n : ℕ) → begins 95 rest ≡ true →
    ((m : ℕ) (u : List ℕ) → m < 2 ^ 64 → ends u ≡ true → rest ≡ name_text m ++ u → (n ≡ m) × (left ≡ u)) → grown ≡ made ++ n ∷ [] → behind ≡ past_space left →
    LeftNames start made rest → LeftNames start grown behind
names_go_on start made grown rest left behind n some read add past held ns more all is =
    listed_next name_text is_short ns made grown rest left behind more n 95 refl some (λ m u short. read m u (let low : m < 2 ^ 64 = grind (arith, nat_tests) in low)) add past (held ns more all is)

pub names_end : (start made rest : List ℕ) → begins 95 rest ≡ false → LeftNames start made rest → GetsNames start made rest
names_end start made rest none held ns more all is = listed_ends name_text is_short ns made rest more 95 none (λ y u. refl) (held ns more all is)

pub past_shorter : (left behind : List ℕ) → behind ≡ past_space left → length behind ≤ length left
past_shorter [] behind is = omega (arith, ap length is)
past_shorter (b ∷ bs) behind is = by (b == 32) (ap length is)
  where
    by : (t : Bool) → length behind ≡ length (if t then bs else b ∷ bs) → length behind ≤ suc (length bs)
    by true e = omega (arith, e)
    by false e = omega (arith, e)

pub begins_some : (b : ℕ) (bytes : List ℕ) → begins b bytes ≡ true → 0 < length bytes
begins_some b [] h = absurd (true≢false (sym h))
begins_some b (c ∷ cs) h = omega arith

-- a pair
four_pieces : (n s more : List ℕ) → (codes "(" ++ n ++ codes " " ++ s ++ codes ")") ++ more ≡ 40 ∷ (n ++ 32 ∷ (s ++ 41 ∷ more))
four_pieces n s more =
    ap (λ l. 40 ∷ l) (append_assoc (n ++ 32 ∷ [] ++ s) (41 ∷ []) more ∙ append_assoc (n ++ 32 ∷ []) s (41 ∷ more) ∙ append_assoc n (32 ∷ []) (s ++ 41 ∷ more))

pub pair_got : (new : Table) (bytes cut rest between back left : List ℕ) (name : ℕ) (shapes : List Shape) (pair : NamePair) → cut ≡ drop 1 bytes →
    ((m : ℕ) (u : List ℕ) → m < 2 ^ 64 → ends u ≡ true → cut ≡ name_text m ++ u → (name ≡ m) × (rest ≡ u)) → between ≡ drop 1 rest → GetsTerm new between shapes back → left ≡ drop 1 back →
    pair.name ≡ name → pair.term ≡ shapes → GetsPair new bytes pair left
pair_got new bytes cut rest between back left name shapes pair one read two term three first second table on p more fine is =
    let parts = and_parts (is_short p.name && spells 1 p.term) (list_all (is_fine table) p.term) fine in
    let low = and_parts (is_short p.name) (spells 1 p.term) parts.0 in
    let below : p.name < 2 ^ 64 = let short : nat_lt p.name (2 ^ 64) ≡ true = low.0 in grind (arith, nat_tests) in
    let pieces : bytes ≡ 40 ∷ (name_text p.name ++ 32 ∷ (text_from table true 0 p.term ++ 41 ∷ more)) = is ∙ four_pieces (name_text p.name) (text_from table true 0 p.term) more in
    let named = read p.name (32 ∷ (text_from table true 0 p.term ++ 41 ∷ more)) below refl (one ∙ ap (drop 1) pieces) in
    let got = term table on p.term (41 ∷ more) low.1 parts.1 refl (two ∙ ap (drop 1) named.1) in
    (same (first ∙ named.0) (second ∙ got.0), three ∙ ap (drop 1) got.1)
  where
    same : pair.name ≡ p.name → pair.term ≡ p.term → pair ≡ p
    same e f = λ i. record { name = e i; term = f i }

-- pairs
abbrev pub LeftPairs : Table → List ℕ → List NamePair → List ℕ → Type 0
LeftPairs new start made rest =
    (table : Table) → Continues new table → (ps : List NamePair) (more : List ℕ) → list_all (is_fine_pair table) ps ≡ true → start ≡ with_spaces (map (pair_text table) ps) ++ 41 ∷ more →
    Listed (pair_text table) (is_fine_pair table) ps made rest more

pub pairs_go_on : (old new : Table) (start rest left behind : List ℕ) (made grown : List NamePair) (pair : NamePair) → begins 40 rest ≡ true → GoesOn old new → GetsPair new rest pair left → grown ≡ made ++ pair ∷ [] → behind ≡ past_space left →
    LeftPairs old start made rest → LeftPairs new start grown behind
pairs_go_on old new start rest left behind made grown pair some goes read add past held table on ps more all is =
    listed_next (pair_text table) (is_fine_pair table) ps made grown rest left behind more pair 40 refl some (λ p u fine over e. read table on p u fine e) add past
    (held table (continues_back old new table goes on) ps more all is)

pub pairs_end : (new : Table) (start rest : List ℕ) (made : List NamePair) → begins 40 rest ≡ false → LeftPairs new start made rest → GetsPairs new start made rest
pairs_end new start rest made none held table on ps more all is =
    listed_ends (pair_text table) (is_fine_pair table) ps made rest more 40 none (λ y u. refl) (held table on ps more all is)

-- disequalities
abbrev pub LeftDifferences : Table → List ℕ → List (List NamePair) → List ℕ → Type 0
LeftDifferences new start made rest =
    (table : Table) → Continues new table → (ds : List (List NamePair)) (more : List ℕ) → list_all (list_all (is_fine_pair table)) ds ≡ true → has_fourth 47 more ≡ false →
    start ≡ flat_map behind_space (map (difference_text table) ds) ++ more → Spaced (difference_text table) (list_all (is_fine_pair table)) ds made rest more

difference_got : (table new : Table) (rest cut back left : List ℕ) (pairs : List NamePair) → Continues new table → cut ≡ drop 7 rest → GetsPairs new cut pairs back → left ≡ drop 2 back →
    (ps : List NamePair) (u : List ℕ) → list_all (is_fine_pair table) ps ≡ true → rest ≡ behind_space (difference_text table ps) ++ u → (pairs ≡ ps) × (left ≡ u)
difference_got table new rest cut back left pairs on one read two ps u fine is =
    let got = read table on ps (41 ∷ u) fine (one ∙ ap (drop 7) is ∙ append_assoc (with_spaces (map (pair_text table) ps)) (41 ∷ 41 ∷ []) u) in
    (got.0, two ∙ ap (drop 2) got.1)

pub differences_go_on : (old new : Table) (start rest cut back left : List ℕ) (made grown : List (List NamePair)) (pairs : List NamePair) → has_fourth 47 rest ≡ true → GoesOn old new → cut ≡ drop 7 rest → GetsPairs new cut pairs back →
    grown ≡ made ++ pairs ∷ [] → left ≡ drop 2 back → LeftDifferences old start made rest → LeftDifferences new start grown left
differences_go_on old new start rest cut back left made grown pairs some goes one read add two held table on ds more all other is =
    spaced_next (difference_text table) (list_all (is_fine_pair table)) ds made grown rest left more pairs 47 other some (difference_got table new rest cut back left pairs on one read two) add
    (held table (continues_back old new table goes on) ds more all other is)

pub differences_end : (new : Table) (start rest : List ℕ) (made : List (List NamePair)) → has_fourth 47 rest ≡ false → LeftDifferences new start made rest → GetsDifferences new start made rest
differences_end new start rest made none held table on ds more all other is =
    spaced_ends (difference_text table) (list_all (is_fine_pair table)) ds made rest more 47 none (λ y u. refl) (held table on ds more all other is)

-- names with a word
kind_cut : (a letter c n : ℕ) (ns more : List ℕ) → drop 6 (flat_map behind_space (names_texts (a ∷ letter ∷ c ∷ []) (n ∷ ns)) ++ more) ≡ with_spaces (map name_text (n ∷ ns)) ++ 41 ∷ more
kind_cut a letter c n ns more =
    ap (λ l. l ++ more) (append-nil (with_spaces (map name_text (n ∷ ns)) ++ 41 ∷ [])) ∙ append_assoc (with_spaces (map name_text (n ∷ ns))) (41 ∷ []) more

pub kind_got : (letter : ℕ) (bytes cut names back left : List ℕ) → has_fourth letter bytes ≡ true → cut ≡ drop 6 bytes → GetsNames cut names back → left ≡ drop 1 back → GetsKind letter bytes names left
kind_got letter bytes cut names back left some one read two a c [] more all other is = absurd (true≢false (sym some ∙ ap (has_fourth letter) is ∙ other))
kind_got letter bytes cut names back left some one read two a c (n ∷ ns) more all other is =
    let got = read (n ∷ ns) more all (one ∙ ap (drop 6) is ∙ kind_cut a letter c n ns more) in (got.0, two ∙ ap (drop 1) got.1)

pub kind_fourth : (b a letter c : ℕ) (ns more : List ℕ) → (letter == b) ≡ false → has_fourth b more ≡ false → has_fourth b (flat_map behind_space (names_texts (a ∷ letter ∷ c ∷ []) ns) ++ more) ≡ false
kind_fourth b a letter c [] more other none = none
kind_fourth b a letter c (n ∷ ns) more other none = other

pub kinds_got : (bytes one two left : List ℕ) (kinds : Kinds) → GetsKind 117 bytes kinds.numbers.items one → GetsKind 121 one kinds.symbols.items two → GetsKind 116 two kinds.strings.items left → GetsKinds bytes kinds left
kinds_got bytes one two left kinds first second third numbers symbols strings more n s t u y w is =
    let b : List ℕ = flat_map behind_space (names_texts (codes "sym") symbols) in
    let c : List ℕ = flat_map behind_space (names_texts (codes "str") strings) in
    let a : List ℕ = flat_map behind_space (names_texts (codes "num") numbers) in
    let got = first 110 109 numbers (b ++ (c ++ more)) n
    (kind_fourth 117 115 121 109 symbols (c ++ more) refl (kind_fourth 117 115 116 114 strings more refl u)) (is ∙ append_assoc (a ++ b) c more ∙ append_assoc a b (c ++ more)) in
    let next = second 115 109 symbols (c ++ more) s (kind_fourth 121 115 116 114 strings more refl y) got.1 in
    let last = third 115 114 strings more t w next.1 in
    (got.0, next.0, last.0, last.1)

-- absences
absence_pieces : (s w more : List ℕ) → (s ++ 32 ∷ [] ++ w ++ 41 ∷ []) ++ more ≡ s ++ 32 ∷ (w ++ 41 ∷ more)
absence_pieces s w more = append_assoc (s ++ 32 ∷ [] ++ w) (41 ∷ []) more ∙ append_assoc (s ++ 32 ∷ []) w (41 ∷ more) ∙ append_assoc s (32 ∷ []) (w ++ 41 ∷ more)

pub absence_got : (new : Table) (bytes cut rest between names back left : List ℕ) (shape : Shape) (kept : Option model.Absence) → cut ≡ drop 9 bytes →
    ((table : Table) → Continues new table → (x : Shape) (more : List ℕ) → is_worded x ≡ true → is_fine table x ≡ true → ends more ≡ true → cut ≡ atom_text table x ++ more → (shape ≡ x) × (rest ≡ more)) →
    between ≡ drop 1 rest → GetsNames between names back → left ≡ drop 1 back → ((s : ℕ) → shape ≡ Sym s → kept ≡ Some (record { tag = s; names = names })) → GetsAbsence new bytes kept left
absence_got new bytes cut rest between names back left shape kept one read two listed three tagged table on a more fine is =
    let parts = and_parts (is_fine table (Sym a.tag)) (list_all is_short a.names) fine in
    let w : List ℕ = with_spaces (map name_text a.names) in
    let word = read table on (Sym a.tag) (32 ∷ (w ++ 41 ∷ more)) refl parts.0 refl (one ∙ ap (drop 9) is ∙ absence_pieces (symbol_text table a.tag) w more) in
    let got = listed a.names more parts.1 (two ∙ ap (drop 1) word.1) in
    (tagged a.tag word.0 ∙ ap (λ ns. Some (with_names ns)) got.0, three ∙ ap (drop 1) got.1)
  where
    with_names : List ℕ → model.Absence
    with_names ns = record { tag = a.tag; names = ns }

abbrev pub LeftAbsences : Table → List ℕ → List model.Absence → List ℕ → Type 0
LeftAbsences new start made rest =
    (table : Table) → Continues new table → (as_ : List model.Absence) → list_all (is_fine_absence table) as_ ≡ true → start ≡ flat_map behind_space (map (absence_text table) as_) →
    Spaced (absence_text table) (is_fine_absence table) as_ made rest []

abbrev the_none : Option model.Absence
the_none = None

some_same : (a b : model.Absence) → Some a ≡ Some b → a ≡ b
some_same a b e = cc

none_some : (a : model.Absence) → the_none ≡ Some a → ⊥
none_some a e = cc

-- where nothing was read there was nothing to read
spaced_none : {X : Type 0} (text : X → List ℕ) (fine : X → Bool) (xs made grown : List X) (rest left more : List ℕ) (b : ℕ) → has_fourth b more ≡ false → has_fourth b rest ≡ true →
    ((y : X) (u : List ℕ) → fine y ≡ true → rest ≡ behind_space (text y) ++ u → ⊥) → Spaced text fine xs made rest more → Spaced text fine xs grown left more
spaced_none text fine xs made grown rest left more b other some read (ls, is, all, e) = by ls all e
  where
    by : (ls : List _) → list_all fine ls ≡ true → rest ≡ flat_map behind_space (map text ls) ++ more → Spaced text fine xs grown left more
    by [] all e = absurd (true≢false (sym some ∙ ap (has_fourth b) e ∙ other))
    by (y ∷ ls) all e =
        absurd (read y (flat_map behind_space (map text ls) ++ more) (and_parts (fine y) (list_all fine ls) all).0 (e ∙ append_assoc (behind_space (text y)) (flat_map behind_space (map text ls)) more))

pub absences_go_on : (old new : Table) (start rest left : List ℕ) (made grown : List Absence) (kept : Option Absence) → has_fourth 98 rest ≡ true → GoesOn old new → GetsAbsence new rest (option_map absence kept) left →
    grown ≡ made ++ option_to_list kept → LeftAbsences old start (map absence made) rest → LeftAbsences new start (map absence grown) left
absences_go_on old new start rest left made grown (Some kept) some goes read add held table on as_ all is =
    spaced_next (absence_text table) (is_fine_absence table) as_ (map absence made) (map absence grown) rest left [] (absence kept) 98 refl some
    (λ a u fine e. let got = read table on a u fine e in (some_same (absence kept) a got.0, got.1))
    (ap (map absence) add ∙ map-append absence made (kept ∷ [])) (held table (continues_back old new table goes on) as_ all is)
absences_go_on old new start rest left made grown None some goes read add held table on as_ all is =
    spaced_none (absence_text table) (is_fine_absence table) as_ (map absence made) (map absence grown) rest left [] 98 refl some (λ a u fine e. none_some a (read table on a u fine e).0)
    (held table (continues_back old new table goes on) as_ all is)

pub some_known : (p : Absence → Bool) (made grown : List Absence) (kept : Option Absence) → grown ≡ made ++ option_to_list kept → list_all p made ≡ true → IfSome kept (λ k. p k ≡ true) → list_all p grown ≡ true
some_known p made grown (Some k) is all one = one_known p made grown k is all one
some_known p made grown None is all one = ap (list_all p) (is ∙ append-nil made) ∙ all

pub absences_end : (new : Table) (start rest : List ℕ) (made : List model.Absence) → has_fourth 98 rest ≡ false → LeftAbsences new start made rest → GetsAbsences new start made
absences_end new start rest made none held table on as_ all is =
    (spaced_ends (absence_text table) (is_fine_absence table) as_ made rest [] 98 none (λ y u. refl) (held table on as_ all is)).0
