-- Strings: where one ends, what its characters mean, and that a table may hold its text.
use Rattle.std.proofs.Common.{◌≡◌, ℕ, zero, suc, ◌<◌, ◌≤◌, Bool, true, false, cond, List, [], ◌∷◌, ◌++◌, length, take, refl, sym, ap, ◌∙◌, arith, append_assoc, append-nil}
use Rattle.std.specs.Prelude.{◌==◌, ◌&&◌, nat_lt, if◌then◌else◌, Option, None, Some, encode_utf8}
use Rattle.std.specs.List.{list_all, flat_map}
use Rattle.std.proofs.lemmas.Bool.Decides.{nat_tests}
use Rattle.std.proofs.lemmas.Str.{encode_ascii}
use lib.Utf8.{encode}
use lib.Dec.{ltb}
use Rattle.kan_terms.specs.Table.{is_string_byte}
use Rattle.kan_model.specs.Answers.Text.{string_byte_text}
use Rattle.kan_grammar.specs.Data.Strings.{Role, role, begins_escape, escape_meaning, length_by, string_length, byte_meaning, string_meaning}
use Rattle.sexpr.specs.Strings.{character_meaning, character_text}

-- all bytes are those of characters above U+007F
abbrev AreWide : List ℕ → Type 0
AreWide [] = Unit {0}
AreWide (b ∷ bs) = (128 ≤ b) × AreWide bs

wide_by : (x y z : Bool) (c b d e f g h i k l : ℕ) → x ≡ false → 128 ≤ b → 128 ≤ d → 128 ≤ e → 128 ≤ f → 128 ≤ g → 128 ≤ h → 128 ≤ i → 128 ≤ k → 128 ≤ l → AreWide (cond x (c ∷ []) (cond y (b ∷ d ∷ []) (cond z (e ∷ f ∷ g ∷ []) (h ∷ i ∷ k ∷ l ∷ []))))
wide_by true y z c b d e f g h i k l n b1 d1 e1 f1 g1 h1 i1 k1 l1 = absurd cc
wide_by false true z c b d e f g h i k l n b1 d1 e1 f1 g1 h1 i1 k1 l1 = (b1, (d1, tt))
wide_by false false true c b d e f g h i k l n b1 d1 e1 f1 g1 h1 i1 k1 l1 = (e1, (f1, (g1, tt)))
wide_by false false false c b d e f g h i k l n b1 d1 e1 f1 g1 h1 i1 k1 l1 = (h1, (i1, (k1, (l1, tt))))

wide_encode : (c : ℕ) → nat_lt c 128 ≡ false → AreWide (encode c)
unfolding encode
wide_encode c h = wide_by (ltb c 128) (ltb c 2048) (ltb c 65536) c _ _ _ _ _ _ _ _ _ h (omega arith) (omega arith) (omega arith) (omega arith) (omega arith) (omega arith) (omega arith) (omega arith) (omega arith)

-- wide bytes mean themselves, and are printed as themselves
wide_begins : (b : ℕ) → 128 ≤ b → (b == 92) ≡ false
wide_begins b h = grind (arith, nat_tests)

wide_escape : (b : ℕ) → 128 ≤ b → escape_meaning b ≡ b
wide_escape b h = grind (arith, nat_tests)

wide_byte : (e : Bool) (b : ℕ) (rest : List ℕ) → 128 ≤ b → byte_meaning e b rest ≡ b ∷ rest
wide_byte true b rest h = ap (λ x. x ∷ rest) (wide_escape b h)
wide_byte false b rest h = ap (λ t. if t then rest else b ∷ rest) (wide_begins b h)

wide_next : (e : Bool) (b : ℕ) → 128 ≤ b → begins_escape e b ≡ false
wide_next true b h = refl
wide_next false b h = wide_begins b h

wide_meaning : (bs rest : List ℕ) → AreWide bs → string_meaning false (bs ++ rest) ≡ bs ++ string_meaning false rest
wide_meaning [] rest w = refl
wide_meaning (b ∷ bs) rest w =
    wide_byte false b (string_meaning (begins_escape false b) (bs ++ rest)) w.0
    ∙ ap (λ e. b ∷ string_meaning e (bs ++ rest)) (wide_next false b w.0)
    ∙ ap (λ xs. b ∷ xs) (wide_meaning bs rest w.1)

wide_text : (b : ℕ) → 128 ≤ b → string_byte_text b ≡ b ∷ []
wide_text b h = grind (arith, nat_tests)

wide_printed : (bs rest : List ℕ) → AreWide bs → flat_map string_byte_text (bs ++ rest) ≡ bs ++ flat_map string_byte_text rest
wide_printed [] rest w = refl
wide_printed (b ∷ bs) rest w = ap (λ xs. xs ++ flat_map string_byte_text (bs ++ rest)) (wide_text b w.0) ∙ ap (λ xs. b ∷ xs) (wide_printed bs rest w.1)

-- the bytes of a wide character are not none
abbrev Starts : (e : Bool) → List ℕ → List ℕ → Type 0
Starts e bs rest = string_meaning e (bs ++ rest) ≡ bs ++ string_meaning false rest

wide_starts : (e : Bool) (bs rest : List ℕ) → AreWide bs → 0 < length bs → Starts e bs rest
wide_starts e [] rest w h = absurd (omega arith)
wide_starts e (b ∷ bs) rest w h =
    wide_byte e b (string_meaning (begins_escape e b) (bs ++ rest)) w.0
    ∙ ap (λ f. b ∷ string_meaning f (bs ++ rest)) (wide_next e b w.0)
    ∙ ap (λ xs. b ∷ xs) (wide_meaning bs rest w.1)

some_by : (x y z : Bool) (c b d e f g h i k l : ℕ) → 0 < length (cond x (c ∷ []) (cond y (b ∷ d ∷ []) (cond z (e ∷ f ∷ g ∷ []) (h ∷ i ∷ k ∷ l ∷ []))))
some_by true y z c b d e f g h i k l = omega arith
some_by false true z c b d e f g h i k l = omega arith
some_by false false true c b d e f g h i k l = omega arith
some_by false false false c b d e f g h i k l = omega arith

some_bytes : (c : ℕ) → 0 < length (encode c)
unfolding encode
some_bytes c = some_by (ltb c 128) (ltb c 2048) (ltb c 65536) c _ _ _ _ _ _ _ _ _

-- a character's part in what a string means
narrow_meaning : (e : Bool) (c : ℕ) (rest : List ℕ) → c < 128 → string_meaning e (c ∷ rest) ≡ character_meaning e c ++ string_meaning (begins_escape e c) rest
narrow_meaning true c rest h =
    let low : escape_meaning c < 128 = grind (arith, nat_tests) in
    ap (λ xs. xs ++ string_meaning false rest) (sym (encode_ascii (escape_meaning c) low))
narrow_meaning false c rest h = by_mark (c == 92)
  where
    by_mark : (t : Bool) → (if t then string_meaning t rest else c ∷ string_meaning t rest) ≡ (if t then [] else encode_utf8 c) ++ string_meaning t rest
    by_mark true = refl
    by_mark false = ap (λ xs. xs ++ string_meaning false rest) (sym (encode_ascii c h))

wide_character : (e : Bool) (c : ℕ) → 128 ≤ c → character_meaning e c ≡ encode_utf8 c
wide_character true c h = ap encode_utf8 (wide_escape c h)
wide_character false c h = ap (λ t. if t then [] else encode_utf8 c) (wide_begins c h)

pub meaning_step : (e : Bool) (bs rest : List ℕ) (c : ℕ) → bs ≡ encode c ++ rest → string_meaning e bs ≡ character_meaning e c ++ string_meaning (begins_escape e c) rest
meaning_step e bs rest c s = ap (string_meaning e) s ∙ by_size (nat_lt c 128) refl
  where
    by_size : (t : Bool) → nat_lt c 128 ≡ t → string_meaning e (encode c ++ rest) ≡ character_meaning e c ++ string_meaning (begins_escape e c) rest
    by_size true h =
        let low : c < 128 = grind (arith, nat_tests) in
        ap (λ xs. string_meaning e (xs ++ rest)) (encode_ascii c low) ∙ narrow_meaning e c rest low
    by_size false h =
        let high : 128 ≤ c = grind (arith, nat_tests) in
        wide_starts e (encode c) rest (wide_encode c h) (some_bytes c)
        ∙ ap (λ xs. xs ++ string_meaning false rest) (sym (wide_character e c high))
        ∙ ap (λ f. character_meaning e c ++ string_meaning f rest) (sym (wide_next e c high))

-- a character that is put goes before those that are left
pub meaning_goes_on : (e f : Bool) (t u bs rest goal : List ℕ) (c : ℕ) → u ≡ t ++ character_meaning e c → f ≡ begins_escape e c → bs ≡ encode c ++ rest → t ++ string_meaning e bs ≡ goal → u ++ string_meaning f rest ≡ goal
meaning_goes_on e f t u bs rest goal c h g s i =
    ap (λ x. x ++ string_meaning f rest) h ∙ ap (λ x. (t ++ character_meaning e c) ++ string_meaning x rest) g
    ∙ append_assoc t (character_meaning e c) (string_meaning (begins_escape e c) rest)
    ∙ ap (λ x. t ++ x) (sym (meaning_step e bs rest c s)) ∙ i

pub meaning_ends : (e : Bool) (t bs goal : List ℕ) → length bs ≡ 0 → t ++ string_meaning e bs ≡ goal → t ≡ goal
meaning_ends e t [] goal h i = sym (append-nil t) ∙ i
meaning_ends e t (b ∷ bs) goal h i = absurd (omega arith)

-- and in its printing
narrow_text : (c : ℕ) → c < 128 → string_byte_text c ≡ character_text c
narrow_text c h = let e : encode_utf8 c ≡ c ∷ [] = encode_ascii c h in grind (arith, nat_tests)

wide_character_text : (c : ℕ) → 128 ≤ c → character_text c ≡ encode_utf8 c
wide_character_text c h = grind (arith, nat_tests)

pub print_step : (bs rest : List ℕ) (c : ℕ) → bs ≡ encode c ++ rest → flat_map string_byte_text bs ≡ character_text c ++ flat_map string_byte_text rest
print_step bs rest c s = ap (flat_map string_byte_text) s ∙ by_size (nat_lt c 128) refl
  where
    by_size : (t : Bool) → nat_lt c 128 ≡ t → flat_map string_byte_text (encode c ++ rest) ≡ character_text c ++ flat_map string_byte_text rest
    by_size true h =
        let low : c < 128 = grind (arith, nat_tests) in
        ap (λ xs. flat_map string_byte_text (xs ++ rest)) (encode_ascii c low) ∙ ap (λ xs. xs ++ flat_map string_byte_text rest) (narrow_text c low)
    by_size false h =
        let high : 128 ≤ c = grind (arith, nat_tests) in
        wide_printed (encode c) rest (wide_encode c h) ∙ ap (λ xs. xs ++ flat_map string_byte_text rest) (sym (wide_character_text c high))

pub print_goes_on : (t u bs rest goal : List ℕ) (c : ℕ) → u ≡ t ++ character_text c → bs ≡ encode c ++ rest → t ++ flat_map string_byte_text bs ≡ goal → u ++ flat_map string_byte_text rest ≡ goal
print_goes_on t u bs rest goal c h s i =
    ap (λ x. x ++ flat_map string_byte_text rest) h
    ∙ append_assoc t (character_text c) (flat_map string_byte_text rest)
    ∙ ap (λ x. t ++ x) (sym (print_step bs rest c s)) ∙ i

pub print_ends : (t u v bs all : List ℕ) → length bs ≡ 0 → t ++ flat_map string_byte_text bs ≡ v ++ (34 ∷ all) → u ≡ t ++ 34 ∷ [] → u ≡ v ++ (34 ∷ all ++ 34 ∷ [])
print_ends t u v [] all h i e = e ∙ ap (λ x. x ++ 34 ∷ []) (sym (append-nil t) ∙ i) ∙ append_assoc v (34 ∷ all) (34 ∷ [])
print_ends t u v (b ∷ bs) all h i e = absurd (omega arith)

-- a table may hold what a string means
part_of : (r : Role) (o : Option ℕ) (n : ℕ) → length_by r o ≡ Some (suc n) → (r ≡ Role.part) × (o ≡ Some n)
part_of Role.closes o n h = absurd cc
part_of Role.never o n h = absurd cc
part_of Role.part None n h = absurd cc
part_of Role.part (Some m) n h = (refl, cc)

both_hold : (a b : Bool) → a ≡ true → b ≡ true → (a && b) ≡ true
both_hold a b h k = rw (h, k) refl

escape_text : (b : ℕ) → role true b ≡ Role.part → is_string_byte (escape_meaning b) ≡ true
escape_text b h = grind (arith, nat_tests)

plain_text : (b : ℕ) → role false b ≡ Role.part → is_string_byte b ≡ true
plain_text b h = grind (arith, nat_tests)

byte_text : (e : Bool) (b : ℕ) (rest : List ℕ) → role e b ≡ Role.part → list_all is_string_byte rest ≡ true → list_all is_string_byte (byte_meaning e b rest) ≡ true
byte_text true b rest h k = both_hold (is_string_byte (escape_meaning b)) (list_all is_string_byte rest) (escape_text b h) k
byte_text false b rest h k = by_mark (b == 92)
  where
    by_mark : (t : Bool) → list_all is_string_byte (if t then rest else b ∷ rest) ≡ true
    by_mark true = k
    by_mark false = both_hold (is_string_byte b) (list_all is_string_byte rest) (plain_text b h) k

pub meaning_text : (e : Bool) (bs : List ℕ) (n : ℕ) → string_length e bs ≡ Some n → list_all is_string_byte (string_meaning e (take n bs)) ≡ true
meaning_text e [] n h = absurd cc
meaning_text e (b ∷ bs) zero h = refl
meaning_text e (b ∷ bs) (suc n) h =
    let p = part_of (role e b) (string_length (begins_escape e b) bs) n h in
    byte_text e b (string_meaning (begins_escape e b) (take n bs)) p.0 (meaning_text (begins_escape e b) bs n p.1)
