-- Clap's walk over words gives what the words give.
use Rattle.std.proofs.Common.{◌≡◌, ◌∙◌, ℕ, Bool, true, false, List, [], ◌∷◌, ◌++◌, map, length, Option, Some, None, codes, refl, sym, ap, subst, inl, inr, arith}
use Rattle.std.specs.Prelude.{◌⊎◌, bytes_eq, slice_get, option_and_then}
use Rattle.std.specs.Str.{chars, IsUtf8}
use Rattle.std.proofs.Math.Utf8.{encodes}
use Rattle.clap.specs.declared.builder.value_parser.Reading.{Reading}
use Rattle.std.proofs.lemmas.Str.{encodes-chars, IsUtf8-drop, IsCharBoundary-after_ascii}
use Rattle.clap.specs.Walk.{Row, idle, option, has_row, reading_by}
use Rattle.clap.specs.declared.error.kind.ErrorKind.{ErrorKind}
use Rattle.clap.specs.declared.error.kind.ErrorKind.TheVariants.{ArgumentConflict, InvalidValue}
use Rattle.clap.specs.Kinds.{Kinds}
use Rattle.clap.specs.Lexer.{long_of, short_of}
use Rattle.clap.specs.Faults.{settle_fault}
use Rattle.clap.specs.Walk.{settled_rows}
use Rattle.command_line.specs.Parts.{Text, Spelling, Part, setting, library, file, setting_named, names_library, with_part, parts_from, part_at, named_part, value_at}
use Rattle.command_line.specs.Lines.{Given, all_given, with_given, values_given}
use Rattle.command_line.specs.Parts.{Setting}
use Rattle.command_line.specs.Parts.{Workers, Fuel, Ahead, Round, Dialect, Gen}
use Rattle.command_line.specs.Clap.{given_in, AreUtf8}
use Rattle.command_line.proofs.ClapRules.{name_of, rules}
use Rattle.command_line.proofs.ClapWords.{Seen, sees_end, sees_named, sees_dashed, sees_plain, word_seen}
use Rattle.command_line.proofs.ClapRows.{one_row, are_filled, filled_more, has_other, has_own, given_more, given_again, id_of, value_of}
use Rattle.command_line.proofs.ClapWalk.{built_library, held_at, walk_at, outcome}
use Rattle.command_line.proofs.ClapSteps.{option_reading, end_step, value_step, value_again, await_step, library_step, library_again, library_valued, unknown_step, dashed_step, plain_step, plain_second, trail_step, trail_second, nothing_left, half_step, held_clean, held_settles, file_clean, file_settles, held_again, half_fault, fails_nothing, fails_over, fails_named, fails_dashed, fails_plain, fails_end, half_end, half_named, half_dashed}

-- the parts that are left: files alone, once the options have ended
abbrev parts_left : Bool → Option Setting → List Text → Option (List Part)
parts_left true awaited words = Some (map file words)
parts_left false awaited words = parts_from awaited words

-- a part is given before those behind it
part_then : (g : Given) (p : Part) (rest : Option (List Part)) → option_and_then (all_given g) (with_part p rest) ≡ option_and_then (λ more. option_and_then (all_given more) rest) (with_given p g)
part_then g p (Some ps) = refl
part_then g p None = none (with_given p g)
  where
    none : (o : Option Given) → None ≡ option_and_then (λ more. option_and_then (all_given more) (with_part p None)) o
    none None = refl
    none (Some more) = refl

-- where the next file goes
abbrev position_at : Bool → ℕ
position_at true = 2
position_at false = 1

abbrev position : List Row → ℕ
position rows = position_at (has_row (codes "file") rows)

one_or_two : (b : Bool) (n : ℕ) → n ≡ position_at b → (n ≡ 1) ⊎ (n ≡ 2)
one_or_two true n is = inr is
one_or_two false n is = inl is

-- the first character behind a dash
some_first : (b : ℕ) (flags cs : List ℕ) → chars (b ∷ flags) ≡ cs → encodes cs ≡ b ∷ flags → (c : ℕ) × (slice_get (chars (b ∷ flags)) 0 ≡ Some c)
some_first b flags [] is none = let bad : length (encodes []) ≡ length (b ∷ flags) = ap length none in absurd (omega (arith, bad))
some_first b flags (c ∷ cs) is all = (c, ap (λ xs. slice_get xs 0) is)

character : (b : ℕ) (flags : List ℕ) → IsUtf8 (45 ∷ b ∷ flags) → (c : ℕ) × (slice_get (chars (b ∷ flags)) 0 ≡ Some c)
character b flags utf8 =
    let rest : IsUtf8 (b ∷ flags) = IsUtf8-drop (45 ∷ b ∷ flags) 1 utf8 (IsCharBoundary-after_ascii (45 ∷ b ∷ flags) 0 utf8 (omega arith) (omega arith)) in
    some_first b flags (chars (b ∷ flags)) refl (encodes-chars (b ∷ flags) rest)

same_position : (s : Setting) (rows : List Row) (v : Text) → position rows ≡ position (rows ++ one_row option_reading (name_of s) v ∷ [])
same_position Workers rows v = ap position_at (sym (has_other rows option_reading (codes "workers") (codes "file") v refl))
same_position Fuel rows v = ap position_at (sym (has_other rows option_reading (codes "fuel") (codes "file") v refl))
same_position Ahead rows v = ap position_at (sym (has_other rows option_reading (codes "ahead") (codes "file") v refl))
same_position Round rows v = ap position_at (sym (has_other rows option_reading (codes "round") (codes "file") v refl))
same_position Dialect rows v = ap position_at (sym (has_other rows option_reading (codes "dialect") (codes "file") v refl))
same_position Gen rows v = ap position_at (sym (has_other rows option_reading (codes "gen") (codes "file") v refl))

-- what words give behind what rows give
abbrev gives : List Row → Bool → List Text → Option Given
gives rows over xs = option_and_then (all_given (given_in rows)) (parts_left over None xs)

gives_more : (p : Part) (rows : List Row) (how : Reading) (over : Bool) (xs : List Text) → has_row (id_of p) rows ≡ false
    → gives (rows ++ one_row how (id_of p) (value_of p) ∷ []) over xs ≡ option_and_then (all_given (given_in rows)) (with_part p (parts_left over None xs))
gives_more p rows how over xs none = sym (part_then (given_in rows) p (parts_left over None xs) ∙ ap (option_and_then (λ more. option_and_then (all_given more) (parts_left over None xs))) (given_more p rows how none))

gives_none : (p : Part) (rows : List Row) (rest : Option (List Part)) → are_filled rows ≡ true → has_row (id_of p) rows ≡ true → None ≡ option_and_then (all_given (given_in rows)) (with_part p rest)
gives_none p rows rest filled there = sym (part_then (given_in rows) p rest ∙ ap (option_and_then (λ more. option_and_then (all_given more) rest)) (given_again p rows filled there))

-- what is shown of the words that are left: where nothing that is held fails, where an option awaits its value, and where what is held fails
abbrev Resting : List Text → Type 0
Resting xs = (rows0 : List Row) (p : Option (Text × List Text)) (rows : List Row) → settle_fault rules false (held_at rows0 p) ≡ [] → settled_rows rules p rows0 ≡ rows → are_filled rows ≡ true
    → (pos : ℕ) → pos ≡ position rows → (over : Bool) → outcome (walk_at rows0 p idle pos over) xs ≡ gives rows over xs

abbrev Awaiting : List Text → Type 0
Awaiting xs = (rows : List Row) (s : Setting) → are_filled rows ≡ true → (pos : ℕ) → pos ≡ position rows
    → outcome (walk_at rows (Some (name_of s, [])) (option (name_of s)) pos false) xs ≡ option_and_then (all_given (given_in rows)) (parts_from (Some s) xs)

abbrev Failing : List Text → Type 0
Failing xs = (rows0 : List Row) (p : Option (Text × List Text)) (k : ErrorKind) (ks : Kinds) → settle_fault rules false (held_at rows0 p) ≡ k ∷ ks → (pos : ℕ) → (pos ≡ 1) ⊎ (pos ≡ 2) → (over : Bool)
    → outcome (walk_at rows0 p idle pos over) xs ≡ None

-- no word is left
resting_end : Resting []
resting_end rows0 p rows clean settles filled pos at true = nothing_left rows0 p rows clean settles pos [] [] true
resting_end rows0 p rows clean settles filled pos at false = nothing_left rows0 p rows clean settles pos [] [] false

awaiting_end : Awaiting []
awaiting_end rows s filled pos at = fails_nothing rows (Some (name_of s, [])) InvalidValue [] (half_fault s rows) pos (option (name_of s)) false

failing_end : Failing []
failing_end rows0 p k ks bad pos at over = fails_nothing rows0 p k ks bad pos idle over

-- one word more
failing_seen : (x : Text) (xs : List Text) → IsUtf8 x → Seen x → Failing xs → (rows0 : List Row) (p : Option (Text × List Text)) (k : ErrorKind) (ks : Kinds) → settle_fault rules false (held_at rows0 p) ≡ k ∷ ks → (pos : ℕ) → (pos ≡ 1) ⊎ (pos ≡ 2)
    → outcome (walk_at rows0 p idle pos false) (x ∷ xs) ≡ None
failing_seen x xs utf8 (sees_end two is) later rows0 p k ks bad pos at = fails_end rows0 p k ks bad pos x xs two ∙ later rows0 p k ks bad pos at true
failing_seen x xs utf8 (sees_named n v two long is) later rows0 p k ks bad pos at = fails_named rows0 p k ks bad pos x xs n v two long
failing_seen x xs utf8 (sees_dashed b flags two long short is whole) later rows0 p k ks bad pos at =
    let first = character b flags (subst IsUtf8 whole utf8) in
    fails_dashed rows0 p k ks bad pos x xs b first.0 flags two long short first.1
failing_seen x xs utf8 (sees_plain two long short is) later rows0 p k ks bad pos at = fails_plain rows0 p k ks bad pos x xs two long short at

failing_more : (x : Text) (xs : List Text) → IsUtf8 x → Failing xs → Failing (x ∷ xs)
failing_more x xs utf8 later rows0 p k ks bad pos at true = fails_over rows0 p k ks bad pos idle x xs at
failing_more x xs utf8 later rows0 p k ks bad pos at false = failing_seen x xs utf8 (word_seen x) later rows0 p k ks bad pos at

-- nothing is given any more once the options end where one awaits its value
awaits_for_ever : (xs : List Text) (rows : List Row) (s : Setting) (pos : ℕ) → (pos ≡ 1) ⊎ (pos ≡ 2) → outcome (walk_at rows (Some (name_of s, [])) (option (name_of s)) pos true) xs ≡ None
awaits_for_ever [] rows s pos at = fails_nothing rows (Some (name_of s, [])) InvalidValue [] (half_fault s rows) pos (option (name_of s)) true
awaits_for_ever (x ∷ xs) rows s pos at = fails_over rows (Some (name_of s, [])) InvalidValue [] (half_fault s rows) pos (option (name_of s)) x xs at

-- a value comes
given_value : (x : Text) (xs : List Text) (rows : List Row) (s : Setting) (pos : ℕ) → are_filled rows ≡ true → pos ≡ position rows → (b : Bool) → has_row (name_of s) rows ≡ b → Resting xs → Failing xs
    → outcome (walk_at rows (Some (name_of s, x ∷ [])) idle pos false) xs ≡ option_and_then (all_given (given_in rows)) (with_part (setting s x) (parts_from None xs))
given_value x xs rows s pos filled at true there rest fails = fails rows (Some (name_of s, x ∷ [])) ArgumentConflict [] (held_again s rows x there) pos (one_or_two (has_row (codes "file") rows) pos at) false ∙ gives_none (setting s x) rows (parts_from None xs) filled there
given_value x xs rows s pos filled at false none rest fails =
    rest rows (Some (name_of s, x ∷ [])) (rows ++ one_row option_reading (name_of s) x ∷ []) (held_clean s rows x none) (held_settles s rows x none) (filled_more rows option_reading (name_of s) x filled) pos (at ∙ same_position s rows x) false
    ∙ gives_more (setting s x) rows option_reading false xs none

awaiting_seen : (x : Text) (xs : List Text) → IsUtf8 x → Seen x → Resting xs → Failing xs → Awaiting (x ∷ xs)
awaiting_seen x xs utf8 (sees_end two is) rest fails rows s filled pos at =
    half_end rows (Some (name_of s, [])) InvalidValue [] (half_fault s rows) pos (name_of s) x xs two ∙ awaits_for_ever xs rows s pos (one_or_two (has_row (codes "file") rows) pos at)
    ∙ ap (λ (w : Spelling). option_and_then (all_given (given_in rows)) (value_at s w x (parts_from None xs))) (sym is)
awaiting_seen x xs utf8 (sees_named n v two long is) rest fails rows s filled pos at =
    half_named rows (Some (name_of s, [])) InvalidValue [] (half_fault s rows) pos (name_of s) x xs n v two long
    ∙ ap (λ (w : Spelling). option_and_then (all_given (given_in rows)) (value_at s w x (parts_from None xs))) (sym is)
awaiting_seen x xs utf8 (sees_dashed b flags two long short is whole) rest fails rows s filled pos at =
    let first = character b flags (subst IsUtf8 whole utf8) in
    half_dashed rows (Some (name_of s, [])) InvalidValue [] (half_fault s rows) pos (name_of s) x xs b first.0 flags two long short first.1
    ∙ ap (λ (w : Spelling). option_and_then (all_given (given_in rows)) (value_at s w x (parts_from None xs))) (sym is)
awaiting_seen x xs utf8 (sees_plain two long short is) rest fails rows s filled pos at =
    half_step s rows pos x xs two long short ∙ given_value x xs rows s pos filled at (has_row (name_of s) rows) refl rest fails
    ∙ ap (λ (w : Spelling). option_and_then (all_given (given_in rows)) (value_at s w x (parts_from None xs))) (sym is)

module _ (x : Text) (xs : List Text) (rest : Resting xs) (waits : Awaiting xs) (rows0 : List Row) (p : Option (Text × List Text)) (rows : List Row) (clean : settle_fault rules false (held_at rows0 p) ≡ []) (settles : settled_rows rules p rows0 ≡ rows) (filled : are_filled rows ≡ true) (pos : ℕ) (at : pos ≡ position rows) where
  abbrev came : Option Given
  came = outcome (walk_at rows0 p idle pos false) (x ∷ xs)

  abbrev asked : Option (List Part) → Option Given
  asked = option_and_then (all_given (given_in rows))

  abbrev go_on : Option Setting → Option (List Part)
  go_on awaited = parts_from awaited xs

  value_comes : (s : Setting) (n v : Text) → bytes_eq x (45 ∷ 45 ∷ []) ≡ false → long_of x ≡ Some (n, Some v) → setting_named n ≡ Some s → (b : Bool) → has_row (name_of s) rows ≡ b → came ≡ asked (with_part (setting s v) (parts_from None xs))
  value_comes s n v two long name true there = value_again rows0 p rows clean settles pos x xs s n v two long name there ∙ gives_none (setting s v) rows (parts_from None xs) filled there
  value_comes s n v two long name false none =
      value_step rows0 p rows clean settles pos x xs s n v two long name none
      ∙ rest (rows ++ one_row option_reading (name_of s) v ∷ []) None (rows ++ one_row option_reading (name_of s) v ∷ []) refl refl (filled_more rows option_reading (name_of s) v filled) pos (at ∙ same_position s rows v) false
      ∙ gives_more (setting s v) rows option_reading false xs none

  library_comes : (n : Text) → bytes_eq x (45 ∷ 45 ∷ []) ≡ false → long_of x ≡ Some (n, None) → setting_named n ≡ None → names_library n ≡ true → (b : Bool) → has_row (codes "lib") rows ≡ b → came ≡ asked (with_part library (parts_from None xs))
  library_comes n two long name lib true there = library_again rows0 p rows clean settles pos x xs n two long name lib there ∙ gives_none library rows (parts_from None xs) filled there
  library_comes n two long name lib false none =
      library_step rows0 p rows clean settles pos x xs n two long name lib none
      ∙ rest (rows ++ one_row (reading_by built_library) (codes "lib") (codes "true") ∷ []) None (rows ++ one_row (reading_by built_library) (codes "lib") (codes "true") ∷ []) refl refl (filled_more rows (reading_by built_library) (codes "lib") (codes "true") filled) pos (at ∙ ap position_at (sym (has_other rows (reading_by built_library) (codes "lib") (codes "file") (codes "true") refl))) false
      ∙ gives_more library rows (reading_by built_library) false xs none

  named_comes : (n : Text) (v : Option Text) → bytes_eq x (45 ∷ 45 ∷ []) ≡ false → long_of x ≡ Some (n, v) → (o : Option Setting) → setting_named n ≡ o → (l : Bool) → names_library n ≡ l → came ≡ asked (named_part o l v go_on)
  named_comes n (Some v) two long (Some s) name l lib = value_comes s n v two long name (has_row (name_of s) rows) refl
  named_comes n None two long (Some s) name l lib = await_step rows0 p rows clean settles pos x xs s n two long name ∙ waits rows s filled pos at
  named_comes n (Some v) two long None name true lib = library_valued rows0 p rows clean settles pos x xs n v two long name lib
  named_comes n None two long None name true lib = library_comes n two long name lib (has_row (codes "lib") rows) refl
  named_comes n v two long None name false lib = unknown_step rows0 p rows clean settles pos x xs n v two long name lib

  file_comes : bytes_eq x (45 ∷ 45 ∷ []) ≡ false → long_of x ≡ None → short_of x ≡ None → (b : Bool) → has_row (codes "file") rows ≡ b → came ≡ asked (with_part (file x) (parts_from None xs))
  file_comes two long short true there = plain_second rows0 p rows clean settles pos x xs two long short (at ∙ ap position_at there) ∙ gives_none (file x) rows (parts_from None xs) filled there
  file_comes two long short false none =
      plain_step rows0 p rows clean settles pos x xs two long short (at ∙ ap position_at none)
      ∙ rest rows (Some (codes "file", x ∷ [])) (rows ++ one_row option_reading (codes "file") x ∷ []) (file_clean rows x none) (file_settles rows x none) (filled_more rows option_reading (codes "file") x filled) 2 (ap position_at (sym (has_own rows option_reading (codes "file") (codes "file") x refl))) false
      ∙ gives_more (file x) rows option_reading false xs none

  later_file : (b : Bool) → has_row (codes "file") rows ≡ b → outcome (walk_at rows0 p idle pos true) (x ∷ xs) ≡ gives rows true (x ∷ xs)
  later_file true there = trail_second rows0 p rows clean settles pos x xs (at ∙ ap position_at there) ∙ gives_none (file x) rows (Some (map file xs)) filled there
  later_file false none =
      trail_step rows0 p rows clean settles pos x xs (at ∙ ap position_at none)
      ∙ rest rows (Some (codes "file", x ∷ [])) (rows ++ one_row option_reading (codes "file") x ∷ []) (file_clean rows x none) (file_settles rows x none) (filled_more rows option_reading (codes "file") x filled) 2 (ap position_at (sym (has_own rows option_reading (codes "file") (codes "file") x refl))) true
      ∙ gives_more (file x) rows option_reading true xs none

  by_spelling : IsUtf8 x → Seen x → came ≡ gives rows false (x ∷ xs)
  by_spelling utf8 (sees_end two is) =
      end_step rows0 p rows clean settles pos x xs two ∙ rest rows0 p rows clean settles filled pos at true
      ∙ ap (λ (w : Spelling). asked (part_at w x xs go_on)) (sym is)
  by_spelling utf8 (sees_named n v two long is) =
      named_comes n v two long (setting_named n) refl (names_library n) refl
      ∙ ap (λ (w : Spelling). asked (part_at w x xs go_on)) (sym is)
  by_spelling utf8 (sees_dashed b flags two long short is whole) =
      let first = character b flags (subst IsUtf8 whole utf8) in
      dashed_step rows0 p rows clean settles pos x xs b first.0 flags two long short first.1
      ∙ ap (λ (w : Spelling). asked (part_at w x xs go_on)) (sym is)
  by_spelling utf8 (sees_plain two long short is) =
      file_comes two long short (has_row (codes "file") rows) refl
      ∙ ap (λ (w : Spelling). asked (part_at w x xs go_on)) (sym is)

resting_more : (x : Text) (xs : List Text) → IsUtf8 x → Resting xs → Awaiting xs → Resting (x ∷ xs)
resting_more x xs utf8 rest waits rows0 p rows clean settles filled pos at true = later_file x xs rest waits rows0 p rows clean settles filled pos at (has_row (codes "file") rows) refl
resting_more x xs utf8 rest waits rows0 p rows clean settles filled pos at false = by_spelling x xs rest waits rows0 p rows clean settles filled pos at utf8 (word_seen x)

all_words : (xs : List Text) → AreUtf8 xs → Resting xs × Awaiting xs × Failing xs
all_words [] utf8 = (resting_end, awaiting_end, failing_end)
all_words (x ∷ xs) utf8 =
    let later = all_words xs utf8.1 in
    (resting_more x xs utf8.0 later.0 later.1, awaiting_seen x xs utf8.0 (word_seen x) later.0 later.2, failing_more x xs utf8.0 later.2)

-- the walk from the start comes to what the words give
pub walk_gives : (words : List Text) → AreUtf8 words → outcome (walk_at [] None idle 1 false) words ≡ values_given words
walk_gives words utf8 = (all_words words utf8).0 [] None [] refl refl refl 1 refl false
