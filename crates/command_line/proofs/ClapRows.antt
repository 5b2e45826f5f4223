-- What the rows of clap's matches give.
use Rattle.std.proofs.Common.{◌≡◌, ◌∙◌, ◌||◌, ◌&&◌, true≢false, Bool, cond, true, false, not, List, [], ◌∷◌, ◌++◌, Some, None, codes, refl, sym, ap}
use Rattle.std.specs.Prelude.{bytes_eq, slice_get, option_and_then, find}
use Rattle.std.specs.List.{list_all}
use Rattle.clap.specs.Walk.{Row, at_row, without, with_values, more_values, has_row, first_of, is_empty}
use Rattle.clap.specs.declared.builder.value_parser.Reading.{Reading}
use Rattle.clap.specs.declared.parser.matches.ValueSource.TheVariants.{CommandLine}
use Rattle.command_line.specs.Parts.{Text}
use Rattle.command_line.specs.Parts.{Part, setting, library, file}
use Rattle.command_line.specs.Lines.{with_setting, with_given}
use Rattle.command_line.specs.Parts.{Setting}
use Rattle.command_line.specs.Parts.{Workers, Fuel, Ahead, Round, Dialect, Gen}
use Rattle.command_line.specs.Clap.{given_in}
use Rattle.command_line.proofs.ClapRules.{name_of}

-- the row of one value
abbrev pub one_row : Reading → Text → Text → Row
one_row how id v = record { id = id; values = v ∷ []; count = None; source = Some CommandLine; reading = how }

-- each row has a value
abbrev pub has_values : Row → Bool
has_values r = not (is_empty r.values)

abbrev pub are_filled : List Row → Bool
are_filled rows = list_all has_values rows

left_false : (a b : Bool) → (a || b) ≡ false → a ≡ false
left_false false b e = refl
left_false true b e = e

right_false : (a b : Bool) → (a || b) ≡ false → b ≡ false
right_false false b e = e
right_false true b e = absurd (true≢false e)

right_true : (a b : Bool) → (a && b) ≡ true → b ≡ true
right_true true b e = e
right_true false b e = absurd (true≢false (sym e))

left_true : (a b : Bool) → (a && b) ≡ true → a ≡ true
left_true true b e = refl
left_true false b e = e

-- rows that have none of an id
at_missing : (id : Text) (change : Row → List Row) (missing rows : List Row) → has_row id rows ≡ false → at_row id change missing rows ≡ rows ++ missing
at_missing id change missing [] none = refl
at_missing id change missing (r ∷ rs) none =
    let here : bytes_eq r.id id ≡ false = left_false (bytes_eq r.id id) (has_row id rs) none in
    rw here (ap (λ more. r ∷ more) (at_missing id change missing rs (right_false (bytes_eq r.id id) (has_row id rs) none)))

same_rows : (rows : List Row) → rows ++ [] ≡ rows
same_rows [] = refl
same_rows (r ∷ rs) = ap (λ more. r ∷ more) (same_rows rs)

-- a first use is one row more
pub used_once : (id : Text) (how : Reading) (v : Text) (rows : List Row) → has_row id rows ≡ false → with_values id how CommandLine (v ∷ []) (without id rows) ≡ rows ++ one_row how id v ∷ []
used_once id how v rows none =
    let out : without id rows ≡ rows = at_missing id (λ _. []) [] rows none ∙ same_rows rows in
    ap (with_values id how CommandLine (v ∷ [])) out ∙ at_missing id (more_values CommandLine (v ∷ [])) (one_row how id v ∷ []) rows none

pub filled_more : (rows : List Row) (how : Reading) (id v : Text) → are_filled rows ≡ true → are_filled (rows ++ one_row how id v ∷ []) ≡ true
filled_more [] how id v all = refl
filled_more (r ∷ rs) how id v all = rw (left_true (has_values r) (are_filled rs) all) (filled_more rs how id v (right_true (has_values r) (are_filled rs) all))

-- the rows with one more, by another id, and by its own
pub has_other : (rows : List Row) (how : Reading) (id j v : Text) → bytes_eq id j ≡ false → has_row j (rows ++ one_row how id v ∷ []) ≡ has_row j rows
has_other [] how id j v apart = rw apart refl
has_other (r ∷ rs) how id j v apart = ap (λ b. bytes_eq r.id j || b) (has_other rs how id j v apart)

pub has_own : (rows : List Row) (how : Reading) (id j v : Text) → bytes_eq id j ≡ true → has_row j (rows ++ one_row how id v ∷ []) ≡ true
has_own [] how id j v own = rw own refl
has_own (r ∷ rs) how id j v own = go (bytes_eq r.id j) (has_own rs how id j v own)
  where
    go : (b : Bool) → has_row j (rs ++ one_row how id v ∷ []) ≡ true → (b || has_row j (rs ++ one_row how id v ∷ [])) ≡ true
    go true e = refl
    go false e = e

pub first_other : (rows : List Row) (how : Reading) (id j v : Text) → bytes_eq id j ≡ false → first_of j (rows ++ one_row how id v ∷ []) ≡ first_of j rows
first_other [] how id j v apart = rw apart refl
first_other (r ∷ rs) how id j v apart = go (bytes_eq r.id j) (first_other rs how id j v apart)
  where
    go : (b : Bool) → first_of j (rs ++ one_row how id v ∷ []) ≡ first_of j rs
        → option_and_then (λ (x : Row). slice_get x.values 0) (cond b (Some r) (find (λ x. bytes_eq x.id j) (rs ++ one_row how id v ∷ []))) ≡ option_and_then (λ (x : Row). slice_get x.values 0) (cond b (Some r) (find (λ x. bytes_eq x.id j) rs))
    go true e = refl
    go false e = e

pub first_own : (rows : List Row) (how : Reading) (id j v : Text) → has_row j rows ≡ false → bytes_eq id j ≡ true → first_of j (rows ++ one_row how id v ∷ []) ≡ Some v
first_own [] how id j v none own = rw own refl
first_own (r ∷ rs) how id j v none own =
    let here : bytes_eq r.id j ≡ false = left_false (bytes_eq r.id j) (has_row j rs) none in
    rw here (first_own rs how id j v (right_false (bytes_eq r.id j) (has_row j rs) none) own)

-- an id has a value where it has a row
first_none : (rows : List Row) (j : Text) → has_row j rows ≡ false → first_of j rows ≡ None
first_none [] j none = refl
first_none (r ∷ rs) j none =
    let here : bytes_eq r.id j ≡ false = left_false (bytes_eq r.id j) (has_row j rs) none in
    rw here (first_none rs j (right_false (bytes_eq r.id j) (has_row j rs) none))

first_some : (vs : List Text) → not (is_empty vs) ≡ true → (v : Text) × (slice_get vs 0 ≡ Some v)
first_some [] e = absurd (true≢false (sym e))
first_some (v ∷ vs) e = (v, refl)

pub some_first : (rows : List Row) (j : Text) → are_filled rows ≡ true → has_row j rows ≡ true → (v : Text) × (first_of j rows ≡ Some v)
some_first [] j all there = absurd (true≢false (sym there))
some_first (r ∷ rs) j all there = go (bytes_eq r.id j) refl there (λ here. some_first rs j (right_true (has_values r) (are_filled rs) all) here)
  where
    go : (b : Bool) → bytes_eq r.id j ≡ b → (b || has_row j rs) ≡ true → (has_row j rs ≡ true → (v : Text) × (first_of j rs ≡ Some v)) → (v : Text) × (first_of j (r ∷ rs) ≡ Some v)
    go true e there later = rw e (first_some r.values (left_true (has_values r) (are_filled rs) all))
    go false e there later = rw e (later there)

-- the rows with one more give what they gave, with one thing more
module _ (rows : List Row) (how : Reading) (v : Text) where
  abbrev after : Text → List Row
  after id = rows ++ one_row how id v ∷ []

  other : (id j : Text) → bytes_eq id j ≡ false → first_of j (after id) ≡ first_of j rows
  other id j apart = first_other rows how id j v apart

  lib_other : (id : Text) → bytes_eq id (codes "lib") ≡ false → has_row (codes "lib") (after id) ≡ has_row (codes "lib") rows
  lib_other id apart = has_other rows how id (codes "lib") v apart

  own : (id : Text) → has_row id rows ≡ false → bytes_eq id id ≡ true → first_of id (after id) ≡ Some v
  own id none same = first_own rows how id id v none same

  workers_more : has_row (codes "workers") rows ≡ false → given_in (after (codes "workers")) ≡ record (given_in rows) { workers = Some v }
  workers_more none = rw (own (codes "workers") none refl, other (codes "workers") (codes "fuel") refl, other (codes "workers") (codes "ahead") refl, other (codes "workers") (codes "round") refl, other (codes "workers") (codes "dialect") refl, other (codes "workers") (codes "gen") refl, lib_other (codes "workers") refl, other (codes "workers") (codes "file") refl) refl

  fuel_more : has_row (codes "fuel") rows ≡ false → given_in (after (codes "fuel")) ≡ record (given_in rows) { fuel = Some v }
  fuel_more none = rw (own (codes "fuel") none refl, other (codes "fuel") (codes "workers") refl, other (codes "fuel") (codes "ahead") refl, other (codes "fuel") (codes "round") refl, other (codes "fuel") (codes "dialect") refl, other (codes "fuel") (codes "gen") refl, lib_other (codes "fuel") refl, other (codes "fuel") (codes "file") refl) refl

  ahead_more : has_row (codes "ahead") rows ≡ false → given_in (after (codes "ahead")) ≡ record (given_in rows) { ahead = Some v }
  ahead_more none = rw (own (codes "ahead") none refl, other (codes "ahead") (codes "workers") refl, other (codes "ahead") (codes "fuel") refl, other (codes "ahead") (codes "round") refl, other (codes "ahead") (codes "dialect") refl, other (codes "ahead") (codes "gen") refl, lib_other (codes "ahead") refl, other (codes "ahead") (codes "file") refl) refl

  round_more : has_row (codes "round") rows ≡ false → given_in (after (codes "round")) ≡ record (given_in rows) { round = Some v }
  round_more none = rw (own (codes "round") none refl, other (codes "round") (codes "workers") refl, other (codes "round") (codes "fuel") refl, other (codes "round") (codes "ahead") refl, other (codes "round") (codes "dialect") refl, other (codes "round") (codes "gen") refl, lib_other (codes "round") refl, other (codes "round") (codes "file") refl) refl

  dialect_more : has_row (codes "dialect") rows ≡ false → given_in (after (codes "dialect")) ≡ record (given_in rows) { dialect = Some v }
  dialect_more none = rw (own (codes "dialect") none refl, other (codes "dialect") (codes "workers") refl, other (codes "dialect") (codes "fuel") refl, other (codes "dialect") (codes "ahead") refl, other (codes "dialect") (codes "round") refl, other (codes "dialect") (codes "gen") refl, lib_other (codes "dialect") refl, other (codes "dialect") (codes "file") refl) refl

  gen_more : has_row (codes "gen") rows ≡ false → given_in (after (codes "gen")) ≡ record (given_in rows) { gen = Some v }
  gen_more none = rw (own (codes "gen") none refl, other (codes "gen") (codes "workers") refl, other (codes "gen") (codes "fuel") refl, other (codes "gen") (codes "ahead") refl, other (codes "gen") (codes "round") refl, other (codes "gen") (codes "dialect") refl, lib_other (codes "gen") refl, other (codes "gen") (codes "file") refl) refl

  lib_more : has_row (codes "lib") rows ≡ false → given_in (after (codes "lib")) ≡ record (given_in rows) { lib = true }
  lib_more none = rw (has_own rows how (codes "lib") (codes "lib") v refl, other (codes "lib") (codes "workers") refl, other (codes "lib") (codes "fuel") refl, other (codes "lib") (codes "ahead") refl, other (codes "lib") (codes "round") refl, other (codes "lib") (codes "dialect") refl, other (codes "lib") (codes "gen") refl, other (codes "lib") (codes "file") refl) refl

  file_more : has_row (codes "file") rows ≡ false → given_in (after (codes "file")) ≡ record (given_in rows) { file = Some v }
  file_more none = rw (own (codes "file") none refl, other (codes "file") (codes "workers") refl, other (codes "file") (codes "fuel") refl, other (codes "file") (codes "ahead") refl, other (codes "file") (codes "round") refl, other (codes "file") (codes "dialect") refl, other (codes "file") (codes "gen") refl, lib_other (codes "file") refl) refl

abbrev pub id_of : Part → Text
id_of (setting s v) = name_of s
id_of library = codes "lib"
id_of (file name) = codes "file"

abbrev pub value_of : Part → Text
value_of (setting s v) = v
value_of library = codes "true"
value_of (file name) = name

setting_more : (s : Setting) (rows : List Row) (how : Reading) (v : Text) → has_row (name_of s) rows ≡ false → with_setting s v (given_in rows) ≡ Some (given_in (rows ++ one_row how (name_of s) v ∷ []))
setting_more Workers rows how v none = rw (first_none rows (codes "workers") none) (ap Some (sym (workers_more rows how v none)))
setting_more Fuel rows how v none = rw (first_none rows (codes "fuel") none) (ap Some (sym (fuel_more rows how v none)))
setting_more Ahead rows how v none = rw (first_none rows (codes "ahead") none) (ap Some (sym (ahead_more rows how v none)))
setting_more Round rows how v none = rw (first_none rows (codes "round") none) (ap Some (sym (round_more rows how v none)))
setting_more Dialect rows how v none = rw (first_none rows (codes "dialect") none) (ap Some (sym (dialect_more rows how v none)))
setting_more Gen rows how v none = rw (first_none rows (codes "gen") none) (ap Some (sym (gen_more rows how v none)))

-- a part whose row is new is given once
pub given_more : (p : Part) (rows : List Row) (how : Reading) → has_row (id_of p) rows ≡ false → with_given p (given_in rows) ≡ Some (given_in (rows ++ one_row how (id_of p) (value_of p) ∷ []))
given_more (setting s v) rows how none = setting_more s rows how v none
given_more library rows how none = rw none (ap Some (sym (lib_more rows how (codes "true") none)))
given_more (file name) rows how none = rw (first_none rows (codes "file") none) (ap Some (sym (file_more rows how name none)))

setting_again : (s : Setting) (rows : List Row) (v : Text) → are_filled rows ≡ true → has_row (name_of s) rows ≡ true → with_setting s v (given_in rows) ≡ None
setting_again Workers rows v all there = rw ((some_first rows (codes "workers") all there).1) refl
setting_again Fuel rows v all there = rw ((some_first rows (codes "fuel") all there).1) refl
setting_again Ahead rows v all there = rw ((some_first rows (codes "ahead") all there).1) refl
setting_again Round rows v all there = rw ((some_first rows (codes "round") all there).1) refl
setting_again Dialect rows v all there = rw ((some_first rows (codes "dialect") all there).1) refl
setting_again Gen rows v all there = rw ((some_first rows (codes "gen") all there).1) refl

-- a part whose row is there is given again
pub given_again : (p : Part) (rows : List Row) → are_filled rows ≡ true → has_row (id_of p) rows ≡ true → with_given p (given_in rows) ≡ None
given_again (setting s v) rows all there = setting_again s rows v all there
given_again library rows all there = rw there refl
given_again (file name) rows all there = rw ((some_first rows (codes "file") all there).1) refl
