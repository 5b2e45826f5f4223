-- What clap's walk makes of one word more.
use Rattle.std.proofs.Common.{◌≡◌, ◌&&◌, ℕ, Bool, true, false, List, [], ◌∷◌, ◌++◌, Option, Some, None, codes, refl, inl, inr}
use Rattle.std.specs.Prelude.{◌⊎◌, bytes_eq, slice_get}
use Rattle.std.specs.Str.{chars}
use Rattle.clap.specs.Lexer.{long_of, short_of}
use Rattle.clap.specs.Walk.{Row, Walk, Waiting, idle, option, walked, has_row, settled_rows, reading_by, bundle_met, is_pending}
use Rattle.clap.specs.Faults.{settle_fault, flags_fault}
use Rattle.clap.specs.declared.builder.value_parser.Reading.{Reading}
use Rattle.clap.specs.Kinds.{Kinds}
use Rattle.clap.specs.declared.error.kind.ErrorKind.{ErrorKind}
use Rattle.clap.specs.declared.error.kind.ErrorKind.TheVariants.{ArgumentConflict, InvalidValue}
use Rattle.command_line.specs.Parts.{Text, setting_named, names_library}
use Rattle.command_line.specs.Parts.{Setting}
use Rattle.command_line.specs.Parts.{Workers, Fuel, Ahead, Round, Dialect, Gen}
use Rattle.command_line.specs.Clap.{given_in}
use Rattle.command_line.proofs.ClapRules.{name_of, rules}
use Rattle.command_line.proofs.ClapRows.{one_row, used_once}
use Rattle.command_line.proofs.ClapWalk.{built_option, built_library, built_file, long_found, id_found, held_at, walk_at, outcome}

abbrev pub option_reading : Reading
option_reading = reading_by (built_option [])

-- what is held is as good as these rows
module _ (rows0 : List Row) (p : Option (Text × List Text)) (rows : List Row) (clean : settle_fault rules false (held_at rows0 p) ≡ []) (settles : settled_rows rules p rows0 ≡ rows) (pos : ℕ) (x : Text) (xs : List Text) where
  abbrev start : Walk
  start = walk_at rows0 p idle pos false

  pub end_step : bytes_eq x (45 ∷ 45 ∷ []) ≡ true → outcome start (x ∷ xs) ≡ outcome (walk_at rows0 p idle pos true) xs
  unfolding walked outcome
  end_step two = rw two refl

  pub value_step : (s : Setting) (n v : Text) → bytes_eq x (45 ∷ 45 ∷ []) ≡ false → long_of x ≡ Some (n, Some v) → setting_named n ≡ Some s → has_row (name_of s) rows ≡ false
      → outcome start (x ∷ xs) ≡ outcome (walk_at (rows ++ one_row option_reading (name_of s) v ∷ []) None idle pos false) xs
  unfolding walked outcome
  value_step s n v two long name none = rw (two, long, long_found n, name, clean, settles, none, used_once (name_of s) option_reading v rows none) refl

  pub value_again : (s : Setting) (n v : Text) → bytes_eq x (45 ∷ 45 ∷ []) ≡ false → long_of x ≡ Some (n, Some v) → setting_named n ≡ Some s → has_row (name_of s) rows ≡ true → outcome start (x ∷ xs) ≡ None
  unfolding walked outcome
  value_again s n v two long name there = rw (two, long, long_found n, name, clean, settles, there) refl

  pub await_step : (s : Setting) (n : Text) → bytes_eq x (45 ∷ 45 ∷ []) ≡ false → long_of x ≡ Some (n, None) → setting_named n ≡ Some s
      → outcome start (x ∷ xs) ≡ outcome (walk_at rows (Some (name_of s, [])) (option (name_of s)) pos false) xs
  unfolding walked outcome
  await_step s n two long name = rw (two, long, long_found n, name, clean, settles) refl

  pub library_step : (n : Text) → bytes_eq x (45 ∷ 45 ∷ []) ≡ false → long_of x ≡ Some (n, None) → setting_named n ≡ None → names_library n ≡ true → has_row (codes "lib") rows ≡ false
      → outcome start (x ∷ xs) ≡ outcome (walk_at (rows ++ one_row (reading_by built_library) (codes "lib") (codes "true") ∷ []) None idle pos false) xs
  unfolding walked outcome
  library_step n two long name lib none = rw (two, long, long_found n, name, lib, clean, settles, none, used_once (codes "lib") (reading_by built_library) (codes "true") rows none) refl

  pub library_again : (n : Text) → bytes_eq x (45 ∷ 45 ∷ []) ≡ false → long_of x ≡ Some (n, None) → setting_named n ≡ None → names_library n ≡ true → has_row (codes "lib") rows ≡ true → outcome start (x ∷ xs) ≡ None
  unfolding walked outcome
  library_again n two long name lib there = rw (two, long, long_found n, name, lib, clean, settles, there) refl

  pub library_valued : (n v : Text) → bytes_eq x (45 ∷ 45 ∷ []) ≡ false → long_of x ≡ Some (n, Some v) → setting_named n ≡ None → names_library n ≡ true → outcome start (x ∷ xs) ≡ None
  unfolding walked outcome
  library_valued n v two long name lib = rw (two, long, long_found n, name, lib) refl

  pub unknown_step : (n : Text) (v : Option Text) → bytes_eq x (45 ∷ 45 ∷ []) ≡ false → long_of x ≡ Some (n, v) → setting_named n ≡ None → names_library n ≡ false → outcome start (x ∷ xs) ≡ None
  unfolding walked outcome
  unknown_step n v two long name lib = rw (two, long, long_found n, name, lib) refl

  pub dashed_step : (b c : ℕ) (flags : Text) → bytes_eq x (45 ∷ 45 ∷ []) ≡ false → long_of x ≡ None → short_of x ≡ Some (b ∷ flags) → slice_get (chars (b ∷ flags)) 0 ≡ Some c → outcome start (x ∷ xs) ≡ None
  unfolding walked outcome bundle_met flags_fault
  dashed_step b c flags two long short first = rw (two, long, short, first) refl

  no_several : (o : Bool) → (o && false) ≡ false
  no_several true = refl
  no_several false = refl

  pub plain_step : bytes_eq x (45 ∷ 45 ∷ []) ≡ false → long_of x ≡ None → short_of x ≡ None → pos ≡ 1
      → outcome start (x ∷ xs) ≡ outcome (walk_at rows (Some (codes "file", x ∷ [])) idle 2 false) xs
  unfolding walked outcome
  plain_step two long short first = rw (two, long, short, first, no_several (is_pending built_file p), clean, settles) refl

  pub plain_second : bytes_eq x (45 ∷ 45 ∷ []) ≡ false → long_of x ≡ None → short_of x ≡ None → pos ≡ 2 → outcome start (x ∷ xs) ≡ None
  unfolding walked outcome
  plain_second two long short second = rw (two, long, short, second) refl

  pub trail_step : pos ≡ 1 → outcome (walk_at rows0 p idle pos true) (x ∷ xs) ≡ outcome (walk_at rows (Some (codes "file", x ∷ [])) idle 2 true) xs
  unfolding walked outcome
  trail_step first = rw (first, no_several (is_pending built_file p), clean, settles) refl

  pub trail_second : pos ≡ 2 → outcome (walk_at rows0 p idle pos true) (x ∷ xs) ≡ None
  unfolding walked outcome
  trail_second second = rw second refl

  pub nothing_left : (over : Bool) → outcome (walk_at rows0 p idle pos over) [] ≡ Some (given_in rows)
  unfolding outcome
  nothing_left over = rw (clean, settles) refl

-- an option that awaits its value is given the next word
pub half_step : (s : Setting) (rows : List Row) (pos : ℕ) (x : Text) (xs : List Text) → bytes_eq x (45 ∷ 45 ∷ []) ≡ false → long_of x ≡ None → short_of x ≡ None
    → outcome (walk_at rows (Some (name_of s, [])) (option (name_of s)) pos false) (x ∷ xs) ≡ outcome (walk_at rows (Some (name_of s, x ∷ [])) idle pos false) xs
unfolding walked outcome
half_step Workers rows pos x xs two long short = rw (two, long, short) refl
half_step Fuel rows pos x xs two long short = rw (two, long, short) refl
half_step Ahead rows pos x xs two long short = rw (two, long, short) refl
half_step Round rows pos x xs two long short = rw (two, long, short) refl
half_step Dialect rows pos x xs two long short = rw (two, long, short) refl
half_step Gen rows pos x xs two long short = rw (two, long, short) refl

-- what an option has, and what it has not, by the rows
pub held_clean : (s : Setting) (rows : List Row) (v : Text) → has_row (name_of s) rows ≡ false → settle_fault rules false (held_at rows (Some (name_of s, v ∷ []))) ≡ []
held_clean s rows v none = rw (id_found s, none) refl

pub held_settles : (s : Setting) (rows : List Row) (v : Text) → has_row (name_of s) rows ≡ false → settled_rows rules (Some (name_of s, v ∷ [])) rows ≡ rows ++ one_row option_reading (name_of s) v ∷ []
held_settles s rows v none = rw (id_found s) (used_once (name_of s) option_reading v rows none)

pub file_clean : (rows : List Row) (v : Text) → has_row (codes "file") rows ≡ false → settle_fault rules false (held_at rows (Some (codes "file", v ∷ []))) ≡ []
file_clean rows v none = rw none refl

pub file_settles : (rows : List Row) (v : Text) → has_row (codes "file") rows ≡ false → settled_rows rules (Some (codes "file", v ∷ [])) rows ≡ rows ++ one_row option_reading (codes "file") v ∷ []
file_settles rows v none = used_once (codes "file") option_reading v rows none

pub held_again : (s : Setting) (rows : List Row) (v : Text) → has_row (name_of s) rows ≡ true → settle_fault rules false (held_at rows (Some (name_of s, v ∷ []))) ≡ ArgumentConflict ∷ []
held_again s rows v there = rw (id_found s, there) refl

pub half_fault : (s : Setting) (rows : List Row) → settle_fault rules false (held_at rows (Some (name_of s, []))) ≡ InvalidValue ∷ []
half_fault s rows = rw (id_found s) refl

-- what is held fails where it is used
module _ (rows0 : List Row) (p : Option (Text × List Text)) (k : ErrorKind) (ks : Kinds) (bad : settle_fault rules false (held_at rows0 p) ≡ k ∷ ks) (pos : ℕ) where
  pub fails_nothing : (w : Waiting) (over : Bool) → outcome (walk_at rows0 p w pos over) [] ≡ None
  unfolding outcome
  fails_nothing w over = rw bad refl

  several : (o : Bool) → (o && false) ≡ false
  several true = refl
  several false = refl

  pub fails_over : (w : Waiting) (x : Text) (xs : List Text) → (pos ≡ 1) ⊎ (pos ≡ 2) → outcome (walk_at rows0 p w pos true) (x ∷ xs) ≡ None
  unfolding walked outcome
  fails_over w x xs (inl first) = rw (first, several (is_pending built_file p), bad) refl
  fails_over w x xs (inr second) = rw second refl

  -- a word with an option's name, by the kinds of names
  named_idle : (x : Text) (xs : List Text) (n : Text) (v : Option Text) (s : Option Setting) (lib : Bool) → bytes_eq x (45 ∷ 45 ∷ []) ≡ false → long_of x ≡ Some (n, v) → setting_named n ≡ s → names_library n ≡ lib → outcome (walk_at rows0 p idle pos false) (x ∷ xs) ≡ None
  unfolding walked outcome
  named_idle x xs n (Some v) (Some s) lib two long name is = rw (two, long, long_found n, name, bad) refl
  named_idle x xs n None (Some s) lib two long name is = rw (two, long, long_found n, name, bad) refl
  named_idle x xs n (Some v) None true two long name is = rw (two, long, long_found n, name, is) refl
  named_idle x xs n None None true two long name is = rw (two, long, long_found n, name, is, bad) refl
  named_idle x xs n v None false two long name is = rw (two, long, long_found n, name, is) refl

  pub fails_named : (x : Text) (xs : List Text) (n : Text) (v : Option Text) → bytes_eq x (45 ∷ 45 ∷ []) ≡ false → long_of x ≡ Some (n, v) → outcome (walk_at rows0 p idle pos false) (x ∷ xs) ≡ None
  fails_named x xs n v two long = named_idle x xs n v (setting_named n) (names_library n) two long refl refl

  pub fails_dashed : (x : Text) (xs : List Text) (b c : ℕ) (flags : Text) → bytes_eq x (45 ∷ 45 ∷ []) ≡ false → long_of x ≡ None → short_of x ≡ Some (b ∷ flags) → slice_get (chars (b ∷ flags)) 0 ≡ Some c → outcome (walk_at rows0 p idle pos false) (x ∷ xs) ≡ None
  unfolding walked outcome bundle_met flags_fault
  fails_dashed x xs b c flags two long short first = rw (two, long, short, first) refl

  pub fails_plain : (x : Text) (xs : List Text) → bytes_eq x (45 ∷ 45 ∷ []) ≡ false → long_of x ≡ None → short_of x ≡ None → (pos ≡ 1) ⊎ (pos ≡ 2) → outcome (walk_at rows0 p idle pos false) (x ∷ xs) ≡ None
  unfolding walked outcome
  fails_plain x xs two long short (inl first) = rw (two, long, short, first, several (is_pending built_file p), bad) refl
  fails_plain x xs two long short (inr second) = rw (two, long, short, second) refl

  pub fails_end : (x : Text) (xs : List Text) → bytes_eq x (45 ∷ 45 ∷ []) ≡ true → outcome (walk_at rows0 p idle pos false) (x ∷ xs) ≡ outcome (walk_at rows0 p idle pos true) xs
  unfolding walked outcome
  fails_end x xs two = rw two refl

  -- the same where an option awaits its value
  pub half_end : (o x : Text) (xs : List Text) → bytes_eq x (45 ∷ 45 ∷ []) ≡ true → outcome (walk_at rows0 p (option o) pos false) (x ∷ xs) ≡ outcome (walk_at rows0 p (option o) pos true) xs
  unfolding walked outcome
  half_end o x xs two = rw two refl

  named_half : (o x : Text) (xs : List Text) (n : Text) (v : Option Text) (s : Option Setting) (lib : Bool) → bytes_eq x (45 ∷ 45 ∷ []) ≡ false → long_of x ≡ Some (n, v) → setting_named n ≡ s → names_library n ≡ lib → outcome (walk_at rows0 p (option o) pos false) (x ∷ xs) ≡ None
  unfolding walked outcome
  named_half o x xs n (Some v) (Some s) lib two long name is = rw (two, long, long_found n, name, bad) refl
  named_half o x xs n None (Some s) lib two long name is = rw (two, long, long_found n, name, bad) refl
  named_half o x xs n (Some v) None true two long name is = rw (two, long, long_found n, name, is) refl
  named_half o x xs n None None true two long name is = rw (two, long, long_found n, name, is, bad) refl
  named_half o x xs n v None false two long name is = rw (two, long, long_found n, name, is) refl

  pub half_named : (o x : Text) (xs : List Text) (n : Text) (v : Option Text) → bytes_eq x (45 ∷ 45 ∷ []) ≡ false → long_of x ≡ Some (n, v) → outcome (walk_at rows0 p (option o) pos false) (x ∷ xs) ≡ None
  half_named o x xs n v two long = named_half o x xs n v (setting_named n) (names_library n) two long refl refl

  pub half_dashed : (o x : Text) (xs : List Text) (b c : ℕ) (flags : Text) → bytes_eq x (45 ∷ 45 ∷ []) ≡ false → long_of x ≡ None → short_of x ≡ Some (b ∷ flags) → slice_get (chars (b ∷ flags)) 0 ≡ Some c → outcome (walk_at rows0 p (option o) pos false) (x ∷ xs) ≡ None
  unfolding walked outcome bundle_met flags_fault
  half_dashed o x xs b c flags two long short first = rw (two, long, short, first) refl
