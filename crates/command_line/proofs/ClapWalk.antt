-- One word of clap's walk.
use Rattle.std.proofs.Common.{◌≡◌, ℕ, Bool, true, false, List, [], ◌∷◌, Option, Some, None, codes, refl}
use Rattle.std.specs.Prelude.{bytes_eq}
use Rattle.clap.specs.Kinds.{Kinds}
use Rattle.clap.specs.Walk.{Row, Rule, Held, Walk, Waiting, walked, settled, arg_by_long, arg_by_id}
use Rattle.clap.specs.Simple.{filled}
use Rattle.clap.specs.Faults.{turn_fault, settle_fault}
use Rattle.command_line.specs.Parts.{Text, setting_named, names_library}
use Rattle.command_line.specs.Lines.{Given}
use Rattle.command_line.specs.Parts.{Setting}
use Rattle.command_line.specs.Parts.{Workers, Fuel, Ahead, Round, Dialect, Gen}
use Rattle.command_line.specs.Clap.{given_in}
use Rattle.command_line.proofs.ClapRules.{name_of, rules, shape}
use Rattle.command_line.specs.Clap.{option_rule, library_rule, file_rule}

-- the rules as they are built
abbrev pub built_option : Text → Rule
built_option name = filled (option_rule name)

abbrev pub built_library : Rule
built_library = filled library_rule

abbrev pub built_file : Rule
built_file = record (filled file_rule) { index = Some 1 }

-- the rule of a name
abbrev pub by_name : Option Setting → Bool → Option Rule
by_name (Some s) lib = Some (built_option (name_of s))
by_name None true = Some built_library
by_name None false = None

pub long_found : (n : Text) → arg_by_long rules n ≡ by_name (setting_named n) (names_library n)
long_found n = a (bytes_eq (codes "workers") n) refl
  where
    g : (e : bytes_eq (codes "workers") n ≡ false) (f : bytes_eq (codes "fuel") n ≡ false) (h : bytes_eq (codes "ahead") n ≡ false) (i : bytes_eq (codes "round") n ≡ false) (j : bytes_eq (codes "dialect") n ≡ false) (k : bytes_eq (codes "gen") n ≡ false) (b : Bool) → bytes_eq (codes "lib") n ≡ b → arg_by_long rules n ≡ by_name (setting_named n) (names_library n)
    g e f h i j k true l = rw (e, f, h, i, j, k, l) refl
    g e f h i j k false l = rw (e, f, h, i, j, k, l) refl

    o : (e : bytes_eq (codes "workers") n ≡ false) (f : bytes_eq (codes "fuel") n ≡ false) (h : bytes_eq (codes "ahead") n ≡ false) (i : bytes_eq (codes "round") n ≡ false) (j : bytes_eq (codes "dialect") n ≡ false) (b : Bool) → bytes_eq (codes "gen") n ≡ b → arg_by_long rules n ≡ by_name (setting_named n) (names_library n)
    o e f h i j true k = rw (e, f, h, i, j, k) refl
    o e f h i j false k = g e f h i j k (bytes_eq (codes "lib") n) refl

    d : (e : bytes_eq (codes "workers") n ≡ false) (f : bytes_eq (codes "fuel") n ≡ false) (h : bytes_eq (codes "ahead") n ≡ false) (i : bytes_eq (codes "round") n ≡ false) (b : Bool) → bytes_eq (codes "dialect") n ≡ b → arg_by_long rules n ≡ by_name (setting_named n) (names_library n)
    d e f h i true j = rw (e, f, h, i, j) refl
    d e f h i false j = o e f h i j (bytes_eq (codes "gen") n) refl

    r : (e : bytes_eq (codes "workers") n ≡ false) (f : bytes_eq (codes "fuel") n ≡ false) (h : bytes_eq (codes "ahead") n ≡ false) (b : Bool) → bytes_eq (codes "round") n ≡ b → arg_by_long rules n ≡ by_name (setting_named n) (names_library n)
    r e f h true i = rw (e, f, h, i) refl
    r e f h false i = d e f h i (bytes_eq (codes "dialect") n) refl

    q : (e : bytes_eq (codes "workers") n ≡ false) (f : bytes_eq (codes "fuel") n ≡ false) (b : Bool) → bytes_eq (codes "ahead") n ≡ b → arg_by_long rules n ≡ by_name (setting_named n) (names_library n)
    q e f true h = rw (e, f, h) refl
    q e f false h = r e f h (bytes_eq (codes "round") n) refl

    p : (e : bytes_eq (codes "workers") n ≡ false) (b : Bool) → bytes_eq (codes "fuel") n ≡ b → arg_by_long rules n ≡ by_name (setting_named n) (names_library n)
    p e true f = rw (e, f) refl
    p e false f = q e f (bytes_eq (codes "ahead") n) refl

    a : (b : Bool) → bytes_eq (codes "workers") n ≡ b → arg_by_long rules n ≡ by_name (setting_named n) (names_library n)
    a true e = rw e refl
    a false e = p e (bytes_eq (codes "fuel") n) refl

pub id_found : (s : Setting) → arg_by_id rules (name_of s) ≡ Some (built_option (name_of s))
id_found Workers = refl
id_found Fuel = refl
id_found Ahead = refl
id_found Round = refl
id_found Dialect = refl
id_found Gen = refl

abbrev pub held_at : List Row → Option (Text × List Text) → Held
held_at rows p = record { rows = rows; pending = p; skip = 0 }

abbrev pub walk_at : List Row → Option (Text × List Text) → Waiting → ℕ → Bool → Walk
walk_at rows p waiting position over = record { held = held_at rows p; waiting = waiting; position = position; is_trailing = over; stopped = None }

-- nothing where something fails
abbrev pub unless : Kinds → Option Given → Option Given
unless [] o = o
unless (k ∷ ks) o = None

-- what a walk comes to over the words that are left: what its rows give, or nothing where something fails
unfoldable pub outcome : Walk → List Text → Option Given
outcome w [] = unless (settle_fault rules false w.held) (Some (given_in (settled rules w.held).rows))
outcome w (x ∷ xs) = unless (turn_fault shape [] w x) (outcome (walked rules [] w x) xs)
