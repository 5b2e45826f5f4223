-- What a line of the command asks for lies in its range.
use Rattle.std.proofs.Common.{◌≡◌, ◌≤◌, ℕ, Bool, true, false, List, [], ◌∷◌, Option, Some, None, refl, sym, ap, subst, arith}
use Rattle.std.specs.Prelude.{nat_le, ◌&&◌, ◌||◌, is_some, option_and_then, option_map, Result, Ok, Err, IfOk, if◌then◌else◌}
use Rattle.std.specs.Str.Parse.{digits_value}
use Rattle.std.proofs.lemmas.Bool.Decides.{nat_tests}
use Rattle.kan_grammar.specs.Data.Words.{all_digits}
use Rattle.kan_grammar.specs.declared.dialect.Dialect.{Dialect}
use Rattle.command_line.specs.WordsRead.{Reads, line_asked}
use Rattle.command_line.specs.declared.options.Options.{Options}
use Rattle.command_line.specs.declared.fault.WordsFault.{WordsFault}
use Rattle.command_line.specs.Lines.{Given, Line, values_given, in_range, number_in, number_asked, load_asked, dialect_asked, file_asked, line_of, line_from_values, line, IsInRange}

in_its_range : (low high n m : ℕ) → in_range low high n ≡ Some m → (low ≤ m) × (m ≤ high)
in_its_range low high n m e = by (nat_le low n) (nat_le n high) refl refl e
  where
    by : (a b : Bool) → nat_le low n ≡ a → nat_le n high ≡ b → (if a && b then Some n else None) ≡ Some m → (low ≤ m) × (m ≤ high)
    by true true p q is = let same : n ≡ m = cc in (grind (arith, nat_tests), grind (arith, nat_tests))
    by true false p q is = absurd cc
    by false b p q is = absurd cc

if_some : (b : Bool) (x : Option ℕ) (n : ℕ) → (if b then x else None) ≡ Some n → x ≡ Some n
if_some true x n e = e
if_some false x n e = absurd cc

number_in_its_range : (low high : ℕ) (text : List ℕ) (n : ℕ) → number_in low high text ≡ Some n → (low ≤ n) × (n ≤ high)
number_in_its_range low high [] n e = absurd cc
number_in_its_range low high (d ∷ ds) n e =
    in_its_range low high (digits_value 10 (d ∷ ds)) n (if_some (all_digits (d ∷ ds)) (in_range low high (digits_value 10 (d ∷ ds))) n e)

asked_in_range : (default low high : ℕ) (text : Option (List ℕ)) (n : ℕ) → low ≤ default → default ≤ high → number_asked default low high text ≡ Some n → (low ≤ n) × (n ≤ high)
asked_in_range default low high None n some few e = let same : default ≡ n = cc in (omega (arith, same, some), omega (arith, same, few))
asked_in_range default low high (Some text) n some few e = number_in_its_range low high text n e

load_there : (text : Option (List ℕ)) (n : ℕ) → load_asked text ≡ Some (Some n) → n ≤ 400
load_there None n e = absurd cc
load_there (Some text) n e = by (number_in 0 400 text) refl e
  where
    by : (r : Option ℕ) → number_in 0 400 text ≡ r → option_map Some r ≡ Some (Some n) → n ≤ 400
    by None p is = absurd cc
    by (Some m) p is = let same : m ≡ n = cc in omega (arith, same, (number_in_its_range 0 400 text m p).1)

-- a line with each of its parts
parts_in_range : (w f a r : Option ℕ) (lib : Bool) (ld : Option (Option ℕ)) (d : Option Dialect) (p : Option (Option (List ℕ))) (l : Line) → Some l ≡ line_of w f a r lib ld d p →
    ((n : ℕ) → w ≡ Some n → (0 ≤ n) × (n ≤ 64)) → ((n : ℕ) → f ≡ Some n → (1 ≤ n) × (n ≤ 1000000)) →
    ((n : ℕ) → a ≡ Some n → (1 ≤ n) × (n ≤ 65536)) → ((n : ℕ) → r ≡ Some n → (1 ≤ n) × (n ≤ 65536)) → ((n : ℕ) → ld ≡ Some (Some n) → n ≤ 400) → IsInRange l
parts_in_range None f a r lib ld d p l e hw hf ha hr hl = absurd cc
parts_in_range (Some w) None a r lib ld d p l e hw hf ha hr hl = absurd cc
parts_in_range (Some w) (Some f) None r lib ld d p l e hw hf ha hr hl = absurd cc
parts_in_range (Some w) (Some f) (Some a) None lib ld d p l e hw hf ha hr hl = absurd cc
parts_in_range (Some w) (Some f) (Some a) (Some r) lib None d p l e hw hf ha hr hl = absurd cc
parts_in_range (Some w) (Some f) (Some a) (Some r) lib (Some ld) None p l e hw hf ha hr hl = absurd cc
parts_in_range (Some w) (Some f) (Some a) (Some r) lib (Some ld) (Some d) None l e hw hf ha hr hl = absurd cc
parts_in_range (Some w) (Some f) (Some a) (Some r) lib (Some ld) (Some d) (Some p) l e hw hf ha hr hl =
    subst IsInRange (sym (ap (line_or l) e)) (record {
      workers = (hw w refl).1;
      some_fuel = (hf f refl).0;
      fuel = (hf f refl).1;
      some_ahead = (ha a refl).0;
      ahead = (ha a refl).1;
      some_round = (hr r refl).0;
      round = (hr r refl).1;
      load = λ n is. hl n (ap Some is);
      library = λ h. behind lib (is_some ld) h;
    })
  where
    line_or : Line → Option Line → Line
    line_or z None = z
    line_or z (Some x) = x

    behind : (x y : Bool) → y ≡ true → (x || y) ≡ true
    behind true y h = refl
    behind false y h = h

given_in_range : (g : Given) (l : Line) → Some l ≡ line_from_values g → IsInRange l
given_in_range g l e =
    parts_in_range (number_asked 0 0 64 g.workers) (number_asked 100000 1 1000000 g.fuel) (number_asked 256 1 65536 g.ahead) (number_asked 8192 1 65536 g.round) g.lib (load_asked g.gen) (dialect_asked g.dialect)
    (file_asked (is_some g.gen) g.file) l e
    (λ n is. asked_in_range 0 0 64 g.workers n (omega arith) (omega arith) is)
    (λ n is. asked_in_range 100000 1 1000000 g.fuel n (omega arith) (omega arith) is)
    (λ n is. asked_in_range 256 1 65536 g.ahead n (omega arith) (omega arith) is)
    (λ n is. asked_in_range 8192 1 65536 g.round n (omega arith) (omega arith) is)
    (λ n is. load_there g.gen n is)

pub line_in_range : (words : List (List ℕ)) (l : Line) → Some l ≡ line words → IsInRange l
unfolding line
line_in_range words l e = by (values_given words) e
  where
    by : (r : Option Given) → Some l ≡ option_and_then line_from_values r → IsInRange l
    by None is = absurd cc
    by (Some g) is = given_in_range g l is

-- so do the options of a line
options_in_range : (words : List (List ℕ)) (r : Result Options WordsFault) → Reads (line words) r → IfOk r (λ options. IsInRange (line_asked options))
options_in_range words (Ok options) e = line_in_range words (line_asked options) (sym e)
options_in_range words (Err fault) e = tt

pub asked_in_its_range : (words : List (List ℕ)) (l : Line) (r : Result Options WordsFault) → line words ≡ Some l → Reads (Some l) r → IfOk r (λ options. IsInRange (line_asked options))
asked_in_its_range words l r e h = options_in_range words r (subst (λ o. Reads o r) (sym e) h)
