-- Tokens that spell allowed data are read as these data.
use Rattle.std.proofs.Common.{◌≡◌, ℕ, suc, Bool, true, false, ◌&&◌, nat_le, List, [], ◌∷◌, ◌++◌, length, refl, sym, ap, ◌∙◌, append_assoc, append-nil}
use Rattle.std.specs.Prelude.{None}
use Rattle.kan_grammar.specs.Data.Tokens.{Placed, placed}
use Rattle.kan_grammar.specs.Data.Words.{Atom, symbol, string, number, truth, out_of_range, reserved, Shape, round, square, Prefix, Token, opening, closing, prefix, dot, atom}
use Rattle.kan_grammar.specs.Data.Written.{Written, Within, single, list, prefixed, close, dotted, element, spell, spell_within, spell_all, is_allowed_atom, is_allowed, are_allowed_within, are_allowed, deepest}
use Rattle.kan_grammar.specs.Data.Enclosing.{Build, Place, top, in_list, after_dot, after_prefix, Enclosing, awaiting, ended, depth, put, row, as_written}
use Rattle.kan_grammar.specs.Data.Faults.{refusal, after, going, settle, run, finish, data_are, read_tokens}

pub and_left : (a b : Bool) → a && b ≡ true → a ≡ true
and_left true b h = refl
and_left false b h = absurd cc

pub and_right : (a b : Bool) → a && b ≡ true → b ≡ true
and_right true b h = h
and_right false b h = absurd cc

pub and_both : (a b : Bool) → a ≡ true → b ≡ true → a && b ≡ true
and_both a b h k = rw (h, k) refl

-- a token that no question refuses is gone past
pub past : {D : Type 0} (b : Build D) (o : Enclosing D) (at : ℕ) (t : Token) (rest : List Placed) → refusal o at t ≡ None → run b (going o) (placed at t ∷ rest) ≡ run b (going (after b o at t)) rest
unfolding run
past b o at t rest h = ap (λ r. run b (settle r (after b o at t)) rest) h

allowed_single : (p : Place Written) (at : ℕ) (a : Atom) → nat_le (depth p) deepest ≡ true → is_allowed_atom a ≡ true → refusal (awaiting p) at (atom a) ≡ None
allowed_single p at (symbol s) h k = rw h refl
allowed_single p at (string s) h k = rw h refl
allowed_single p at (number n) h k = rw h refl
allowed_single p at (truth b) h k = rw h refl
allowed_single p at out_of_range h k = absurd cc
allowed_single p at reserved h k = absurd cc

allowed_opening : (p : Place Written) (at : ℕ) (s : Shape) → nat_le (depth p) deepest ≡ true → refusal (awaiting p) at (opening s) ≡ None
allowed_opening p at s h = rw h refl

allowed_prefix : (p : Place Written) (at : ℕ) (q : Prefix) → nat_le (depth p) deepest ≡ true → refusal (awaiting p) at (prefix q) ≡ None
allowed_prefix p at q h = rw h refl

allowed_close : (p : Place Written) (start : ℕ) (s : Shape) (ds : List Written) (at : ℕ) → refusal (awaiting (in_list p start s ds)) at (closing s) ≡ None
allowed_close p start round ds at = refl
allowed_close p start square ds at = refl

allowed_last_close : (p : Place Written) (start : ℕ) (s : Shape) (e : Written) (ds : List Written) (point : ℕ) (d : Written) (at : ℕ) → refusal (ended p start s e ds point d) at (closing s) ≡ None
allowed_last_close p start round e ds point d at = refl
allowed_last_close p start square e ds point d at = refl

pub length-snoc : (ds : List Written) (d : Written) → length (ds ++ d ∷ []) ≡ suc (length ds)
length-snoc [] d = refl
length-snoc (e ∷ ds) d = ap suc (length-snoc ds d)

pub row-append : (ds : List Written) (d : Written) (inner : Within) → row (ds ++ d ∷ []) inner ≡ row ds (element d inner)
row-append [] d inner = refl
row-append (e ∷ ds) d inner = ap (element e) (row-append ds d inner)

mutual
  pub reads_datum : (p : Place Written) (d : Written) (rest : List Placed) → is_allowed deepest (depth p) d ≡ true → run as_written (going (awaiting p)) (spell d rest) ≡ run as_written (going (put as_written p d)) rest
  reads_datum p (single at a) rest h =
      past as_written (awaiting p) at (atom a) rest (allowed_single p at a (and_left _ _ h) (and_right _ _ h))
  reads_datum p (list at s inner) rest h =
      past as_written (awaiting p) at (opening s) (spell_within s inner rest) (allowed_opening p at s (and_left _ _ h))
      ∙ reads_within p at s [] inner rest (and_right _ _ h)
  reads_datum p (prefixed at q d) rest h =
      past as_written (awaiting p) at (prefix q) (spell d rest) (allowed_prefix p at q (and_left _ _ h))
      ∙ reads_datum (after_prefix p at q) d rest (and_right _ _ h)

  pub reads_within : (p : Place Written) (start : ℕ) (s : Shape) (ds : List Written) (inner : Within) (rest : List Placed) → are_allowed_within deepest (depth p) (length ds) inner ≡ true → run as_written (going (awaiting (in_list p start s ds))) (spell_within s inner rest) ≡ run as_written (going (put as_written p (list start s (row ds inner)))) rest
  reads_within p start s ds (close at) rest h =
      past as_written (awaiting (in_list p start s ds)) at (closing s) rest (allowed_close p start s ds at)
  reads_within p start s [] (dotted at d end) rest h = absurd cc
  reads_within p start s (e ∷ es) (dotted at d end) rest h =
      past as_written (awaiting (in_list p start s (e ∷ es))) at dot (spell d (placed end (closing s) ∷ rest)) refl
      ∙ reads_datum (after_dot p start s e es at) d (placed end (closing s) ∷ rest) (and_right _ _ h)
      ∙ past as_written (ended p start s e es at d) end (closing s) rest (allowed_last_close p start s e es at d end)
  reads_within p start s ds (element d inner) rest h =
      reads_datum (in_list p start s ds) d (spell_within s inner rest) (and_left _ _ h)
      ∙ reads_within p start s (ds ++ d ∷ []) inner rest (rw length-snoc (and_right _ _ h))
      ∙ ap (λ w. run as_written (going (put as_written p (list start s w))) rest) (row-append ds d inner)

-- and data in a row after others
pub reads_row : (es ds : List Written) → are_allowed deepest ds ≡ true → run as_written (going (awaiting (top es))) (spell_all ds []) ≡ going (awaiting (top (es ++ ds)))
unfolding run
reads_row es [] h = ap (λ (x : List Written). going (awaiting (top x))) (sym (append-nil es))
reads_row es (d ∷ ds) h =
    reads_datum (top es) d (spell_all ds []) (and_left _ _ h)
    ∙ reads_row (es ++ d ∷ []) ds (and_right _ _ h)
    ∙ ap (λ (x : List Written). going (awaiting (top x))) (append_assoc es (d ∷ []) ds)

-- tokens that spell allowed data are read as these data
pub spelled_are_read : (ds : List Written) → are_allowed deepest ds ≡ true → read_tokens as_written (spell_all ds []) ≡ data_are ds
unfolding read_tokens
spelled_are_read ds h = ap finish (reads_row [] ds h)
