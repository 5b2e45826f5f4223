-- What tokens that are read have spelled: at each token the data so far and what is unclosed.
use Rattle.std.proofs.Common.{◌≡◌, ℕ, suc, ◌+◌, Bool, true, false, ◌&&◌, nat_le, nat_lt, List, [], ◌∷◌, ◌++◌, length, refl, ap, ◌∙◌, arith}
use Rattle.std.proofs.lemmas.Bool.{lt-ltb}
use Rattle.std.specs.Prelude.{Option, Some, None, IsTrue, if◌then◌else◌}
use Rattle.kan_grammar.specs.Data.Tokens.{Placed, placed}
use Rattle.kan_grammar.specs.Data.Words.{Atom, symbol, string, number, truth, out_of_range, reserved, Shape, round, square, Token, opening, closing, prefix, dot, atom, bad_string, bad}
use Rattle.kan_grammar.specs.Data.Written.{Written, Within, single, list, prefixed, close, dotted, spell, spell_within, spell_all, is_allowed_atom, is_allowed, are_allowed_within, are_allowed, deepest}
use Rattle.kan_grammar.specs.Data.Enclosing.{Place, top, in_list, after_dot, after_prefix, Enclosing, awaiting, ended, depth, put, row, as_written}
use Rattle.kan_grammar.specs.Data.Faults.{Fault, refusal, first_fault, after, is_out_of_range, is_reserved_name}
use Rattle.kan_grammar.proofs.Data.CompletenessLaws.{and_left, and_right, and_both}

-- data behind others are spelled behind them
pub spell_all-snoc : (ds : List Written) (d : Written) (rest : List Placed) → spell_all (ds ++ d ∷ []) rest ≡ spell_all ds (spell d rest)
spell_all-snoc [] d rest = refl
spell_all-snoc (e ∷ ds) d rest = ap (spell e) (spell_all-snoc ds d rest)

pub spell_within-row : (s : Shape) (ds : List Written) (inner : Within) (rest : List Placed) → spell_within s (row ds inner) rest ≡ spell_all ds (spell_within s inner rest)
spell_within-row s [] inner rest = refl
spell_within-row s (d ∷ ds) inner rest = ap (spell d) (spell_within-row s ds inner rest)

-- the tokens that have led to a place, before others

abbrev pub spelled : Place Written → List Placed → List Placed
spelled (top ds) rest = spell_all ds rest
spelled (in_list outer at s ds) rest = spelled outer (placed at (opening s) ∷ spell_all ds rest)
spelled (after_dot outer at s e ds point) rest = spelled outer (placed at (opening s) ∷ spell_all (e ∷ ds) (placed point dot ∷ rest))
spelled (after_prefix outer at p) rest = spelled outer (placed at (prefix p) ∷ rest)

abbrev pub spelled_enclosing : Enclosing Written → List Placed → List Placed
spelled_enclosing (awaiting p) rest = spelled p rest
spelled_enclosing (ended outer at s e ds point d) rest = spelled outer (placed at (opening s) ∷ spell_all (e ∷ ds) (placed point dot ∷ spell d rest))

pub spelled-put : (p : Place Written) (d : Written) (rest : List Placed) → spelled_enclosing (put as_written p d) rest ≡ spelled p (spell d rest)
spelled-put (top ds) d rest = spell_all-snoc ds d rest
spelled-put (in_list outer at s ds) d rest = ap (λ (ts : List Placed). spelled outer (placed at (opening s) ∷ ts)) (spell_all-snoc ds d rest)
spelled-put (after_dot outer at s e ds point) d rest = refl
spelled-put (after_prefix outer at q) d rest = spelled-put outer (prefixed at q d) rest

-- elements that stand in a list at a depth, after so many others
abbrev pub row_allowed : ℕ → ℕ → ℕ → List Written → Bool
row_allowed limit k count [] = true
row_allowed limit k count (d ∷ ds) = is_allowed limit (k + suc count) d && row_allowed limit k (suc count) ds

-- the data so far are allowed, and what is unclosed stands no deeper than it may
abbrev pub Sound : ℕ → Place Written → Type 0
Sound limit (top ds) = IsTrue (are_allowed limit ds)
Sound limit (in_list outer at s ds) = Sound limit outer × IsTrue (nat_le (depth outer) limit) × IsTrue (row_allowed limit (depth outer) 0 ds)
Sound limit (after_dot outer at s e ds point) = Sound limit outer × IsTrue (nat_le (depth outer) limit) × IsTrue (row_allowed limit (depth outer) 0 (e ∷ ds))
Sound limit (after_prefix outer at p) = Sound limit outer × IsTrue (nat_le (depth outer) limit)

abbrev pub SoundEnclosing : ℕ → Enclosing Written → Type 0
SoundEnclosing limit (awaiting p) = Sound limit p
SoundEnclosing limit (ended outer at s e ds point d) = Sound limit outer × IsTrue (nat_le (depth outer) limit) × IsTrue (row_allowed limit (depth outer) 0 (e ∷ ds)) × IsTrue (is_allowed limit (depth outer + suc (length ds)) d)

pub are_allowed-snoc : (limit : ℕ) (ds : List Written) (d : Written) → are_allowed limit ds ≡ true → is_allowed limit 0 d ≡ true → are_allowed limit (ds ++ d ∷ []) ≡ true
are_allowed-snoc limit [] d h k = and_both _ _ k refl
are_allowed-snoc limit (e ∷ ds) d h k = and_both _ _ (and_left _ _ h) (are_allowed-snoc limit ds d (and_right _ _ h) k)

pub row_allowed-snoc : (limit k count : ℕ) (ds : List Written) (d : Written) → row_allowed limit k count ds ≡ true → is_allowed limit (k + suc (count + length ds)) d ≡ true → row_allowed limit k count (ds ++ d ∷ []) ≡ true
row_allowed-snoc limit k count [] d h g = and_both _ _ (let e : count + 0 ≡ count = omega arith in rw e at g) refl
row_allowed-snoc limit k count (e ∷ ds) d h g = and_both _ _ (and_left _ _ h) (row_allowed-snoc limit k (suc count) ds d (and_right _ _ h) (let e : count + suc (length ds) ≡ suc count + length ds = omega arith in rw e at g))

-- a row before a close, and before a dot and a datum
pub row-close : (limit k count : ℕ) (ds : List Written) (at : ℕ) → row_allowed limit k count ds ≡ true → are_allowed_within limit k count (row ds (close at)) ≡ true
row-close limit k count [] at h = refl
row-close limit k count (d ∷ ds) at h = and_both _ _ (and_left _ _ h) (row-close limit k (suc count) ds at (and_right _ _ h))

pub row-dotted : (limit k count : ℕ) (ds : List Written) (at : ℕ) (d : Written) (end : ℕ) → row_allowed limit k count ds ≡ true → nat_lt 0 (count + length ds) ≡ true → is_allowed limit (k + (count + length ds)) d ≡ true → are_allowed_within limit k count (row ds (dotted at d end)) ≡ true
row-dotted limit k count [] at d end h g i = let e : count + 0 ≡ count = omega arith in and_both _ _ (rw e at g) (rw e at i)
row-dotted limit k count (f ∷ ds) at d end h g i =
    let e : count + suc (length ds) ≡ suc count + length ds = omega arith in
    and_both _ _ (and_left _ _ h) (row-dotted limit k (suc count) ds at d end (and_right _ _ h) (rw e at g) (rw e at i))

pub put-sound : (limit : ℕ) (p : Place Written) (d : Written) → Sound limit p → is_allowed limit (depth p) d ≡ true → SoundEnclosing limit (put as_written p d)
put-sound limit (top ds) d g h = are_allowed-snoc limit ds d g h
put-sound limit (in_list outer at s ds) d g h = (g.0, g.1, row_allowed-snoc limit (depth outer) 0 ds d g.2 (let e : 0 + length ds ≡ length ds = omega arith in rw e h))
put-sound limit (after_dot outer at s e ds point) d g h = (g.0, g.1, g.2, h)
put-sound limit (after_prefix outer at q) d g h = put-sound limit outer (prefixed at q d) g.0 (and_both _ _ g.1 h)

-- a question of the form 'unless b' that does not refuse
kept : (b : Bool) (f : Fault) (more : List (Option Fault)) → first_fault ((if b then None else Some f) ∷ more) ≡ None → b ≡ true
kept true f more h = refl
kept false f more h = absurd cc

kept_depth : (p : Place Written) (at : ℕ) (a : Atom) → refusal (awaiting p) at (atom a) ≡ None → nat_le (depth p) deepest ≡ true
kept_depth p at a h = kept (nat_le (depth p) deepest) _ _ h

kept_atom : (b : Bool) (f : Fault) (at : ℕ) (a : Atom) → first_fault ((if b then None else Some f) ∷ is_out_of_range at (atom a) ∷ is_reserved_name at (atom a) ∷ []) ≡ None → is_allowed_atom a ≡ true
kept_atom false f at a h = absurd cc
kept_atom true f at (symbol s) h = refl
kept_atom true f at (string s) h = refl
kept_atom true f at (number n) h = refl
kept_atom true f at (truth b) h = refl
kept_atom true f at out_of_range h = absurd cc
kept_atom true f at reserved h = absurd cc

-- a close that is not refused has the shape of its list
pub kept_shape : (p : Place Written) (start : ℕ) (s : Shape) (ds : List Written) (at : ℕ) (r : Shape) → refusal (awaiting (in_list p start s ds)) at (closing r) ≡ None → s ≡ r
kept_shape p start round ds at round h = refl
kept_shape p start round ds at square h = absurd cc
kept_shape p start square ds at round h = absurd cc
kept_shape p start square ds at square h = refl

pub kept_last_shape : (p : Place Written) (start : ℕ) (s : Shape) (e : Written) (ds : List Written) (point : ℕ) (d : Written) (at : ℕ) (r : Shape) → refusal (ended p start s e ds point d) at (closing r) ≡ None → s ≡ r
kept_last_shape p start round e ds point d at round h = refl
kept_last_shape p start round e ds point d at square h = absurd cc
kept_last_shape p start square e ds point d at round h = absurd cc
kept_last_shape p start square e ds point d at square h = refl

-- a close directly after a dot is refused
closed_dot : (p : Place Written) (start : ℕ) (s : Shape) (e : Written) (ds : List Written) (point at : ℕ) (r : Shape) → refusal (awaiting (after_dot p start s e ds point)) at (closing r) ≡ None → ⊥
closed_dot p start round e ds point at round h = cc
closed_dot p start round e ds point at square h = cc
closed_dot p start square e ds point at round h = cc
closed_dot p start square e ds point at square h = cc

-- each limit that the depths asked for are within
abbrev pub IsWide : ℕ → Type 0
IsWide limit = (n : ℕ) → nat_le n deepest ≡ true → nat_le n limit ≡ true

-- a token that is not refused keeps what is read sound
pub after-sound : (limit : ℕ) → IsWide limit → (o : Enclosing Written) (at : ℕ) (t : Token) → refusal o at t ≡ None → SoundEnclosing limit o → SoundEnclosing limit (after as_written o at t)
after-sound limit wide (awaiting p) at (opening s) h g = (g, wide _ (kept (nat_le (depth p) deepest) _ _ h), refl)
after-sound limit wide (awaiting p) at (prefix q) h g = (g, wide _ (kept (nat_le (depth p) deepest) _ _ h))
after-sound limit wide (awaiting p) at (atom a) h g = put-sound limit p (single at a) g (and_both _ _ (wide _ (kept_depth p at a h)) (kept_atom (nat_le (depth p) deepest) _ at a h))
after-sound limit wide (awaiting (top ds)) at (closing r) h g = absurd cc
after-sound limit wide (awaiting (in_list outer start s ds)) at (closing r) h g = put-sound limit outer (list start s (row ds (close at))) g.0 (and_both _ _ g.1 (row-close limit (depth outer) 0 ds at g.2))
after-sound limit wide (awaiting (after_dot outer start s e ds point)) at (closing r) h g = absurd (closed_dot outer start s e ds point at r h)
after-sound limit wide (awaiting (after_prefix outer start q)) at (closing r) h g = absurd cc
after-sound limit wide (awaiting (top ds)) at dot h g = absurd cc
after-sound limit wide (awaiting (in_list outer start s [])) at dot h g = absurd cc
after-sound limit wide (awaiting (in_list outer start s (e ∷ ds))) at dot h g = g
after-sound limit wide (awaiting (after_dot outer start s e ds point)) at dot h g = absurd cc
after-sound limit wide (awaiting (after_prefix outer start q)) at dot h g = absurd cc
after-sound limit wide (awaiting p) at bad_string h g = absurd cc
after-sound limit wide (awaiting p) at bad h g = absurd cc
after-sound limit wide (ended outer start s e ds point d) at (closing r) h g =
    let n : 0 + suc (length ds) ≡ suc (length ds) = omega arith in
    put-sound limit outer (list start s (row (e ∷ ds) (dotted point d at))) g.0 (and_both _ _ g.1 (row-dotted limit (depth outer) 0 (e ∷ ds) point d at g.2 (lt-ltb 0 (0 + suc (length ds)) (omega arith)) (rw n g.3)))
after-sound limit wide (ended outer start s e ds point d) at (opening r) h g = absurd cc
after-sound limit wide (ended outer start s e ds point d) at (prefix q) h g = absurd cc
after-sound limit wide (ended outer start s e ds point d) at (atom a) h g = absurd cc
after-sound limit wide (ended outer start s e ds point d) at dot h g = absurd cc
after-sound limit wide (ended outer start s e ds point d) at bad_string h g = absurd cc
after-sound limit wide (ended outer start s e ds point d) at bad h g = absurd cc

-- a token that is not refused is the next that is spelled
pub after-spelled : (o : Enclosing Written) (at : ℕ) (t : Token) (rest : List Placed) → refusal o at t ≡ None → spelled_enclosing (after as_written o at t) rest ≡ spelled_enclosing o (placed at t ∷ rest)
after-spelled (awaiting p) at (opening s) rest h = refl
after-spelled (awaiting p) at (prefix q) rest h = refl
after-spelled (awaiting p) at (atom a) rest h = spelled-put p (single at a) rest
after-spelled (awaiting (top ds)) at (closing r) rest h = absurd cc
after-spelled (awaiting (in_list outer start s ds)) at (closing r) rest h =
    spelled-put outer (list start s (row ds (close at))) rest
    ∙ ap (λ (ts : List Placed). spelled outer (placed start (opening s) ∷ ts)) (spell_within-row s ds (close at) rest)
    ∙ ap (λ (x : Shape). spelled outer (placed start (opening s) ∷ spell_all ds (placed at (closing x) ∷ rest))) (kept_shape outer start s ds at r h)
after-spelled (awaiting (after_dot outer start s e ds point)) at (closing r) rest h = absurd (closed_dot outer start s e ds point at r h)
after-spelled (awaiting (after_prefix outer start q)) at (closing r) rest h = absurd cc
after-spelled (awaiting (top ds)) at dot rest h = absurd cc
after-spelled (awaiting (in_list outer start s [])) at dot rest h = absurd cc
after-spelled (awaiting (in_list outer start s (e ∷ ds))) at dot rest h = refl
after-spelled (awaiting (after_dot outer start s e ds point)) at dot rest h = absurd cc
after-spelled (awaiting (after_prefix outer start q)) at dot rest h = absurd cc
after-spelled (awaiting p) at bad_string rest h = absurd cc
after-spelled (awaiting p) at bad rest h = absurd cc
after-spelled (ended outer start s e ds point d) at (closing r) rest h =
    spelled-put outer (list start s (row (e ∷ ds) (dotted point d at))) rest
    ∙ ap (λ (ts : List Placed). spelled outer (placed start (opening s) ∷ ts)) (spell_within-row s (e ∷ ds) (dotted point d at) rest)
    ∙ ap (λ (x : Shape). spelled outer (placed start (opening s) ∷ spell_all (e ∷ ds) (placed point dot ∷ spell d (placed at (closing x) ∷ rest)))) (kept_last_shape outer start s e ds point d at r h)
after-spelled (ended outer start s e ds point d) at (opening r) rest h = absurd cc
after-spelled (ended outer start s e ds point d) at (prefix q) rest h = absurd cc
after-spelled (ended outer start s e ds point d) at (atom a) rest h = absurd cc
after-spelled (ended outer start s e ds point d) at dot rest h = absurd cc
after-spelled (ended outer start s e ds point d) at bad_string rest h = absurd cc
after-spelled (ended outer start s e ds point d) at bad rest h = absurd cc
