-- A refusal belongs to the first token at which the tokens so far begin no text that can be read, or to the end.
use Rattle.std.proofs.Common.{◌≡◌, ℕ, suc, ◌+◌, ◌≤◌, max, ◌⊎◌, true, nat_le, List, [], ◌∷◌, ◌++◌, length, refl, sym, ap, ◌∙◌, arith}
use Rattle.std.proofs.lemmas.Bool.{lt-ltb, leb-true, le-leb}
use Rattle.std.specs.Prelude.{Option, Some, None, IsTrue}
use Rattle.kan_grammar.specs.Data.Tokens.{Placed, placed, tokens_from, piece}
use Rattle.kan_grammar.specs.Data.Words.{Shape, round, square, Token, opening, closing, dot}
use Rattle.kan_grammar.specs.Data.Written.{Written, single, list, prefixed, close, dotted, spell, spell_all, is_allowed, are_allowed, deepest}
use Rattle.kan_grammar.specs.Data.Enclosing.{Place, top, in_list, after_dot, after_prefix, Enclosing, awaiting, ended, depth, row, as_written}
use Rattle.kan_grammar.specs.Data.Faults.{Fault, refusal, after, Progress, going, stopped, settle, step, run, data_are, refused, finish, beginning, read_tokens}
use Rattle.kan_grammar.specs.Data.Laws.{BeginsText, reach, StopsAt, IsCutOff, RefusesFirst}
use Rattle.kan_grammar.proofs.Data.CompletenessLaws.{and_left, and_right, and_both, past}
use Rattle.kan_grammar.proofs.Data.SoundnessLaws.{spelled, spelled_enclosing, Sound, SoundEnclosing, IsWide, are_allowed-snoc, row_allowed, row_allowed-snoc, row-close, row-dotted, spell_all-snoc, spell_within-row}
use Rattle.kan_grammar.proofs.Data.ReadingLaws.{run-stopped, run-spelled, reads_exactly}

no_bytes : (at : ℕ) → tokens_from at 0 [] ≡ []
unfolding tokens_from
no_bytes at = refl

-- some data allowed to the limit are spelled by what has led to a place, the tokens of a datum, and those of some bytes from an offset on
abbrev Completes : ℕ → ℕ → Place Written → Written → Type 0
Completes limit next p d = (ds : List Written) × (bytes : List ℕ) × (spell_all ds [] ≡ spelled p (spell d (tokens_from next 0 bytes))) × IsTrue (are_allowed limit ds)

-- the byte that closes a list
abbrev closing_byte : Shape → ℕ
closing_byte round = 41
closing_byte square = 93

close_cut : (s : Shape) (at : ℕ) (bytes : List ℕ) → tokens_from at 0 (closing_byte s ∷ bytes) ≡ placed at (closing s) ∷ tokens_from (suc at) 0 bytes
unfolding tokens_from piece
close_cut round at bytes = refl
close_cut square at bytes = refl

-- a datum at a place can be gone on with until nothing is unclosed
completes : (limit next : ℕ) (p : Place Written) (d : Written) → Sound limit p → is_allowed limit (depth p) d ≡ true → Completes limit next p d
completes limit next (top es) d g h = (es ++ d ∷ [], [], spell_all-snoc es d [] ∙ ap (λ (ts : List Placed). spell_all es (spell d ts)) (sym (no_bytes next)), are_allowed-snoc limit es d g h)
completes limit next (in_list outer at s es) d g h =
    let n : 0 + length es ≡ length es = omega arith in
    let c : Completes limit (suc next) outer (list at s (row (es ++ d ∷ []) (close next))) = completes limit (suc next) outer (list at s (row (es ++ d ∷ []) (close next))) g.0 (and_both _ _ g.1 (row-close limit (depth outer) 0 (es ++ d ∷ []) next (row_allowed-snoc limit (depth outer) 0 es d g.2 (rw n h)))) in
    (c.0, closing_byte s ∷ c.1, c.2 ∙ ap (λ (ts : List Placed). spelled outer (placed at (opening s) ∷ ts)) (spell_within-row s (es ++ d ∷ []) (close next) (tokens_from (suc next) 0 c.1) ∙ spell_all-snoc es d (placed next (closing s) ∷ tokens_from (suc next) 0 c.1) ∙ ap (λ (ts : List Placed). spell_all es (spell d ts)) (sym (close_cut s next c.1))), c.3)
completes limit next (after_dot outer at s e es point) d g h =
    let n : 0 + suc (length es) ≡ suc (length es) = omega arith in
    let c : Completes limit (suc next) outer (list at s (row (e ∷ es) (dotted point d next))) = completes limit (suc next) outer (list at s (row (e ∷ es) (dotted point d next))) g.0 (and_both _ _ g.1 (row-dotted limit (depth outer) 0 (e ∷ es) point d next g.2 (lt-ltb 0 (0 + suc (length es)) (omega arith)) (rw n h))) in
    (c.0, closing_byte s ∷ c.1, c.2 ∙ ap (λ (ts : List Placed). spelled outer (placed at (opening s) ∷ ts)) (spell_within-row s (e ∷ es) (dotted point d next) (tokens_from (suc next) 0 c.1) ∙ ap (λ (ts : List Placed). spell_all (e ∷ es) (placed point dot ∷ spell d ts)) (sym (close_cut s next c.1))), c.3)
completes limit next (after_prefix outer at q) d g h = completes limit next outer (prefixed at q d) g.0 (and_both _ _ g.1 h)

-- an allowed datum stands within the limit, and so does the last of a row
allowed-depth : (limit k : ℕ) (d : Written) → is_allowed limit k d ≡ true → nat_le k limit ≡ true
allowed-depth limit k (single at a) h = and_left _ _ h
allowed-depth limit k (list at s inner) h = and_left _ _ h
allowed-depth limit k (prefixed at q d) h = and_left _ _ h

row-depth : (limit k count : ℕ) (e : Written) (es : List Written) → row_allowed limit k count (e ∷ es) ≡ true → nat_le (k + suc (count + length es)) limit ≡ true
row-depth limit k count e [] h =
    let n : count + 0 ≡ count = omega arith in rw n (allowed-depth limit (k + suc count) e (and_left _ _ h))
row-depth limit k count e (f ∷ es) h =
    let n : count + suc (length es) ≡ suc count + length es = omega arith in rw n (row-depth limit k (suc count) f es (and_right _ _ h))

-- what is unclosed can be completed
abbrev EnclosingCompletes : ℕ → ℕ → Enclosing Written → Type 0
EnclosingCompletes limit next o = (ds : List Written) × (bytes : List ℕ) × (spell_all ds [] ≡ spelled_enclosing o (tokens_from next 0 bytes)) × IsTrue (are_allowed limit ds)

-- the empty list, in two bytes
abbrev empty : ℕ → Written
empty at = list at round (close (suc at))

empty_cut : (at : ℕ) (bytes : List ℕ) → tokens_from at 0 (40 ∷ 41 ∷ bytes) ≡ spell (empty at) (tokens_from (suc (suc at)) 0 bytes)
unfolding tokens_from piece
empty_cut at bytes = refl

-- where a datum may come the empty list may, if it doesn't stand too deep
with_empty : (limit next : ℕ) (p : Place Written) → Sound limit p → nat_le (depth p) limit ≡ true → EnclosingCompletes limit next (awaiting p)
with_empty limit next p g h =
    let c : Completes limit (suc (suc next)) p (empty next) = completes limit (suc (suc next)) p (empty next) g (and_both _ _ h refl) in
    (c.0, 40 ∷ 41 ∷ c.1, c.2 ∙ ap (spelled p) (sym (empty_cut next c.1)), c.3)

enclosing_completes : (next : ℕ) (o : Enclosing Written) → SoundEnclosing (reach o) o → EnclosingCompletes (reach o) next o
enclosing_completes next (awaiting (top es)) g = (es, [], ap (spell_all es) (sym (no_bytes next)), g)
enclosing_completes next (awaiting (in_list outer at s es)) g =
    let c : Completes deepest (suc next) outer (list at s (row es (close next))) = completes deepest (suc next) outer (list at s (row es (close next))) g.0 (and_both _ _ g.1 (row-close deepest (depth outer) 0 es next g.2)) in
    (c.0, closing_byte s ∷ c.1, c.2 ∙ ap (λ (ts : List Placed). spelled outer (placed at (opening s) ∷ ts)) (spell_within-row s es (close next) (tokens_from (suc next) 0 c.1) ∙ ap (spell_all es) (sym (close_cut s next c.1))), c.3)
enclosing_completes next (awaiting (after_dot outer at s e es point)) g =
    let n : 0 + length es ≡ length es = omega arith in
    with_empty deepest next (after_dot outer at s e es point) g (rw n at (row-depth deepest (depth outer) 0 e es g.2))
enclosing_completes next (awaiting (after_prefix outer at q)) g =
    with_empty (max deepest (depth outer + 2)) next (after_prefix outer at q) g (le-leb (depth outer + 2) (max deepest (depth outer + 2)) (omega arith))
enclosing_completes next (ended outer at s e es point d) g =
    let n : 0 + suc (length es) ≡ suc (length es) = omega arith in
    let c : Completes deepest (suc next) outer (list at s (row (e ∷ es) (dotted point d next))) = completes deepest (suc next) outer (list at s (row (e ∷ es) (dotted point d next))) g.0 (and_both _ _ g.1 (row-dotted deepest (depth outer) 0 (e ∷ es) point d next g.2 (lt-ltb 0 (0 + suc (length es)) (omega arith)) (rw n g.3))) in
    (c.0, closing_byte s ∷ c.1, c.2 ∙ ap (λ (ts : List Placed). spelled outer (placed at (opening s) ∷ ts)) (spell_within-row s (e ∷ es) (dotted point d next) (tokens_from (suc next) 0 c.1) ∙ ap (λ (ts : List Placed). spell_all (e ∷ es) (placed point dot ∷ spell d ts)) (sym (close_cut s next c.1))), c.3)

reach-wide : (o : Enclosing Written) → IsWide (reach o)
reach-wide (awaiting (top es)) = λ n h. h
reach-wide (awaiting (in_list outer at s es)) = λ n h. h
reach-wide (awaiting (after_dot outer at s e es point)) = λ n h. h
reach-wide (awaiting (after_prefix outer at q)) = λ n h. let k : n ≤ deepest = leb-true n deepest h in le-leb n (max deepest (depth outer + 2)) (omega arith)
reach-wide (ended outer at s e es point d) = λ n h. h

-- tokens that are read so far begin a text
pub going_begins : (ts : List Placed) (o : Enclosing Written) → run as_written beginning ts ≡ going o → BeginsText (reach o) ts
going_begins ts o h next =
    let so = run-spelled (reach o) (reach-wide o) (awaiting (top [])) ts o h refl in
    let c : EnclosingCompletes (reach o) next o = enclosing_completes next o so.0 in
    (c.0, c.1, c.2 ∙ so.1 (tokens_from next 0 c.1), c.3)

pub run-append : (p : Progress Written) (xs ys : List Placed) → run as_written p (xs ++ ys) ≡ run as_written (run as_written p xs) ys
unfolding run
run-append p [] ys = refl
run-append p (x ∷ xs) ys = run-append (step as_written p x) xs ys

-- where a reading stops
abbrev Stops : Enclosing Written → List Placed → Fault → Type 0
Stops o ts f = (before : List Placed) × (at : ℕ) × (t : Token) × (later : List Placed) × (then : Enclosing Written) × (ts ≡ before ++ placed at t ∷ later) × (run as_written (going o) before ≡ going then) × (refusal then at t ≡ Some f)

stops : (o : Enclosing Written) (ts : List Placed) (f : Fault) → run as_written (going o) ts ≡ stopped f → Stops o ts f
unfolding run
stops o [] f h = absurd cc
stops o (placed at t ∷ ts) f h = by_answer (refusal o at t) refl (λ e. stops (after as_written o at t) ts f (sym (past as_written o at t ts e) ∙ h))
  where
    by_answer : (r : Option Fault) → refusal o at t ≡ r → (refusal o at t ≡ None → Stops (after as_written o at t) ts f) → Stops o (placed at t ∷ ts) f
    by_answer None e next =
        let n : Stops (after as_written o at t) ts f = next e in
        (placed at t ∷ n.0, n.1, n.2, n.3, n.4, ap (λ (xs : List Placed). placed at t ∷ xs) n.5, past as_written o at t n.0 e ∙ n.6, n.7)
    by_answer (Some g) e next =
        let stop : run as_written (stopped g) ts ≡ stopped f = ap (λ (r : Option Fault). run as_written (settle r (after as_written o at t)) ts) (sym e) ∙ h in
        let same : Path (Progress Written) (stopped g) (stopped f) = sym (run-stopped g ts) ∙ stop in
        let eq : g ≡ f = cc in
        ([], at, t, ts, o, refl, refl, e ∙ ap Some eq)

stops_at : (ts : List Placed) (f : Fault) → Stops (awaiting (top [])) ts f → StopsAt ts f
unfolding run read_tokens
stops_at ts f n = record {
  before = n.0;
  at = n.1;
  token = n.2;
  later = n.3;
  enclosing = n.4;
  in_order = n.5;
  read_before = n.6;
  answer = n.7;
  before_begins = going_begins n.0 n.4 n.6;
  begins_none = λ b. none b.0 b.1 b.2 b.3;
}
  where
    none : (ds : List Written) (more : List Placed) → spell_all ds [] ≡ (n.0 ++ placed n.1 n.2 ∷ []) ++ more → IsTrue (are_allowed deepest ds) → ⊥
    none ds more e k =
        let read : read_tokens as_written ((n.0 ++ placed n.1 n.2 ∷ []) ++ more) ≡ data_are ds = (reads_exactly ((n.0 ++ placed n.1 n.2 ∷ []) ++ more) ds).1 (e, k) in
        let front : run as_written beginning (n.0 ++ placed n.1 n.2 ∷ []) ≡ stopped f = run-append beginning n.0 (placed n.1 n.2 ∷ []) ∙ ap (λ (p : Progress Written). run as_written p (placed n.1 n.2 ∷ [])) n.6 ∙ ap (λ (r : Option Fault). settle r (after as_written n.4 n.1 n.2)) n.7 in
        let all : run as_written beginning ((n.0 ++ placed n.1 n.2 ∷ []) ++ more) ≡ stopped f = run-append beginning (n.0 ++ placed n.1 n.2 ∷ []) more ∙ ap (λ (p : Progress Written). run as_written p more) front ∙ run-stopped f more in
        let both : data_are ds ≡ refused f = sym read ∙ ap finish all in
        cc

by_progress : (ts : List Placed) (f : Fault) (p : Progress Written) → run as_written beginning ts ≡ p → finish p ≡ refused f → StopsAt ts f ⊎ IsCutOff ts f
by_progress ts f (going o) h e = ◌⊎◌.inr (record { enclosing = o; read_all = h; answer = e; all_begin = going_begins ts o h })
by_progress ts f (stopped g) h e =
    let eq : g ≡ f = cc in
    ◌⊎◌.inl (stops_at ts f (stops (awaiting (top [])) ts f (h ∙ ap stopped eq)))

pub refuses_first : RefusesFirst
unfolding read_tokens
refuses_first ts f h = by_progress ts f (run as_written beginning ts) refl h
