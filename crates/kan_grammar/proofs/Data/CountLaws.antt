-- A text has at most as many tokens as bytes, and at most as many data as tokens.
use Rattle.std.proofs.Common.{◌≡◌, ◌≤◌, ◌+◌, ℕ, zero, suc, true, false, List, [], ◌∷◌}
use Rattle.std.proofs.Common.{length, subst, arith}
use Rattle.std.proofs.lemmas.List.{length-append}
use Rattle.std.specs.Prelude.{Option, Some, None, Bool}
use Rattle.std.specs.Str.{is_utf8}
use Rattle.kan_grammar.specs.Data.Words.{Token, opening, closing, prefix, dot, atom}
use Rattle.kan_grammar.specs.Data.Words.{bad_string, bad}
use Rattle.kan_grammar.specs.Data.Tokens.{Placed, placed, Piece, blank, spelled, placed_before}
use Rattle.kan_grammar.specs.Data.Tokens.{piece, more, tokens, tokens_from}
use Rattle.kan_grammar.specs.Data.Enclosing.{Build, Place, top, in_list, after_dot, after_prefix}
use Rattle.kan_grammar.specs.Data.Enclosing.{Enclosing, awaiting, ended, put}
use Rattle.kan_grammar.specs.Data.Faults.{Fault, refusal, after, Progress, going, stopped}
use Rattle.kan_grammar.specs.Data.Faults.{settle, step, run, data_are, finish}
use Rattle.kan_grammar.specs.Data.Faults.{beginning, read_tokens, read_if, read_text}

one_more : (at most : ℕ) (p : Piece) (rest : List Placed) → length rest ≤ most →
    length (placed_before at p rest) ≤ suc most
one_more at most (blank n) rest few = omega (arith, few)
one_more at most (spelled t n) rest few = omega (arith, few)

few_from : (at skip : ℕ) (bs : List ℕ) → length (tokens_from at skip bs) ≤ length bs
unfolding tokens_from
few_from at skip [] = omega arith
few_from at (suc skip) (b ∷ bs) = omega (arith, few_from (suc at) skip bs)
few_from at zero (b ∷ bs) =
    one_more at (length bs) (piece b bs) (tokens_from (suc at) (more (piece b bs)) bs)
    (few_from (suc at) (more (piece b bs)) bs)

-- a text has at most as many tokens as bytes
pub few_tokens : (bs : List ℕ) → length (tokens bs) ≤ length bs
unfolding tokens
few_tokens bs = few_from 0 0 bs

-- how many data stand at the top, behind which all is unclosed
abbrev before_place : {D : Type 0} → Place D → ℕ
before_place (top ds) = length ds
before_place (in_list outer at s ds) = before_place outer
before_place (after_dot outer at s e ds point) = before_place outer
before_place (after_prefix outer at p) = before_place outer

abbrev before_all : {D : Type 0} → Enclosing D → ℕ
before_all (awaiting p) = before_place p
before_all (ended outer at s e ds point d) = before_place outer

put_adds : {D : Type 0} (b : Build D) (p : Place D) (d : D) →
    before_all (put b p d) ≤ suc (before_place p)
put_adds b (top ds) d = omega (arith, length-append ds (d ∷ []))
put_adds b (in_list outer at s ds) d = omega arith
put_adds b (after_dot outer at s e ds point) d = omega arith
put_adds b (after_prefix outer at p) d = put_adds b outer (b.of_prefixed at p d)

after_adds : {D : Type 0} (b : Build D) (o : Enclosing D) (at : ℕ) (t : Token) →
    before_all (after b o at t) ≤ suc (before_all o)
after_adds b (awaiting p) at (opening s) = omega arith
after_adds b (awaiting p) at (prefix q) = omega arith
after_adds b (awaiting p) at (atom a) = put_adds b p (b.of_atom at a)
after_adds b (awaiting (top ds)) at dot = omega arith
after_adds b (awaiting (in_list outer start s [])) at dot = omega arith
after_adds b (awaiting (in_list outer start s (e ∷ ds))) at dot = omega arith
after_adds b (awaiting (after_dot outer start s e ds point)) at dot = omega arith
after_adds b (awaiting (after_prefix outer start p)) at dot = omega arith
after_adds b (awaiting (top ds)) at (closing r) = omega arith
after_adds b (awaiting (in_list outer start s ds)) at (closing r) =
    put_adds b outer (b.of_list start s ds at)
after_adds b (awaiting (after_dot outer start s e ds point)) at (closing r) = omega arith
after_adds b (awaiting (after_prefix outer start p)) at (closing r) = omega arith
after_adds b (awaiting p) at bad_string = omega arith
after_adds b (awaiting p) at bad = omega arith
after_adds b (ended outer start s e ds point d) at (closing r) =
    put_adds b outer (b.of_dotted start s (e ∷ ds) point d at)
after_adds b (ended outer start s e ds point d) at (opening r) = omega arith
after_adds b (ended outer start s e ds point d) at (prefix q) = omega arith
after_adds b (ended outer start s e ds point d) at (atom a) = omega arith
after_adds b (ended outer start s e ds point d) at dot = omega arith
after_adds b (ended outer start s e ds point d) at bad_string = omega arith
after_adds b (ended outer start s e ds point d) at bad = omega arith

abbrev so_far : {D : Type 0} → Progress D → ℕ
so_far (going o) = before_all o
so_far (stopped f) = 0

settle_adds : {D : Type 0} (f : Option Fault) (o : Enclosing D) (most : ℕ) →
    before_all o ≤ most → so_far (settle f o) ≤ most
settle_adds None o most few = few
settle_adds (Some f) o most few = omega arith

step_adds : {D : Type 0} (b : Build D) (s : Progress D) (t : Placed) →
    so_far (step b s t) ≤ suc (so_far s)
step_adds b (going o) (placed at t) =
    settle_adds (refusal o at t) (after b o at t) (suc (before_all o)) (after_adds b o at t)
step_adds b (stopped f) t = omega arith

run_adds : {D : Type 0} (b : Build D) (s : Progress D) (ts : List Placed) →
    so_far (run b s ts) ≤ so_far s + length ts
unfolding run
run_adds b s [] = omega arith
run_adds b s (t ∷ ts) = omega (arith, step_adds b s t, run_adds b (step b s t) ts)

finished : {D : Type 0} (s : Progress D) (ds : List D) (most : ℕ) → so_far s ≤ most →
    finish s ≡ data_are ds → length ds ≤ most
finished (going (awaiting (top es))) ds most few e =
    let same : es ≡ ds = cc in subst (λ xs. length xs ≤ most) same few
finished (going (awaiting (in_list outer at s es))) ds most few e = absurd cc
finished (going (awaiting (after_dot outer at s x es point))) ds most few e = absurd cc
finished (going (awaiting (after_prefix outer at p))) ds most few e = absurd cc
finished (going (ended outer at s x es point d)) ds most few e = absurd cc
finished (stopped f) ds most few e = absurd cc

few_read : {D : Type 0} (b : Build D) (ts : List Placed) (ds : List D) →
    read_tokens b ts ≡ data_are ds → length ds ≤ length ts
unfolding read_tokens
few_read b ts ds e =
    omega (
      arith,
      finished (run b beginning ts) ds (length ts)
          (omega (arith, run_adds b beginning ts)) e,
    )

few_if : {D : Type 0} (b : Build D) (valid : Bool) (bytes : List ℕ) (ds : List D) →
    read_if b valid bytes ≡ data_are ds → length ds ≤ length bytes
few_if b true bytes ds e = omega (arith, few_read b (tokens bytes) ds e, few_tokens bytes)
few_if b false bytes ds e = absurd cc

-- a text has at most as many data as bytes
pub few_data : {D : Type 0} (b : Build D) (bytes : List ℕ) (ds : List D) →
    read_text b bytes ≡ data_are ds → length ds ≤ length bytes
unfolding read_text
few_data b bytes ds e = few_if b (is_utf8 bytes) bytes ds e
