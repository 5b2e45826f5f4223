-- How a reading goes on piece by piece, and what it comes to.
use Rattle.std.proofs.Common.{◌≡◌, ℕ, suc, ◌+◌, ◌-◌, ◌<◌, ◌≤◌, Bool, true, false, List, [], ◌∷◌, ◌++◌, length, drop, refl, sym, ap, ◌∙◌, subst, arith}
use Rattle.std.specs.Prelude.{None, Some, Result, Ok, Err, IfErr, OnOk}
use Rattle.std.specs.Result.{IsErrAnd}
use Rattle.std.specs.Str.{IsUtf8, is_utf8}
use Rattle.std.specs.Str.Lossy.{utf8_valid_len}
use Rattle.std.proofs.lemmas.Str.{IsUtf8-from_is_utf8, is_utf8-from_IsUtf8}
use Rattle.kan_refusals.specs.declared.refusals.Refusal.{Refusal}
use Rattle.kan_terms.proofs.TableLaws.{name_of-number_of, name_of-append}
use Rattle.kan_grammar.specs.Data.Words.{symbol, string, Token}
use Rattle.kan_grammar.specs.Data.Written.{Written, single}
use Rattle.kan_grammar.specs.Data.Tokens.{Placed, placed, Piece, blank, spelled, more, placed_before, tokens, tokens_from}
use Rattle.kan_grammar.specs.Data.Enclosing.{Enclosing, awaiting, top}
use Rattle.kan_grammar.specs.Data.Faults.{Fault, fault, refusal, after, going, stopped, settle, run, finish, answer_at_end, Reading, refused, read_tokens, read_if, read_text}
use Rattle.kan_grammar.proofs.Data.CuttingLaws.{tokens_from-piece}
use Rattle.kan_grammar.specs.Texts.TextNames.{GoesOn, Extends, with_token, with_tokens, with_text_names}
use Rattle.kan_grammar.proofs.Texts.NameLaws.{goes_on_further}
use Rattle.sexpr.specs.Meaning.{token_of, piece_of, piece_with}
use Rattle.sexpr.specs.Pieces.{first_piece}
use Rattle.sexpr.specs.WrittenForms.{symbol_atom, string_atom, written_form, as_kept}
use Rattle.kan_terms.specs.Table.{Table, name_of, number_of}
use Rattle.sexpr.specs.Reads.{Answers, Reads, CanGrow, HasText, HasPieceText, ReadsPiece, RefusesPiece, with_piece}
use Rattle.sexpr.specs.Frames.{enclosing_of, Takes, TakesToken, Refuses, RefusesToken}
use Rattle.sexpr.specs.declared.data.Datum.{Datum}
use Rattle.sexpr.specs.declared.data.ReadError.{ReadError}
use Rattle.sexpr.specs.declared.data.ReadError.TheVariants as errors
use Rattle.sexpr.specs.declared.data.DatumKind.TheVariants as kinds
use Rattle.sexpr.specs.declared.enclosing.Enclosing as stacks
use Rattle.sexpr.specs.declared.lexer.Piece as pieces
use Rattle.sexpr.specs.declared.token.Token as code
use Rattle.sexpr.proofs.WrittenFormLaws.{written_symbol, written_text}

-- a symbol or a string that was just numbered stands for its text, under every table that goes on where this one ends
name_later : (old new more : List (List ℕ)) (n : ℕ) (text : List ℕ) → number_of old text ≡ Some n → new ≡ old ++ more → name_of new n ≡ Some text
name_later old new more n text h e = ap (λ t. name_of t n) e ∙ name_of-append old more text n (name_of-number_of old text n h)

pub symbol_interned : (names later : Table) (at n : ℕ) (text : List ℕ) → number_of names.symbols text ≡ Some n → GoesOn names later → written_form later (record { at = at; kind = kinds.Symbol n }) ≡ single at (symbol text)
symbol_interned names later at n text h g = written_symbol later at n ∙ ap (λ o. single at (symbol_atom o)) (name_later names.symbols later.symbols g.symbols.0 n text h g.symbols.1)

pub string_interned : (names later : Table) (at n : ℕ) (text : List ℕ) → number_of names.strings text ≡ Some n → GoesOn names later → written_form later (record { at = at; kind = kinds.Text n }) ≡ single at (string text)
string_interned names later at n text h g = written_text later at n ∙ ap (λ o. single at (string_atom o)) (name_later names.strings later.strings g.strings.0 n text h g.strings.1)

-- a token that no question refuses is read
read_on : (o : Enclosing Written) (at : ℕ) (t : Token) (ts : List Placed) → refusal o at t ≡ None → run as_kept (going o) (placed at t ∷ ts) ≡ run as_kept (going (after as_kept o at t)) ts
unfolding run
read_on o at t ts h = rw h refl

pub read_taken : (names : Table) (old new : stacks.Enclosing) (at : ℕ) (t : Token) (ts : List Placed) → Takes names old new at t → run as_kept (going (enclosing_of names old)) (placed at t ∷ ts) ≡ run as_kept (going (enclosing_of names new)) ts
read_taken names old new at t ts h = read_on (enclosing_of names old) at t ts h.0 ∙ ap (λ o. run as_kept (going o) ts) (sym h.1)

run_stopped : (f : Fault) (ts : List Placed) → run as_kept (stopped f) ts ≡ stopped f
unfolding run
run_stopped f [] = refl
run_stopped f (t ∷ ts) = run_stopped f ts

-- a token that is refused ends the reading
read_refused : (o : Enclosing Written) (at : ℕ) (t : Token) (ts : List Placed) (f : Fault) → refusal o at t ≡ Some f → finish (run as_kept (going o) (placed at t ∷ ts)) ≡ refused f
unfolding run
read_refused o at t ts f h = ap (λ r. finish (run as_kept (settle r (after as_kept o at t)) ts)) h ∙ ap finish (run_stopped f ts)

pub answers_refusal : (names : Table) (old : stacks.Enclosing) (at : ℕ) (t : Token) (ts : List Placed) (e : ReadError) → Refuses e (refusal (enclosing_of names old) at t) → Answers names (finish (run as_kept (going (enclosing_of names old)) (placed at t ∷ ts))) (Err e)
answers_refusal names old at t ts (errors.Fault a n) h = read_refused (enclosing_of names old) at t ts (fault a n) h
answers_refusal names old at t ts errors.Memory h = tt

-- the tokens of a text are those of its first piece and those after it
pub tokens_cut : (at : ℕ) (rest : List ℕ) (n : ℕ) (p : Piece) → 0 < length rest → p ≡ first_piece rest → n ≡ suc (more (first_piece rest)) → tokens_from at 0 rest ≡ placed_before at p (tokens_from (at + n) 0 (drop n rest))
tokens_cut at [] n p h e s = absurd (omega arith)
tokens_cut at (b ∷ bs) n p h e s = rw (e, s) (tokens_from-piece at b bs)

pub no_tokens : (at : ℕ) (bs : List ℕ) → length bs ≡ 0 → tokens_from at 0 bs ≡ []
unfolding tokens_from
no_tokens at [] h = refl
no_tokens at (b ∷ bs) h = absurd (omega arith)

-- the reading of a text's tokens is that of the text
pub reading_begun : (bytes : List ℕ) → IsUtf8 bytes → finish (run as_kept (going (awaiting (top []))) (tokens_from 0 0 bytes)) ≡ read_text as_kept bytes
unfolding read_text read_tokens tokens
reading_begun bytes u = sym (ap (λ b. read_if as_kept b bytes) (is_utf8-from_IsUtf8 bytes u))

-- bytes that are no text are refused where they stop being one
pub not_a_text : (bytes : List ℕ) → (IsUtf8 bytes → ⊥) → read_text as_kept bytes ≡ refused (fault (utf8_valid_len bytes) Refusal.NotUtf8)
unfolding read_text
not_a_text bytes n = by_test (is_utf8 bytes) refl
  where
    by_test : (b : Bool) → is_utf8 bytes ≡ b → read_if as_kept (is_utf8 bytes) bytes ≡ refused (fault (utf8_valid_len bytes) Refusal.NotUtf8)
    by_test true h = absurd (n (IsUtf8-from_is_utf8 bytes h))
    by_test false h = ap (λ b. read_if as_kept b bytes) h

pub answers_same : (names : Table) (r s : Reading Written) (answer : Result (List Datum) ReadError) → r ≡ s → Answers names r answer → Answers names s answer
answers_same names r s answer e h = subst (λ (x : Reading Written). Answers names x answer) e h

pub takes_same : (names : Table) (old new : stacks.Enclosing) (at : ℕ) (t u : Token) → t ≡ u → TakesToken names old new at u → TakesToken names old new at t
takes_same names old new at t u e h = λ later g. subst (λ x. Takes later old new at x) (sym e) (h later g)

-- a piece with a token, before other tokens
placed_token : (at : ℕ) (p : pieces.Piece) (t : code.Token) (ts : List Placed) → p.token ≡ Some t → placed_before at (piece_of p) ts ≡ placed at (token_of t) ∷ ts
placed_token at p t ts e = ap (λ o. placed_before at (piece_with o (p.length - 1)) ts) e

pub taken_token : (names : Table) (at : ℕ) (p : pieces.Piece) (t : code.Token) (old new : stacks.Enclosing) → p.token ≡ Some t → TakesToken names old new at (token_of t) → ReadsPiece names old new at (piece_of p)
taken_token names at p t old new e taken = λ later g ts.
    ap (run as_kept (going (enclosing_of later old))) (placed_token at p t ts e) ∙ read_taken later old new at (token_of t) ts (taken later g)

pub refused_token : {T : Type 0} (r : Result T ReadError) (at : ℕ) (p : pieces.Piece) (t : code.Token) (old : stacks.Enclosing) → p.token ≡ Some t → IfErr r (λ e. RefusesToken e old at (token_of t)) → IfErr r (λ e. RefusesPiece e old at (piece_of p))
refused_token (Ok x) at p t old e h = h
refused_token (Err x) at p t old e h = λ names ts.
    answers_same names (finish (run as_kept (going (enclosing_of names old)) (placed at (token_of t) ∷ ts))) (finish (run as_kept (going (enclosing_of names old)) (placed_before at (piece_of p) ts))) (Err x)
    (ap (λ xs. finish (run as_kept (going (enclosing_of names old)) xs)) (sym (placed_token at p t ts e)))
    (answers_refusal names old at (token_of t) ts x (h names))

pub numbered_token : (old new : Table) (p : pieces.Piece) (t : code.Token) → p.token ≡ Some t → new ≡ with_token old (token_of t) → new ≡ with_piece old (piece_of p)
numbered_token old new p t e h = h ∙ ap (λ o. with_piece old (piece_with o (p.length - 1))) (sym e)

pub text_token : (p : pieces.Piece) (t : code.Token) → p.token ≡ Some t → HasPieceText (piece_of p) → HasText (token_of t)
text_token p t e h = subst (λ o. HasPieceText (piece_with o (p.length - 1))) e h

-- a table that has room for some names has it behind some of them for the others
pub grows_on : (most n all : ℕ) (old new : Table) → Extends most old new → most + n ≤ all → CanGrow all old → CanGrow n new
grows_on most n all old new e h g = (omega (arith, e.symbols, h, g.0), omega (arith, e.strings, h, g.1))

-- what is unclosed and the text that is left read as the whole text does, under every table that goes on
abbrev pub Left : Table → stacks.Enclosing → ℕ → List ℕ → List ℕ → Type 0
Left names o at rest bytes = (later : Table) → GoesOn names later → finish (run as_kept (going (enclosing_of later o)) (tokens_from at 0 rest)) ≡ read_text as_kept bytes

pub left_first : (names : Table) (o : stacks.Enclosing) (text bytes : List ℕ) → ((t : Table) → enclosing_of t o ≡ awaiting (top [])) → (text ≡ bytes) × IsUtf8 bytes → Left names o 0 text bytes
left_first names o text bytes h u = λ later g.
    ap (λ x. finish (run as_kept (going x) (tokens_from 0 0 text))) (h later)
    ∙ ap (λ xs. finish (run as_kept (going (awaiting (top []))) (tokens_from 0 0 xs))) u.0
    ∙ reading_begun bytes u.1

pub left_more : (names new : Table) (o : stacks.Enclosing) (at : ℕ) (rest bytes : List ℕ) → Left names o at rest bytes → GoesOn names new → Left new o at rest bytes
left_more names new o at rest bytes h p = λ later g. h later (goes_on_further names new later p g)

-- after a piece that was taken
pub left_next : (names : Table) (old new : stacks.Enclosing) (at : ℕ) (rest later bytes : List ℕ) (n : ℕ) (p : Piece) → 0 < length rest → p ≡ first_piece rest → n ≡ suc (more (first_piece rest)) → later ≡ drop n rest → ReadsPiece names old new at p → Left names old at rest bytes → Left names new (at + n) later bytes
left_next names old new at rest later bytes n p h e s d taken left = λ t g.
    ap (λ xs. finish (run as_kept (going (enclosing_of t new)) (tokens_from (at + n) 0 xs))) d
    ∙ ap finish (sym (taken t g (tokens_from (at + n) 0 (drop n rest))))
    ∙ ap (λ ts. finish (run as_kept (going (enclosing_of t old)) ts)) (sym (tokens_cut at rest n p h e s))
    ∙ left t g

-- after a piece that was refused
pub left_refused : (names : Table) (o : stacks.Enclosing) (at : ℕ) (rest bytes : List ℕ) (n : ℕ) (p : Piece) (x : ReadError) → 0 < length rest → p ≡ first_piece rest → n ≡ suc (more (first_piece rest)) → RefusesPiece x o at p → Left names o at rest bytes → (t : Table) → GoesOn names t → Reads bytes t (Err x)
left_refused names o at rest bytes n p x h e s refuses left t g =
    answers_same t (finish (run as_kept (going (enclosing_of t o)) (placed_before at p (tokens_from (at + n) 0 (drop n rest))))) (read_text as_kept bytes) (Err x)
    (ap (λ ts. finish (run as_kept (going (enclosing_of t o)) ts)) (sym (tokens_cut at rest n p h e s)) ∙ left t g)
    (refuses t (tokens_from (at + n) 0 (drop n rest)))

-- at the end of the text
pub left_none : (names : Table) (o : stacks.Enclosing) (at : ℕ) (rest bytes : List ℕ) (answer : Result (List Datum) ReadError) → length rest ≡ 0 → ((t : Table) → Answers t (answer_at_end (enclosing_of t o)) answer) → Left names o at rest bytes → (t : Table) → GoesOn names t → Reads bytes t answer
unfolding run
left_none names o at rest bytes answer h ends left t g =
    answers_same t (answer_at_end (enclosing_of t o)) (read_text as_kept bytes) answer
    (ap (λ ts. finish (run as_kept (going (enclosing_of t o)) ts)) (sym (no_tokens at rest h)) ∙ left t g)
    (ends t)

-- an error that is handed on
pub reads_error : (bytes : List ℕ) (names : Table) (r : Result (List Datum) ReadError) (e : ReadError) → IsErrAnd r (λ x. x ≡ e) → Reads bytes names (Err e) → Reads bytes names r
reads_error bytes names (Ok ds) e h k = absurd h
reads_error bytes names (Err x) e h k = subst (λ (y : ReadError). Reads bytes names (Err y)) (sym h) k

-- the names of the text that is left, behind those that there are, are those of the whole
with_placed : (names : Table) (at : ℕ) (p : Piece) (ts : List Placed) → with_tokens names (placed_before at p ts) ≡ with_tokens (with_piece names p) ts
with_placed names at (blank n) ts = refl
with_placed names at (spelled t n) ts = refl

pub names_first : (names : Table) (text bytes : List ℕ) → text ≡ bytes → with_tokens names (tokens_from 0 0 text) ≡ with_text_names names bytes
unfolding tokens
names_first names text bytes e = ap (λ xs. with_tokens names (tokens_from 0 0 xs)) e

pub names_next : (old new all : Table) (at : ℕ) (rest later : List ℕ) (n : ℕ) (p : Piece) → 0 < length rest → p ≡ first_piece rest → n ≡ suc (more (first_piece rest)) → later ≡ drop n rest → new ≡ with_piece old p → with_tokens old (tokens_from at 0 rest) ≡ all → with_tokens new (tokens_from (at + n) 0 later) ≡ all
names_next old new all at rest later n p h e s d g i =
    ap (λ xs. with_tokens new (tokens_from (at + n) 0 xs)) d
    ∙ ap (λ t. with_tokens t (tokens_from (at + n) 0 (drop n rest))) g
    ∙ sym (with_placed old at p (tokens_from (at + n) 0 (drop n rest)))
    ∙ ap (with_tokens old) (sym (tokens_cut at rest n p h e s)) ∙ i

pub names_last : (names all : Table) (at : ℕ) (rest : List ℕ) → length rest ≡ 0 → with_tokens names (tokens_from at 0 rest) ≡ all → names ≡ all
names_last names all at rest h i = ap (with_tokens names) (sym (no_tokens at rest h)) ∙ i

pub holds_at_ok : {T E : Type 0} {P : Type 0} (r : Result T E) → P → OnOk r P
holds_at_ok (Ok x) p = p
holds_at_ok (Err e) p = tt
