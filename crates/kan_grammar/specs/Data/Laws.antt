-- What ties the reading of tokens to the grammar of data.
use Rattle.std.specs.Prelude.{◌≡◌, ℕ, suc, ◌+◌, max, ◌⊎◌, ◌↔◌, List, [], ◌∷◌, ◌++◌, length, take}
use Rattle.std.specs.Prelude.{IsTrue, Some}
use Rattle.kan_grammar.specs.Data.Tokens.{Placed, placed, tokens, tokens_from}
use Rattle.kan_grammar.specs.Data.Words.{Token}
use Rattle.kan_grammar.specs.Data.Written.{Written, spell_all, are_allowed, deepest}
use Rattle.kan_grammar.specs.Data.Enclosing.{as_written, Enclosing, awaiting, after_prefix, depth}
use Rattle.kan_grammar.specs.Data.Faults.{Fault, refusal, going, run, beginning, data_are, refused}
use Rattle.kan_grammar.specs.Data.Faults.{answer_at_end, read_tokens}

-- tokens are read as data exactly where they spell them and they are allowed
abbrev pub ReadsExactly : Type 0
ReadsExactly =
    (ts : List Placed) (ds : List Written) → (read_tokens as_written ts ≡ data_are ds)
    ↔ ((spell_all ds [] ≡ ts) × IsTrue (are_allowed deepest ds))

-- with some tokens more these spell data that stand no deeper than a limit
abbrev pub Begins : ℕ → List Placed → Type 0
Begins limit ts =
    (ds : List Written) × (more : List Placed) × (spell_all ds [] ≡ ts ++ more)
    × IsTrue (are_allowed limit ds)

-- and this with the tokens of some bytes, from whichever offset on
abbrev pub BeginsText : ℕ → List Placed → Type 0
BeginsText limit ts =
    (at : ℕ) → (ds : List Written) × (bytes : List ℕ)
    × (spell_all ds [] ≡ ts ++ tokens_from at 0 bytes) × IsTrue (are_allowed limit ds)

-- how deep data must be let stand for what is unclosed to be completed: no deeper than they may,
-- but for the datum that the last prefix still lacks, which can be one or two too deep
abbrev pub reach : Enclosing Written → ℕ
reach (awaiting (after_prefix outer at p)) = max deepest (depth outer + 2)
reach _ = deepest

-- the tokens before one begin a text, with it they begin none that is allowed, and the first
-- question that refuses it there gives the fault
pub record StopsAt (ts : List Placed) (f : Fault) : Type 0 where
  pub before : List Placed
  pub at : ℕ
  pub token : Token
  pub later : List Placed
  pub enclosing : Enclosing Written
  pub in_order : ts ≡ before ++ placed at token ∷ later
  pub read_before : run as_written beginning before ≡ going enclosing
  pub answer : refusal enclosing at token ≡ Some f
  pub before_begins : BeginsText (reach enclosing) before
  pub begins_none : Begins deepest (before ++ placed at token ∷ []) → ⊥

-- all tokens begin a text, and something is unclosed at the end
pub record IsCutOff (ts : List Placed) (f : Fault) : Type 0 where
  pub enclosing : Enclosing Written
  pub read_all : run as_written beginning ts ≡ going enclosing
  pub answer : answer_at_end enclosing ≡ refused f
  pub all_begin : BeginsText (reach enclosing) ts

-- a refusal belongs to the first token at which the tokens so far begin no text that can be read,
-- or to the end
abbrev pub RefusesFirst : Type 0
RefusesFirst =
    (ts : List Placed) (f : Fault) → read_tokens as_written ts ≡ refused f → StopsAt ts f
    ⊎ IsCutOff ts f

-- a line feed ends each token: after it the tokens are those of what follows
abbrev pub EndsAtLine : Type 0
EndsAtLine =
    (front back : List ℕ) → tokens (front ++ 10 ∷ back) ≡ tokens front
    ++ tokens_from (suc (length front)) 0 back

-- a text cut where a token begins has the tokens before it
abbrev pub CutsBefore : Type 0
CutsBefore =
    (bytes : List ℕ) (before : List Placed) (at : ℕ) (t : Token) (later : List Placed) →
    tokens bytes ≡ before ++ placed at t ∷ later → tokens (take at bytes) ≡ before
