-- Tokens are read as data exactly where they spell them and they are allowed.
use Rattle.std.proofs.Common.{◌≡◌, ℕ, List, [], ◌∷◌, ◌++◌, refl, sym, ap, ◌∙◌, append-nil}
use Rattle.std.specs.Prelude.{Option, Some, None, IsTrue}
use Rattle.kan_grammar.specs.Data.Tokens.{Placed, placed}
use Rattle.kan_grammar.specs.Data.Written.{Written, spell_all, are_allowed, deepest}
use Rattle.kan_grammar.specs.Data.Enclosing.{top, in_list, after_dot, after_prefix, Enclosing, awaiting, ended, as_written}
use Rattle.kan_grammar.specs.Data.Faults.{Fault, refusal, after, Progress, going, stopped, settle, run, data_are, answer_at_end, finish, beginning, read_tokens}
use Rattle.kan_grammar.specs.Data.Laws.{ReadsExactly}
use Rattle.kan_grammar.proofs.Data.CompletenessLaws.{past, spelled_are_read}
use Rattle.kan_grammar.proofs.Data.SoundnessLaws.{spelled_enclosing, SoundEnclosing, IsWide, after-sound, after-spelled}

-- a reading that has stopped stays there
pub run-stopped : (f : Fault) (ts : List Placed) → run as_written (stopped f) ts ≡ stopped f
unfolding run
run-stopped f [] = refl
run-stopped f (t ∷ ts) = run-stopped f ts

-- tokens that are read so far are spelled by what is unclosed then, and it is sound
pub run-spelled : (limit : ℕ) → IsWide limit → (o : Enclosing Written) (ts : List Placed) (later : Enclosing Written) → run as_written (going o) ts ≡ going later → SoundEnclosing limit o → SoundEnclosing limit later × ((rest : List Placed) → spelled_enclosing later rest ≡ spelled_enclosing o (ts ++ rest))
unfolding run
run-spelled limit wide o [] later h g = let e : o ≡ later = cc in (rw e at g, λ rest. ap (λ (x : Enclosing Written). spelled_enclosing x rest) (sym e))
run-spelled limit wide o (placed at t ∷ ts) later h g = by_answer (refusal o at t) refl (λ e. run-spelled limit wide (after as_written o at t) ts later (sym (past as_written o at t ts e) ∙ h) (after-sound limit wide o at t e g))
  where
    by_answer : (r : Option Fault) → refusal o at t ≡ r → (refusal o at t ≡ None → SoundEnclosing limit later × ((rest : List Placed) → spelled_enclosing later rest ≡ spelled_enclosing (after as_written o at t) (ts ++ rest))) → SoundEnclosing limit later × ((rest : List Placed) → spelled_enclosing later rest ≡ spelled_enclosing o (placed at t ∷ (ts ++ rest)))
    by_answer None e next = ((next e).0, λ rest. (next e).1 rest ∙ after-spelled o at t (ts ++ rest) e)
    by_answer (Some f) e next =
        let stop : run as_written (stopped f) ts ≡ going later = ap (λ (r : Option Fault). run as_written (settle r (after as_written o at t)) ts) (sym e) ∙ h in
        let same : stopped f ≡ going later = sym (run-stopped f ts) ∙ stop in
        absurd cc

-- what is unclosed when all is read
all_read : (ts : List Placed) (o : Enclosing Written) (ds : List Written) → run as_written beginning ts ≡ going o → answer_at_end o ≡ data_are ds → (spell_all ds [] ≡ ts) × IsTrue (are_allowed deepest ds)
all_read ts (awaiting (top es)) ds h e =
    let same : es ≡ ds = cc in
    let so = run-spelled deepest (λ n k. k) (awaiting (top [])) ts (awaiting (top es)) h refl in
    (rw (← same) (so.1 [] ∙ append-nil ts), rw (← same) so.0)
all_read ts (awaiting (in_list outer at s es)) ds h e = absurd cc
all_read ts (awaiting (after_dot outer at s f es point)) ds h e = absurd cc
all_read ts (awaiting (after_prefix outer at q)) ds h e = absurd cc
all_read ts (ended outer at s f es point d) ds h e = absurd cc

read_are_spelled : (ts : List Placed) (ds : List Written) (p : Progress Written) → run as_written beginning ts ≡ p → finish p ≡ data_are ds → (spell_all ds [] ≡ ts) × IsTrue (are_allowed deepest ds)
read_are_spelled ts ds (going o) h e = all_read ts o ds h e
read_are_spelled ts ds (stopped f) h e = absurd cc

pub reads_exactly : ReadsExactly
unfolding read_tokens
reads_exactly ts ds = (λ h. read_are_spelled ts ds (run as_written beginning ts) refl h, λ h. ap (read_tokens as_written) (sym h.0) ∙ spelled_are_read ds h.1)
