-- What becomes of a text: its program, or its refusal.
use Rattle.std.proofs.Common.{◌≡◌, ◌≤◌, ℕ, Bool, true, false, List, [], ◌∷◌, map, length, None, Ok, Err, refl, sym, ap, subst, ◌∙◌, arith}
use Rattle.std.specs.Prelude.{Some, Result, IsErrAnd, nat_le}
use Rattle.std.specs.Str.{is_utf8, chars}
use Rattle.std.proofs.lemmas.Bool.Decides.{nat_tests}
use Rattle.kan_refusals.specs.declared.refusals.Refusal.{Refusal}
use Rattle.kan_terms.specs.Table.{Table}
use Rattle.kan_grammar.specs.Data.Faults.{Reading, data_are, refused, run, read_tokens, read_text, fault}
use Rattle.kan_grammar.specs.Data.Written.{Written}
use Rattle.kan_grammar.specs.Data.Builds.{build_datum, map_reading}
use Rattle.kan_grammar.specs.Data.Enclosing.{as_written}
use Rattle.kan_grammar.specs.Data.Tokens.{tokens, tokens_from}
use Rattle.kan_grammar.specs.Texts.TextNames.{GoesOn, first_names, with_prefixes, with_text_names, with_tokens, text_table}
use Rattle.kan_grammar.specs.Texts.Reply.{Reply, reply_to_data, unless_fault}
use Rattle.kan_grammar.specs.Texts.ProgramText.{program_of_text, queries_of_text}
use Rattle.kan_grammar.proofs.Texts.NameLaws.{goes_on_library, goes_on_first, prefixes_stay}
use Rattle.sexpr.specs.WrittenForms.{written_form, as_kept}
use Rattle.sexpr.proofs.KeptLaws.{keeps_data}
use Rattle.sexpr.specs.Reads.{Reads}
use Rattle.sexpr.specs.declared.data.Datum.{Datum}
use Rattle.sexpr.specs.declared.data.ReadError.{ReadError}
use Rattle.sexpr.specs.declared.data.ReadError.TheVariants as reading
use Rattle.sexpr.proofs.ReplyLaws.{kept_serves, replies_as_read}
use Rattle.goal_syntax.specs.Compiling.Compiles.{AreOfText, Compiles, IsAcceptedAlone, IsCompiled, fault_found}
use Rattle.goal_syntax.specs.declared.refusal.SyntaxError.{SyntaxError}
use Rattle.goal_syntax.specs.declared.refusal.SyntaxError.TheVariants as syntax
use Rattle.goal_syntax.specs.declared.compiler.Compiled.{Compiled}
use Rattle.goal_syntax.proofs.Compiling.OfTextLaws.{none_accepted, read_of_text}
use Rattle.rel_library.specs.Library.{library}
use Rattle.rel_library.specs.Accepted.{is_read}
use Rattle.rel_library.proofs.LibraryFaultless.{library_serves}
use Rattle.rel_library.proofs.LibraryReads.{library_reads}
use Rattle.kanren_run.specs.Answers.{reply_to, IsRefusedFor}
use Rattle.kanren_run.specs.Replies.{ComesTo, HasRuns, LibraryRead, TextRead, memory_wanting}
use Rattle.kanren_run.specs.declared.text.NotRun.{NotRun}
use Rattle.kanren_run.specs.Settings.{library_before}
use Rattle.kanren_run.specs.declared.settings.Settings.{Settings}
use Rattle.kanren_run.proofs.TagLaws.{bodies-named, queries-named}

-- no library names nothing
no_tokens : tokens [] ≡ []
unfolding tokens tokens_from
no_tokens = refl

pub none_named : first_names ≡ with_text_names first_names []
none_named = ap (with_tokens first_names) (sym no_tokens)

-- and has no data
pub none_read : (table : Table) → Reads [] table (Ok [])
unfolding run read_tokens read_text tokens tokens_from is_utf8 chars
none_read table = refl

nothing_read : (table : Table) (ls : List Datum) → Reads [] table (Ok ls) → ls ≡ []
nothing_read table [] read = refl
nothing_read table (d ∷ ds) read =
    let none : read_text as_kept [] ≡ data_are [] = none_read table in
    let both : data_are [] ≡ data_are (map (written_form table) (d ∷ ds)) = sym none ∙ read in
    absurd cc

pub no_library : (library : Bool) (names : Table) (ds : List Datum) → library ≡ false → names ≡ first_names → ds ≡ [] → LibraryRead library names ds
no_library library names ds off empty none = rw (off, empty, none) (record { named = none_named; reads = λ later goes_on. none_read later })

-- the library is read under the names of it and of a text behind it
pub library_read : (s : Settings) (text : List ℕ) (names : Table) (ls : List Datum) → LibraryRead s.library names ls →
    Reads (library_before s.library) (text_table (library_before s.library) text) (Ok ls)
library_read s text names ls h =
    h.reads (text_table (library_before s.library) text)
    (subst (λ t. GoesOn t (text_table (library_before s.library) text)) (sym h.named) (goes_on_library (library_before s.library) text))

-- what data that were read are answered with
to_data : (s : Settings) (text : List ℕ) (names : Table) (ls ds : List Datum) → TextRead s text names ls ds →
    reply_to s text ≡ reply_to_data s.dialect names (map (written_form names) ls) (map (written_form names) ds)
to_data s text names ls ds h =
    let library : List ℕ = library_before s.library in
    subst (λ t. reply_to s text ≡ reply_to_data s.dialect t (map (written_form t) ls) (map (written_form t) ds)) h.named
    (replies_as_read library text s.dialect ls (Ok ds) (subst (λ t. Reads library t (Ok ls)) (sym h.named) h.library) (subst (λ t. Reads text t (Ok ds)) (sym h.named) h.forms))

-- a text that can't be read is refused
pub reading_refused : (s : Settings) (text : List ℕ) (before names : Table) (ls : List Datum) (x : ReadError) (at : ℕ) (refusal : Refusal) → LibraryRead s.library before ls →
    x ≡ reading.Fault at refusal → Reads text names (Err x) → IsRefusedFor s text at refusal
reading_refused s text before names ls x at refusal library is read =
    replies_as_read (library_before s.library) text s.dialect ls (Err (reading.Fault at refusal)) (library_read s text before ls library) (subst (λ y. Reads text names (Err y)) is read)

-- the names of a text behind the library have the symbols of the prefixes already
named_behind : (library : Bool) (text : List ℕ) (before old : Table) (ls : List Datum) → LibraryRead library before ls →
    old ≡ with_text_names before text → text_table (library_before library) text ≡ old
named_behind library text before old ls read numbered = ap (λ t. with_text_names t text) (sym read.named) ∙ sym numbered

pub named_with_prefixes : (library : Bool) (text : List ℕ) (before old : Table) (ls : List Datum) → LibraryRead library before ls →
    old ≡ with_text_names before text → text_table (library_before library) text ≡ with_prefixes old
named_with_prefixes library text before old ls read numbered =
    let same = named_behind library text before old ls read numbered in
    same ∙ sym (prefixes_stay old (subst (GoesOn first_names) same (goes_on_first (library_before library) text)))

-- a text that was read behind the library
pub text_read : (s : Settings) (text : List ℕ) (before old : Table) (ls ds : List Datum) → LibraryRead s.library before ls → old ≡ with_text_names before text →
    Reads text (with_prefixes old) (Ok ds) → TextRead s text (with_prefixes old) ls ds
text_read s text before old ls ds library numbered read =
    let same : text_table (library_before s.library) text ≡ with_prefixes old = named_with_prefixes s.library text before old ls library numbered in
    record { named = same; library = subst (λ t. Reads (library_before s.library) t (Ok ls)) same (library_read s text before ls library); forms = read }

-- the library has no fault and no run under the names of a text behind it, and neither has none
library_alone : (on : Bool) (names : Table) (ls : List Datum) → Reads (library_before on) names (Ok ls) →
    GoesOn (with_text_names first_names (library_before on)) names → IsAcceptedAlone names ls
library_alone true names ls read goes_on = kept_serves library names ls read (library_serves names goes_on)
library_alone false names ls read goes_on = none_accepted names ls (nothing_read names ls read)

pub accepted_behind : (on : Bool) (text : List ℕ) (before old : Table) (ls : List Datum) → LibraryRead on before ls →
    old ≡ with_text_names before text → IsAcceptedAlone (with_prefixes old) ls
accepted_behind on text before old ls read numbered =
    let same = named_with_prefixes on text before old ls read numbered in
    let further : GoesOn before (with_prefixes old) = subst (λ t. GoesOn before t) same
    (subst (λ t. GoesOn t (text_table (library_before on) text)) (sym read.named) (goes_on_library (library_before on) text)) in
    library_alone on (with_prefixes old) ls (read.reads (with_prefixes old) further)
    (subst (λ t. GoesOn t (with_prefixes old)) read.named further)

-- what data that were compiled are answered with
compiled_answer : (s : Settings) (names : Table) (ls ds : List Datum) (text : List ℕ) →
    reply_to s text ≡ reply_to_data s.dialect names (map (written_form names) ls) (map (written_form names) ds) → fault_found names ls ds ≡ None →
    reply_to s text ≡ Reply.accepted names (program_of_text s.dialect names (map (written_form names) ls) (map (written_form names) ds)) (queries_of_text s.dialect names (map (written_form names) ls) (map (written_form names) ds))
compiled_answer s names ls ds text same none =
    same ∙ ap (λ f. unless_fault f (Reply.accepted names (program_of_text s.dialect names (map (written_form names) ls) (map (written_form names) ds)) (queries_of_text s.dialect names (map (written_form names) ls) (map (written_form names) ds)))) none

-- what data that were compiled come to
pub data_come : (s : Settings) (text : List ℕ) (old later : Table) (ls ds : List Datum) (c : Compiled) →
    TextRead s text (with_prefixes old) ls ds → later ≡ with_prefixes old → IsCompiled s.dialect (with_prefixes old) ls ds c.program c.queries → HasRuns s text later c.program c.queries
data_come s text old later ls ds c read table compiled =
    let names : Table = with_prefixes old in
    subst (λ t. HasRuns s text t c.program c.queries) (sym table)
    (record {
      meant = program_of_text s.dialect names (map (written_form names) ls) (map (written_form names) ds);
      answered = compiled_answer s names ls ds text (to_data s text names ls ds read) compiled.accepted
          ∙ ap (λ qs. Reply.accepted names (program_of_text s.dialect names (map (written_form names) ls) (map (written_form names) ds)) qs) (sym compiled.queries_are);
      relations = compiled.relations;
      can = record {
        closed = compiled.closed;
        small = compiled.small;
        bodies = bodies-named names c.program compiled.named;
        goals = queries-named names c.program c.queries compiled.named;
      };
    })

-- data that have a fault are refused for it
pub data_refused : (s : Settings) (text : List ℕ) (old : Table) (ls ds : List Datum) (x : SyntaxError) (at : ℕ) (refusal : Refusal) → x ≡ syntax.Fault at refusal →
    TextRead s text (with_prefixes old) ls ds → Compiles s.dialect (with_prefixes old) ls ds (Err x) → IsRefusedFor s text at refusal
data_refused s text old ls ds x at refusal same read found =
    let names : Table = with_prefixes old in
    let first : fault_found names ls ds ≡ Some (fault at refusal) = subst (λ y. Compiles s.dialect names ls ds (Err y)) same found in
    to_data s text names ls ds read
    ∙ ap (λ f. unless_fault f (Reply.accepted names (program_of_text s.dialect names (map (written_form names) ls) (map (written_form names) ds)) (queries_of_text s.dialect names (map (written_form names) ls) (map (written_form names) ds)))) first

-- the same of equal offsets and refusals
pub refused_same : (s : Settings) (text : List ℕ) (a b : ℕ) (m n : Refusal) → a ≡ b → m ≡ n → IsRefusedFor s text a m → IsRefusedFor s text b n
refused_same s text a b m n p q h = subst (λ at. IsRefusedFor s text at n) p (subst (λ refusal. IsRefusedFor s text a refusal) q h)

-- want of memory says nothing, also where it is handed on
pub wants_memory : (s : Settings) (text : List ℕ) (names : Table) (r : Result Compiled NotRun) (e : NotRun) → IsErrAnd r (λ x. x ≡ e) → e ≡ memory_wanting → ComesTo s text names r
wants_memory s text names (Ok c) e h is = absurd h
wants_memory s text names (Err x) e h is = subst (λ y. ComesTo s text names (Err y)) (sym (h ∙ is)) tt

-- the library is read without a fault
pub reads_library : (at : ℕ) (refusal : Refusal) (names : Table) (r : ReadError) → r ≡ reading.Fault at refusal → Reads library names (Err r) → ⊥
reads_library at refusal names r is h = by (read_text as_written library) library_reads (sym (keeps_data library) ∙ subst (λ x. Reads library names (Err x)) is h)
  where
    by : (x : Reading Written) → is_read x ≡ true → map_reading (build_datum as_kept) x ≡ refused (fault at refusal) → ⊥
    by (data_are ds) read e = cc
    by (refused f) read e = cc

-- the library is short enough to be read
library_measured : nat_le (length library) 1048576 ≡ true
unfolding library
library_measured = refl

library_short : length library ≤ 1048576
library_short = grind (arith, nat_tests, library_measured)

-- the data of the library are those of a text
pub of_library : (names later : Table) (library_on : Bool) (ls : List Datum) → LibraryRead library_on names ls → GoesOn names later → AreOfText (with_prefixes later) ls
of_library names later library_on ls read further = by library_on refl
  where
    by : (b : Bool) → library_on ≡ b → AreOfText (with_prefixes later) ls
    by b is = read_of_text names later (library_before b) ls (short b) further (subst (λ x. (t : Table) → GoesOn names t → Reads (library_before x) t (Ok ls)) is read.reads)
      where
        short : (x : Bool) → length (library_before x) ≤ 1048576
        short true = omega (arith, library_short)
        short false = omega arith
