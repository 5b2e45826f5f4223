-- Libraries that are accepted by themselves, for those who compile: compiling one by itself shows it.
use Rattle.std.proofs.Common.{◌≡◌, ℕ, List, [], ◌∷◌, ◌++◌, length, refl, sym, ◌∙◌, ap, ap₂}
use Rattle.std.specs.Prelude.{Option, Some, None, is_some, if◌then◌else◌}
use Rattle.kan_terms.specs.Table.{Table, number_of, with_text}
use Rattle.kan_terms.proofs.TableLaws.{number_of-push, number_of-with_text}
use Rattle.kan_model.specs.Programs.Goals.{Query}
use Rattle.kan_grammar.specs.declared.dialect.Dialect.{Dialect}
use Rattle.kan_grammar.specs.Data.Printed.{prefix_name}
use Rattle.kan_grammar.specs.Data.Words.{quote, quasiquote, unquote}
use Rattle.kan_grammar.specs.Texts.Sited.{Sited}
use Rattle.kan_grammar.specs.Texts.TextNames.{with_prefix, with_prefixes}
use Rattle.kan_grammar.specs.Texts.TopForms.{Defined, Form, relation, run_of_one, run_of_list, misshapen, unknown, form, definitions}
use Rattle.kan_grammar.specs.Texts.ProgramText.{queries_in, queries_of, text_meaning}
use Rattle.sexpr.specs.declared.data.Datum.{Datum}
use Rattle.goal_syntax.specs.declared.compiler.Compiled.{Compiled}
use Rattle.goal_syntax.specs.Compiling.Compiles.{IsAcceptedAlone, IsCompiled, sites_of}

-- a text that came to a list is there
interned_there : (texts : List (List ℕ)) (text : List ℕ) → (n : ℕ) × (number_of (with_text texts text) text ≡ Some n)
interned_there texts text = by_number (number_of texts text) refl
  where
    by_number : (r : Option ℕ) → number_of texts text ≡ r → (n : ℕ) × (number_of (if is_some r then texts else texts ++ text ∷ []) text ≡ Some n)
    by_number None e = (length texts, number_of-push texts text e)
    by_number (Some n) e = (n, e)

-- the symbol of a prefix that is there comes not again
prefix_again : (table : Table) (text : List ℕ) (n : ℕ) → number_of table.symbols text ≡ Some n → with_text table.symbols text ≡ table.symbols
prefix_again table text n e = ap (λ r. if is_some r then table.symbols else table.symbols ++ text ∷ []) e

abbrev with_symbols : Table → List (List ℕ) → Table
with_symbols table texts = record { symbols = texts; strings = table.strings }

-- the symbols of the prefixes come once
pub prefixes_again : (table : Table) → with_prefixes (with_prefixes table) ≡ with_prefixes table
prefixes_again table =
    let all = with_prefixes table in
    let one = with_prefix table quote in
    let two = with_prefix one quasiquote in
    let first = interned_there table.symbols (prefix_name quote) in
    let second = interned_there one.symbols (prefix_name quasiquote) in
    let third = interned_there two.symbols (prefix_name unquote) in
    let quoted = number_of-with_text two.symbols (prefix_name unquote) (prefix_name quote) first.0 (number_of-with_text one.symbols (prefix_name quasiquote) (prefix_name quote) first.0 first.1) in
    let quasiquoted = number_of-with_text two.symbols (prefix_name unquote) (prefix_name quasiquote) second.0 second.1 in
    ap (λ l. with_prefix (with_prefix (with_symbols all l) quasiquote) unquote) (prefix_again all (prefix_name quote) first.0 quoted)
    ∙ ap (λ l. with_prefix (with_symbols all l) unquote) (prefix_again all (prefix_name quasiquote) second.0 quasiquoted)
    ∙ ap (with_symbols all) (prefix_again all (prefix_name unquote) third.0 third.1)

-- a form that gives no run in one dialect gives none in another
no_run_of : (dialect other : Dialect) (ds : List Defined) (f : Form) (later : List Query) → queries_in dialect ds f ++ later ≡ [] → queries_in other ds f ≡ []
no_run_of dialect other ds (relation name params gs) later h = refl
no_run_of dialect other ds (run_of_one limit q gs) later h = absurd cc
no_run_of dialect other ds (run_of_list limit xs gs) later h = absurd cc
no_run_of dialect other ds (misshapen at) later h = refl
no_run_of dialect other ds (unknown at) later h = refl

behind_none : (xs ys : List Query) → xs ++ ys ≡ [] → ys ≡ []
behind_none [] ys h = h
behind_none (x ∷ xs) ys h = absurd cc

no_runs_of : (dialect other : Dialect) (t : Table) (ds : List Defined) (forms : List Sited) → queries_of dialect t ds forms ≡ [] → queries_of other t ds forms ≡ []
no_runs_of dialect other t ds [] h = refl
no_runs_of dialect other t ds (d ∷ later) h =
    ap₂ (λ x y. x ++ y) (no_run_of dialect other ds (form t d) (queries_of dialect t ds later) h)
    (no_runs_of dialect other t ds later (behind_none (queries_in dialect ds (form t d)) (queries_of dialect t ds later) h))

no_runs_meant : (dialect other : Dialect) (t : Table) (forms : List Sited) → (text_meaning dialect t [] forms).queries ≡ [] → (text_meaning other t [] forms).queries ≡ []
unfolding text_meaning
no_runs_meant dialect other t forms h = no_runs_of dialect other t (definitions t forms) forms h

-- a library that compiles by itself, to no run, is accepted by itself
pub accepted_alone : (dialect : Dialect) (names : Table) (library : List Datum) (c : Compiled) → IsCompiled dialect names [] library c.program c.queries → c.queries ≡ [] → IsAcceptedAlone names library
accepted_alone dialect names library c compiled none = record {
  faultless = compiled.accepted;
  runless = λ other. no_runs_meant dialect other names (sites_of names library) (sym (rw none at compiled.queries_are));
}
