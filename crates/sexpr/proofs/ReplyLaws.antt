-- Data as they are kept have the sites of those as they are written, and so the same reply.
use Rattle.std.proofs.Common.{◌≡◌, ℕ, List, [], ◌∷◌, ◌++◌, map, refl, sym, ap, subst, ◌∙◌}
use Rattle.std.specs.Prelude.{Result, Ok, Err}
use Rattle.kan_refusals.specs.declared.refusals.Refusal.{Refusal}
use Rattle.kan_terms.specs.Table.{Table}
use Rattle.kan_grammar.specs.declared.dialect.Dialect.{Dialect}
use Rattle.kan_grammar.specs.Data.Words.{Shape}
use Rattle.kan_grammar.specs.Data.Written.{Written, Within, single, list, prefixed, close, dotted, element}
use Rattle.kan_grammar.specs.Data.Enclosing.{row, as_written}
use Rattle.kan_grammar.specs.Data.Faults.{fault, Reading, data_are, refused, read_text}
use Rattle.kan_grammar.specs.Data.Builds.{build_datum, build_within, map_reading}
use Rattle.kan_grammar.specs.Data.Printed.{prefix_name}
use Rattle.kan_grammar.specs.Texts.Sited.{Sited, with_sites, within_sites, symbol_number}
use Rattle.kan_grammar.specs.Texts.TextNames.{text_table}
use Rattle.kan_grammar.specs.Texts.ProgramText.{Meant, text_meaning}
use Rattle.kan_grammar.specs.Texts.TextFaults.{faults_of, least}
use Rattle.kan_grammar.specs.Texts.Reply.{Reply, reply, reply_to_data, reply_to_reading, data_of, unless_fault}
use Rattle.kan_grammar.specs.Texts.Reply.{IsLibrary}
use Rattle.sexpr.specs.WrittenForms.{written_form, as_kept}
use Rattle.sexpr.specs.Reads.{Reads}
use Rattle.sexpr.specs.Laws.{IsReply, KeepsSites, RepliesAsRead}
use Rattle.sexpr.specs.declared.data.Datum.{Datum}
use Rattle.sexpr.specs.declared.data.ReadError.{ReadError}
use Rattle.sexpr.specs.declared.data.ReadError.TheVariants as errors
use Rattle.sexpr.proofs.KeptLaws.{keeps_data}

-- elements before the sites of what else stands in their list
abbrev pairs_before : Table → ℕ → List Written → Sited → Sited
pairs_before table at [] t = t
pairs_before table at (d ∷ ds) t = Sited.pair at (with_sites table d) (pairs_before table at ds t)

pairs_before_row : (table : Table) (at : ℕ) (ds : List Written) (inner : Within) → within_sites table at (row ds inner) ≡ pairs_before table at ds (within_sites table at inner)
pairs_before_row table at [] inner = refl
pairs_before_row table at (d ∷ ds) inner = ap (Sited.pair at (with_sites table d)) (pairs_before_row table at ds inner)

pairs_before_push : (table : Table) (at : ℕ) (ds : List Written) (d : Written) (t : Sited) → pairs_before table at (ds ++ d ∷ []) t ≡ pairs_before table at ds (Sited.pair at (with_sites table d) t)
pairs_before_push table at [] d t = refl
pairs_before_push table at (e ∷ ds) d t = ap (Sited.pair at (with_sites table e)) (pairs_before_push table at ds d t)

mutual
  pub keeps_sites : KeepsSites
  keeps_sites table (single at a) = refl
  keeps_sites table (list at s inner) = keeps_within table at s [] inner
  keeps_sites table (prefixed at p d) = ap (λ t. Sited.pair at (Sited.name at (symbol_number table (prefix_name p))) (Sited.pair at t (Sited.nil at))) (keeps_sites table d)

  keeps_within : (table : Table) (at : ℕ) (s : Shape) (ds : List Written) (inner : Within) → with_sites table (build_within as_kept at s ds inner) ≡ pairs_before table at ds (within_sites table at inner)
  keeps_within table at s ds (close end) = pairs_before_row table at ds (close 0)
  keeps_within table at s ds (dotted point d end) = pairs_before_row table at ds (dotted 0 (build_datum as_kept d) 0) ∙ ap (pairs_before table at ds) (keeps_sites table d)
  keeps_within table at s ds (element d inner) =
      keeps_within table at s (ds ++ build_datum as_kept d ∷ []) inner
      ∙ pairs_before_push table at ds (build_datum as_kept d) (within_sites table at inner)
      ∙ ap (λ t. pairs_before table at ds (Sited.pair at t (within_sites table at inner))) (keeps_sites table d)

keep_all_sites : (table : Table) (ds : List Written) → map (with_sites table) (map (build_datum as_kept) ds) ≡ map (with_sites table) ds
keep_all_sites table [] = refl
keep_all_sites table (d ∷ ds) = ap (λ x. x ∷ map (with_sites table) (map (build_datum as_kept) ds)) (keeps_sites table d) ∙ ap (λ xs. with_sites table d ∷ xs) (keep_all_sites table ds)

-- the reply speaks of sites alone
abbrev reply_to_sites : Dialect → Table → List Sited → List Sited → Reply
reply_to_sites dialect table library text =
    let m : Meant = text_meaning dialect table library text in
    unless_fault (least (faults_of table library text)) (Reply.accepted table (record { relations = m.relations; goals = map (λ r. r.body) m.relations ++ map (λ q. q.goal) m.queries }) m.queries)

same_reply : (dialect : Dialect) (table : Table) (ls es : List Written) → reply_to_data dialect table (map (build_datum as_kept) ls) (map (build_datum as_kept) es) ≡ reply_to_data dialect table ls es
same_reply dialect table ls es =
    ap (λ xs. reply_to_sites dialect table xs (map (with_sites table) (map (build_datum as_kept) es))) (keep_all_sites table ls)
    ∙ ap (reply_to_sites dialect table (map (with_sites table) ls)) (keep_all_sites table es)

-- data that are read are kept of those that are written
kept_library : (r : Reading Written) (ws : List Written) → map_reading (build_datum as_kept) r ≡ data_are ws → map (build_datum as_kept) (data_of r) ≡ ws
kept_library (data_are ds) ws h = let e : map (build_datum as_kept) ds ≡ ws = cc in e
kept_library (refused f) ws h = absurd cc

kept_reply : (dialect : Dialect) (table : Table) (ls ws : List Written) (r : Reading Written) (answer : Result (List Datum) ReadError) → map (build_datum as_kept) ls ≡ ws → ((ds : List Datum) → answer ≡ Ok ds → map_reading (build_datum as_kept) r ≡ data_are (map (written_form table) ds)) → ((at : ℕ) (why : Refusal) → answer ≡ Err (errors.Fault at why) → map_reading (build_datum as_kept) r ≡ refused (fault at why)) → IsReply (reply_to_reading dialect table ls r) dialect table ws answer
kept_reply dialect table ls ws (data_are es) (Ok ds) l h k =
    let e : map (build_datum as_kept) es ≡ map (written_form table) ds = kept_library (data_are es) (map (written_form table) ds) (h ds refl) in
    sym (same_reply dialect table ls es) ∙ ap (λ xs. reply_to_data dialect table xs (map (build_datum as_kept) es)) l ∙ ap (reply_to_data dialect table ws) e
kept_reply dialect table ls ws (refused f) (Ok ds) l h k =
    let e : map_reading (build_datum as_kept) (refused f) ≡ data_are (map (written_form table) ds) = h ds refl in absurd cc
kept_reply dialect table ls ws (data_are es) (Err (errors.Fault at why)) l h k =
    let e : data_are (map (build_datum as_kept) es) ≡ refused (fault at why) = k at why refl in absurd cc
kept_reply dialect table ls ws (refused f) (Err (errors.Fault at why)) l h k =
    let e : map_reading (build_datum as_kept) (refused f) ≡ refused (fault at why) = k at why refl in
    let same : f ≡ fault at why = cc in ap Reply.refusal same
kept_reply dialect table ls ws r (Err errors.Memory) l h k = tt

read_data : (bytes : List ℕ) (table : Table) (answer : Result (List Datum) ReadError) → Reads bytes table answer → (ds : List Datum) → answer ≡ Ok ds → map_reading (build_datum as_kept) (read_text as_written bytes) ≡ data_are (map (written_form table) ds)
read_data bytes table (Ok es) h ds e = let same : es ≡ ds = cc in sym (keeps_data bytes) ∙ h ∙ ap (λ xs. data_are (map (written_form table) xs)) same
read_data bytes table (Err x) h ds e = absurd cc

read_fault : (bytes : List ℕ) (table : Table) (answer : Result (List Datum) ReadError) → Reads bytes table answer → (at : ℕ) (why : Refusal) → answer ≡ Err (errors.Fault at why) → map_reading (build_datum as_kept) (read_text as_written bytes) ≡ refused (fault at why)
read_fault bytes table (Ok es) h at why e = absurd cc
read_fault bytes table (Err (errors.Fault a n)) h at why e =
    let first : a ≡ at = cc in
    let second : n ≡ why = cc in
    sym (keeps_data bytes) ∙ h ∙ ap (λ x. refused (fault x n)) first ∙ ap (λ x. refused (fault at x)) second
read_fault bytes table (Err errors.Memory) h at why e = absurd cc

pub replies_as_read : RepliesAsRead
unfolding reply
replies_as_read library text dialect ls answer l t =
    let table : Table = text_table library text in
    kept_reply dialect table (data_of (read_text as_written library)) (map (written_form table) ls) (read_text as_written text) answer
    (kept_library (read_text as_written library) (map (written_form table) ls) (read_data library table (Ok ls) l ls refl))
    (read_data text table answer t) (read_fault text table answer t)

-- a library serves as it is kept where it serves as it is written
serves_kept : (table : Table) (ds : List Written) → IsLibrary table ds →
    IsLibrary table (map (build_datum as_kept) ds)
serves_kept table ds serves = record {
  faultless = ap (λ xs. least (faults_of table [] xs)) (keep_all_sites table ds) ∙ serves.faultless;
  runless = λ dialect.
      ap (λ xs. (text_meaning dialect table [] xs).queries) (keep_all_sites table ds)
      ∙ serves.runless dialect;
}

pub kept_serves : (bytes : List ℕ) (table : Table) (ls : List Datum) → Reads bytes table (Ok ls) →
    IsLibrary table (data_of (read_text as_written bytes)) → IsLibrary table (map (written_form table) ls)
kept_serves bytes table ls read serves =
    subst (IsLibrary table)
    (kept_library (read_text as_written bytes) (map (written_form table) ls)
    (read_data bytes table (Ok ls) read ls refl))
    (serves_kept table (data_of (read_text as_written bytes)) serves)
