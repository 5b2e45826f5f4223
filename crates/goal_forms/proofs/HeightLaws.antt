-- Templates are at most as many pairs high as the data that they are of, and data of texts at most 2,048.
use Rattle.std.proofs.Common.{◌≡◌, ℕ, zero, suc, ◌+◌, ◌≤◌, max, List, [], ◌∷◌, map, length, refl, sym, ◌∙◌, ap, ap₂, arith, length-append}
use Rattle.std.specs.Prelude.{Bool, true, false, nat_le, nat_lt, ◌&&◌}
use Rattle.std.specs.Str.{is_utf8}
use Rattle.std.specs.List.{list_all}
use Rattle.std.proofs.lemmas.Bool.{and_from, and_parts, leb-true, le-leb}
use Rattle.kan_terms.specs.Tree.{Tree}
use Rattle.kan_terms.specs.Table.{Table}
use Rattle.kan_grammar.specs.Data.Words.{Atom, symbol, string, number, truth, out_of_range, reserved}
use Rattle.kan_grammar.specs.Data.Written.{Written, Within, single, list, prefixed, close, dotted, element, is_allowed, are_allowed_within, are_allowed, is_allowed_atom, deepest}
use Rattle.kan_grammar.specs.Data.Enclosing.{as_written}
use Rattle.kan_grammar.specs.Data.Tokens.{tokens}
use Rattle.kan_grammar.specs.Data.Faults.{Reading, data_are, refused, read_if, read_text}
use Rattle.kan_grammar.specs.Data.Builds.{build_datum, map_reading}
use Rattle.kan_grammar.specs.Data.Printed.{pairs, pairs_within, atom_tree}
use Rattle.kan_grammar.proofs.Data.ReadingLaws.{reads_exactly}
use Rattle.kan_grammar.specs.Texts.Sited.{Sited, with_sites, within_sites, atom_with_site, constant, is_proper}
use Rattle.kan_grammar.specs.Texts.Language.{Word, head_word}
use Rattle.kan_model.specs.Programs.Scope.{height}
use Rattle.kan_grammar.specs.Texts.Binders.{names_of, bound_names, binder}
use Rattle.kan_grammar.specs.Texts.TermForms.{Use, bad_term, quote_form, term_form, cons_form, list_form, quasiquote_form, template_form, unquote_form}
use Rattle.kan_grammar.specs.Texts.ProgramText.{slot_list}
use Rattle.kan_grammar.specs.Texts.Resolved.{Names, template_in}
use Rattle.sexpr.specs.WrittenForms.{as_kept}
use Rattle.sexpr.proofs.KeptLaws.{keeps_data, keeps_meaning}
use Rattle.goal_forms.specs.Heights.{pairs_high, is_low_datum, AreLow}
use Rattle.goal_forms.specs.Parts.{site_at}
use Rattle.goal_forms.specs.Places.{stack_sites}
use Rattle.std.proofs.lemmas.List.Folds.{list_all-append}

-- a constant is as high as its datum
constant_high : (ns : Names) (d : Sited) → height (template_in ns (constant d)) ≡ pairs_high d
constant_high ns (Sited.name at s) = refl
constant_high ns (Sited.text at s) = refl
constant_high ns (Sited.num at n) = refl
constant_high ns (Sited.bool at b) = refl
constant_high ns (Sited.nil at) = refl
constant_high ns (Sited.pair at a d) = ap₂ (λ m n. suc (max m n)) (constant_high ns a) (constant_high ns d)

quoted_high : (ns : Names) (at : ℕ) (d : Sited) → height (template_in ns (quote_form at d)) ≤ pairs_high d
quoted_high ns at (Sited.pair p d (Sited.nil e)) = let same = constant_high ns d in omega (arith, same)
quoted_high ns at d = omega arith

-- a term is at most as high as its datum
mutual
  pub term_high : (t : Table) (ns : Names) (d : Sited) → height (template_in ns (term_form t d)) ≤ pairs_high d
  term_high t ns (Sited.name at s) = omega arith
  term_high t ns (Sited.text at s) = omega arith
  term_high t ns (Sited.num at n) = omega arith
  term_high t ns (Sited.bool at b) = omega arith
  term_high t ns (Sited.nil at) = omega arith
  term_high t ns (Sited.pair at head parts) =
      by_word (head_word t head) (is_proper parts) (quoted_high ns at parts) (cons_high t ns at parts) (list_high t ns parts) (quasiquoted_high t ns at parts)
    where
      by_word : (w : Word) (proper : Bool) → height (template_in ns (quote_form at parts)) ≤ pairs_high parts → height (template_in ns (cons_form t at parts)) ≤ pairs_high parts →
          height (template_in ns (list_form t parts)) ≤ pairs_high parts → height (template_in ns (quasiquote_form t at parts)) ≤ pairs_high parts →
          height (template_in ns (elim w as (λ x. Tree Use) [
            | Word.quote ↦ quote_form at parts
            | Word.cons ↦ cons_form t at parts
            | Word.list ↦ elim proper [ true ↦ list_form t parts | false ↦ bad_term at ]
            | Word.quasiquote ↦ quasiquote_form t at parts
            | _ ↦ bad_term at
          ])) ≤ suc (max (pairs_high head) (pairs_high parts))
      by_word Word.quote proper q c l k = omega (arith, q)
      by_word Word.cons proper q c l k = omega (arith, c)
      by_word Word.list true q c l k = omega (arith, l)
      by_word Word.list false q c l k = omega arith
      by_word Word.quasiquote proper q c l k = omega (arith, k)
      by_word w proper q c l k = omega arith

  cons_high : (t : Table) (ns : Names) (at : ℕ) (d : Sited) → height (template_in ns (cons_form t at d)) ≤ pairs_high d
  cons_high t ns at (Sited.pair p a (Sited.pair q d (Sited.nil e))) =
      let first = term_high t ns a in let second = term_high t ns d in omega (arith, first, second)
  cons_high t ns at d = omega arith

  pub list_high : (t : Table) (ns : Names) (d : Sited) → height (template_in ns (list_form t d)) ≤ pairs_high d
  list_high t ns (Sited.pair p a parts) = let first = term_high t ns a in let others = list_high t ns parts in omega (arith, first, others)
  list_high t ns d = omega arith

  quasiquoted_high : (t : Table) (ns : Names) (at : ℕ) (d : Sited) → height (template_in ns (quasiquote_form t at d)) ≤ pairs_high d
  quasiquoted_high t ns at (Sited.pair p d (Sited.nil e)) = let inner = template_high t ns d in omega (arith, inner)
  quasiquoted_high t ns at d = omega arith

  pub template_high : (t : Table) (ns : Names) (d : Sited) → height (template_in ns (template_form t d)) ≤ pairs_high d
  template_high t ns (Sited.name at s) = omega arith
  template_high t ns (Sited.text at s) = omega arith
  template_high t ns (Sited.num at n) = omega arith
  template_high t ns (Sited.bool at b) = omega arith
  template_high t ns (Sited.nil at) = omega arith
  template_high t ns (Sited.pair at a d) = by_word (head_word t a) (unquoted_high t ns at d) (template_high t ns a) (template_high t ns d)
    where
      by_word : (w : Word) → height (template_in ns (unquote_form t at d)) ≤ pairs_high d → height (template_in ns (template_form t a)) ≤ pairs_high a →
          height (template_in ns (template_form t d)) ≤ pairs_high d →
          height (template_in ns (elim w as (λ x. Tree Use) [
            | Word.unquote ↦ unquote_form t at d
            | Word.quasiquote ↦ bad_term at
            | _ ↦ Tree.pair (template_form t a) (template_form t d)
          ])) ≤ suc (max (pairs_high a) (pairs_high d))
      by_word Word.unquote u p q = omega (arith, u)
      by_word Word.quasiquote u p q = omega arith
      by_word w u p q = omega (arith, p, q)

  unquoted_high : (t : Table) (ns : Names) (at : ℕ) (d : Sited) → height (template_in ns (unquote_form t at d)) ≤ pairs_high d
  unquoted_high t ns at (Sited.pair p u (Sited.nil e)) = let inner = term_high t ns u in omega (arith, inner)
  unquoted_high t ns at d = omega arith

-- a constant is at most as high as its datum
pub constant_low : (ns : Names) (d : Sited) → height (template_in ns (constant d)) ≤ pairs_high d
constant_low ns d = let same = constant_high ns d in omega (arith, same)

-- a list of slots is as high as it is long
pub slots_high : (i : ℕ) (ss : List ℕ) → height (slot_list i ss) ≡ length ss
slots_high i [] = refl
slots_high i (s ∷ ss) = let others = slots_high (suc i) ss in omega (arith, others)

-- the names in a list are at most as many as it is high
pub bound_high : (d : Sited) → length (bound_names d) ≤ pairs_high d
bound_high (Sited.name at s) = omega arith
bound_high (Sited.text at s) = omega arith
bound_high (Sited.num at n) = omega arith
bound_high (Sited.bool at b) = omega arith
bound_high (Sited.nil at) = omega arith
bound_high (Sited.pair at a d) =
    let others = bound_high d in let size = length-append (names_of a) (bound_names d) in let one = one_name a in omega (arith, others, size, one)
  where
    one_name : (a : Sited) → length (names_of a) ≤ 1
    one_name (Sited.name at s) = omega arith
    one_name a = omega arith

-- and those of a binder
pub binder_high : (t : Table) (d : Sited) → length (binder t d).value ≤ pairs_high d
binder_high t d = by_proper (is_proper d) refl
  where
    by_proper : (b : Bool) → is_proper d ≡ b → length (binder t d).value ≤ pairs_high d
    by_proper true e = rw e (bound_high d)
    by_proper false e = rw e (omega arith)

-- a datum as it is written has the height of its pairs
mutual
  pub pairs_same : (t : Table) (d : Written) → pairs_high (with_sites t d) ≡ height (pairs d)
  pairs_same t (single at a) = atom_same a
    where
      atom_same : (a : Atom) → pairs_high (atom_with_site t at a) ≡ height (atom_tree a)
      atom_same (symbol s) = refl
      atom_same (string s) = refl
      atom_same (number n) = refl
      atom_same (truth b) = refl
      atom_same out_of_range = refl
      atom_same reserved = refl
  pairs_same t (list at s inner) = within_same t at inner
  pairs_same t (prefixed at p d) = ap (λ n. suc (max 0 (suc (max n 0)))) (pairs_same t d)

  within_same : (t : Table) (at : ℕ) (inner : Within) → pairs_high (within_sites t at inner) ≡ height (pairs_within inner)
  within_same t at (close end) = refl
  within_same t at (dotted point d end) = pairs_same t d
  within_same t at (element d inner) = ap₂ (λ m n. suc (max m n)) (pairs_same t d) (within_same t at inner)

-- a datum that is allowed at a depth is only so high
mutual
  allowed_high : (limit depth : ℕ) (d : Written) → is_allowed limit depth d ≡ true → depth + height (pairs d) ≤ limit
  allowed_high limit depth (single at a) h = let here = leb-true depth limit (and_parts (nat_le depth limit) (is_allowed_atom a) h).0 in by_atom a here
    where
      by_atom : (a : Atom) → depth ≤ limit → depth + height (atom_tree a) ≤ limit
      by_atom (symbol s) le = omega (arith, le)
      by_atom (string s) le = omega (arith, le)
      by_atom (number n) le = omega (arith, le)
      by_atom (truth b) le = omega (arith, le)
      by_atom out_of_range le = omega (arith, le)
      by_atom reserved le = omega (arith, le)
  allowed_high limit depth (list at s inner) h =
      let both = and_parts (nat_le depth limit) (are_allowed_within limit depth 0 inner) h in
      let here = leb-true depth limit both.0 in
      let all = within_high limit depth 0 inner both.1 (omega (arith, here)) in
      omega (arith, all)
  allowed_high limit depth (prefixed at p d) h =
      let inner = allowed_high limit (depth + 2) d (and_parts (nat_le depth limit) (is_allowed limit (depth + 2) d) h).1 in omega (arith, inner)

  within_high : (limit depth count : ℕ) (inner : Within) → are_allowed_within limit depth count inner ≡ true → depth + count ≤ limit → depth + count + height (pairs_within inner) ≤ limit
  within_high limit depth count (close end) h le = omega (arith, le)
  within_high limit depth count (dotted point d end) h le = allowed_high limit (depth + count) d (and_parts (nat_lt 0 count) (is_allowed limit (depth + count) d) h).1
  within_high limit depth count (element d inner) h le =
      let both = and_parts (is_allowed limit (depth + suc count) d) (are_allowed_within limit depth (suc count) inner) h in
      let first = allowed_high limit (depth + suc count) d both.0 in
      let others = within_high limit depth (suc count) inner both.1 (omega (arith, first)) in
      omega (arith, first, others)

-- data that are allowed are low, as they are kept
kept_low : (t : Table) (es : List Written) → are_allowed deepest es ≡ true → AreLow (map (with_sites t) (map (build_datum as_kept) es))
kept_low t [] h = refl
kept_low t (e ∷ es) h =
    let both = and_parts (is_allowed deepest 0 e) (are_allowed deepest es) h in
    let first = allowed_high deepest 0 e both.0 in
    let same : pairs_high (with_sites t (build_datum as_kept e)) ≡ height (pairs e) = pairs_same t (build_datum as_kept e) ∙ ap height (keeps_meaning e) in
    and_from (is_low_datum (with_sites t (build_datum as_kept e))) (list_all is_low_datum (map (with_sites t) (map (build_datum as_kept) es)))
    (le-leb (pairs_high (with_sites t (build_datum as_kept e))) 2048 (omega (arith, first, same))) (kept_low t es both.1)

allowed_text : (bytes : List ℕ) (u : Bool) (es : List Written) → read_if as_written u bytes ≡ data_are es → are_allowed deepest es ≡ true
allowed_text bytes true es h = ((reads_exactly (tokens bytes) es).0 h).1
allowed_text bytes false es h = absurd cc

reading_low : (t : Table) (r : Reading Written) (ds : List Written) → ((es : List Written) → r ≡ data_are es → are_allowed deepest es ≡ true) → map_reading (build_datum as_kept) r ≡ data_are ds → AreLow (map (with_sites t) ds)
reading_low t (data_are es) ds allowed h =
    let e : map (build_datum as_kept) es ≡ ds = cc in
    ap (λ l. list_all is_low_datum (map (with_sites t) l)) (sym e) ∙ kept_low t es (allowed es refl)
reading_low t (refused f) ds allowed h = absurd cc

-- the data of a text are low
pub text_low : (t : Table) (bytes : List ℕ) (ds : List Written) → read_text as_kept bytes ≡ data_are ds → AreLow (map (with_sites t) ds)
unfolding read_text
text_low t bytes ds h = reading_low t (read_text as_written bytes) ds (λ es e. allowed_text bytes (is_utf8 bytes) es e) (sym (keeps_data bytes) ∙ h)

-- a datum among low ones
pub site_low : (ds : List Sited) (p : ℕ) → AreLow ds → pairs_high (site_at ds p) ≤ 2048
site_low [] p h = omega arith
site_low (d ∷ ds) zero h = leb-true (pairs_high d) 2048 (and_parts (is_low_datum d) (list_all is_low_datum ds) h).0
site_low (d ∷ ds) (suc p) h = site_low ds p (and_parts (is_low_datum d) (list_all is_low_datum ds) h).1

-- the data at places of a table of low ones are low
pub places_low : (ds : List Sited) (ps : List ℕ) → AreLow ds → list_all is_low_datum (stack_sites ds ps) ≡ true
places_low ds [] low = refl
places_low ds (p ∷ ps) low =
    list_all-append is_low_datum (stack_sites ds ps) (site_at ds p ∷ [])
    ∙ and_from (list_all is_low_datum (stack_sites ds ps)) (is_low_datum (site_at ds p) && true) (places_low ds ps low)
    (and_from (is_low_datum (site_at ds p)) true (le-leb (pairs_high (site_at ds p)) 2048 (site_low ds p low)) refl)
