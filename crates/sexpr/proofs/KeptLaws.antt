-- Data as they are kept: made of those as they are written, with the same meaning, and with names for their symbols.
use Rattle.std.proofs.Common.{◌≡◌, ℕ, suc, ◌+◌, Bool, true, false, List, [], ◌∷◌, ◌++◌, map, refl, sym, ap, ◌∙◌}
use Rattle.std.specs.Prelude.{nat_le, nat_lt, ◌&&◌}
use Rattle.std.specs.Str.{is_utf8}
use Rattle.kan_grammar.specs.Data.Words.{Shape}
use Rattle.kan_grammar.specs.Data.Tokens.{tokens}
use Rattle.kan_grammar.specs.Data.Written.{Written, Within, single, list, prefixed, close, dotted, element, is_allowed, are_allowed_within, are_allowed, is_allowed_atom, deepest}
use Rattle.kan_grammar.specs.Data.Enclosing.{row, as_written}
use Rattle.kan_grammar.specs.Data.Faults.{Reading, data_are, refused, read_if, read_text}
use Rattle.kan_grammar.specs.Data.Builds.{build_datum, build_within, map_reading}
use Rattle.kan_grammar.specs.Data.Printed.{Label, Named, pairs, pairs_within, prefix_name}
use Rattle.kan_terms.specs.Tree.{leaf, nil, pair}
use Rattle.kan_grammar.proofs.Data.ReadingLaws.{reads_exactly}
use Rattle.kan_grammar.proofs.Data.CarryLaws.{read_text-map, made_carries}
use Rattle.sexpr.specs.WrittenForms.{written_form, as_kept}
use Rattle.sexpr.specs.Laws.{KeepsData, KeepsMeaning, ReadsNamed, is_named, are_named_within, are_named}

pub keeps_data : KeepsData
keeps_data bytes = read_text-map as_written as_kept (build_datum as_kept) (made_carries as_kept) bytes

-- elements that are made, before the meaning of what else stands in their list
abbrev pairs_before : List Written → Named → Named
pairs_before [] t = t
pairs_before (d ∷ ds) t = pair (pairs d) (pairs_before ds t)

pairs_before_row : (ds : List Written) (inner : Within) → pairs_within (row ds inner) ≡ pairs_before ds (pairs_within inner)
pairs_before_row [] inner = refl
pairs_before_row (d ∷ ds) inner = ap (pair (pairs d)) (pairs_before_row ds inner)

pairs_before_push : (ds : List Written) (d : Written) (t : Named) → pairs_before (ds ++ d ∷ []) t ≡ pairs_before ds (pair (pairs d) t)
pairs_before_push [] d t = refl
pairs_before_push (e ∷ ds) d t = ap (pair (pairs e)) (pairs_before_push ds d t)

mutual
  pub keeps_meaning : KeepsMeaning
  keeps_meaning (single at a) = refl
  keeps_meaning (list at s inner) = keeps_within at s [] inner
  keeps_meaning (prefixed at p d) = ap (λ t. pair (leaf (Label.name (prefix_name p))) (pair t nil)) (keeps_meaning d)

  keeps_within : (at : ℕ) (s : Shape) (ds : List Written) (inner : Within) → pairs (build_within as_kept at s ds inner) ≡ pairs_before ds (pairs_within inner)
  keeps_within at s ds (close end) = pairs_before_row ds (close 0)
  keeps_within at s ds (dotted point d end) = pairs_before_row ds (dotted 0 (build_datum as_kept d) 0) ∙ ap (pairs_before ds) (keeps_meaning d)
  keeps_within at s ds (element d inner) = keeps_within at s (ds ++ build_datum as_kept d ∷ []) inner ∙ pairs_before_push ds (build_datum as_kept d) (pairs_within inner) ∙ ap (λ t. pairs_before ds (pair t (pairs_within inner))) (keeps_meaning d)

-- tests that both hold
both : (a b : Bool) → a ≡ true → b ≡ true → (a && b) ≡ true
both a b h k = rw (h, k) refl

first_of_both : (a b : Bool) → (a && b) ≡ true → a ≡ true
first_of_both true b h = refl
first_of_both false b h = h

second_of_both : (a b : Bool) → (a && b) ≡ true → b ≡ true
second_of_both true b h = h
second_of_both false b h = absurd cc

named_row : (ds : List Written) (inner : Within) → are_named ds ≡ true → are_named_within inner ≡ true → are_named_within (row ds inner) ≡ true
named_row [] inner h k = k
named_row (d ∷ ds) inner h k = both (is_named d) (are_named_within (row ds inner)) (first_of_both (is_named d) (are_named ds) h) (named_row ds inner (second_of_both (is_named d) (are_named ds) h) k)

named_push : (ds : List Written) (d : Written) → are_named ds ≡ true → is_named d ≡ true → are_named (ds ++ d ∷ []) ≡ true
named_push [] d h k = both (is_named d) true k refl
named_push (e ∷ ds) d h k = both (is_named e) (are_named (ds ++ d ∷ [])) (first_of_both (is_named e) (are_named ds) h) (named_push ds d (second_of_both (is_named e) (are_named ds) h) k)

-- what is allowed has names where it is kept
mutual
  named_kept : (limit depth : ℕ) (d : Written) → is_allowed limit depth d ≡ true → is_named (build_datum as_kept d) ≡ true
  named_kept limit depth (single at a) h = second_of_both (nat_le depth limit) (is_allowed_atom a) h
  named_kept limit depth (list at s inner) h = named_within limit depth 0 at s [] inner refl (second_of_both (nat_le depth limit) (are_allowed_within limit depth 0 inner) h)
  named_kept limit depth (prefixed at p d) h = named_kept limit (depth + 2) d (second_of_both (nat_le depth limit) (is_allowed limit (depth + 2) d) h)

  named_within : (limit depth count at : ℕ) (s : Shape) (ds : List Written) (inner : Within) → are_named ds ≡ true → are_allowed_within limit depth count inner ≡ true → is_named (build_within as_kept at s ds inner) ≡ true
  named_within limit depth count at s ds (close end) k h = named_row ds (close 0) k refl
  named_within limit depth count at s ds (dotted point d end) k h = named_row ds (dotted 0 (build_datum as_kept d) 0) k (named_kept limit (depth + count) d (second_of_both (nat_lt 0 count) (is_allowed limit (depth + count) d) h))
  named_within limit depth count at s ds (element d inner) k h =
      named_within limit depth (suc count) at s (ds ++ build_datum as_kept d ∷ []) inner
      (named_push ds (build_datum as_kept d) k (named_kept limit (depth + suc count) d (first_of_both (is_allowed limit (depth + suc count) d) (are_allowed_within limit depth (suc count) inner) h)))
      (second_of_both (is_allowed limit (depth + suc count) d) (are_allowed_within limit depth (suc count) inner) h)

named_all : (limit : ℕ) (ds : List Written) → are_allowed limit ds ≡ true → are_named (map (build_datum as_kept) ds) ≡ true
named_all limit [] h = refl
named_all limit (d ∷ ds) h = both (is_named (build_datum as_kept d)) (are_named (map (build_datum as_kept) ds)) (named_kept limit 0 d (first_of_both (is_allowed limit 0 d) (are_allowed limit ds) h)) (named_all limit ds (second_of_both (is_allowed limit 0 d) (are_allowed limit ds) h))

allowed_text : (bytes : List ℕ) (u : Bool) (es : List Written) → read_if as_written u bytes ≡ data_are es → are_allowed deepest es ≡ true
allowed_text bytes true es h = ((reads_exactly (tokens bytes) es).0 h).1
allowed_text bytes false es h = absurd cc

named_reading : (r : Reading Written) (ds : List Written) → ((es : List Written) → r ≡ data_are es → are_allowed deepest es ≡ true) → map_reading (build_datum as_kept) r ≡ data_are ds → are_named ds ≡ true
named_reading (data_are es) ds allowed h =
    let e : map (build_datum as_kept) es ≡ ds = cc in
    ap are_named (sym e) ∙ named_all deepest es (allowed es refl)
named_reading (refused f) ds allowed h = absurd cc

pub reads_named : ReadsNamed
unfolding read_text
reads_named bytes names ds h = named_reading (read_text as_written bytes) (map (written_form names) ds) (λ es e. allowed_text bytes (is_utf8 bytes) es e) (sym (keeps_data bytes) ∙ h)
