-- Tables have at most as many parts as the data that are turned, and data of texts at most four for each byte.
use Rattle.std.proofs.Common.{◌≡◌, ℕ, zero, suc, ◌+◌, ◌*◌, ◌≤◌, ◌<◌, List, [], ◌∷◌, ◌++◌, length, map, take, get_or, refl, sym, ap, ◌∙◌, subst, arith, Option, Some, None}
use Rattle.std.proofs.lemmas.List.{take_more}
use Rattle.std.specs.Option.{option_copied}
use Rattle.std.specs.Borrow.{Bor}
use Rattle.std.specs.Prelude.{Bool, true, false}
use Rattle.std.specs.Str.{is_utf8}
use Rattle.kan_terms.specs.Table.{Table}
use Rattle.kan_grammar.specs.Data.Words.{Atom, symbol, string, number, truth, out_of_range, reserved}
use Rattle.kan_grammar.specs.Data.Words.{Token, opening, closing, prefix, dot, atom, bad_string, bad}
use Rattle.kan_grammar.specs.Data.Tokens.{Placed, placed, tokens}
use Rattle.kan_grammar.specs.Data.Written.{Written, Within, single, prefixed, close, dotted}
use Rattle.kan_grammar.specs.Data.Enclosing.{row, Place, top, in_list, after_dot, after_prefix, Enclosing, awaiting, ended, put}
use Rattle.kan_grammar.specs.Data.Faults.{Fault, refusal, after, Progress, going, stopped, settle, step, run, data_are, finish, beginning, read_tokens, read_if, read_text}
use Rattle.kan_grammar.specs.Texts.Sited.{Sited, with_sites, within_sites}
use Rattle.kan_grammar.proofs.Data.CountLaws.{few_tokens}
use Rattle.sexpr.specs.WrittenForms.{as_kept, list_of, written_form}
use Rattle.sexpr.specs.Printing.{within}
use Rattle.sexpr.specs.declared.data.Datum.{Datum}
use Rattle.sexpr.specs.declared.data.DatumKind.TheVariants as kinds
use Rattle.sexpr.specs.declared.data.Prefix as prefixes
use Rattle.sexpr.proofs.PrintLaws.{within_cons}
use Rattle.goal_forms.specs.Steps.TermSteps.{site_size}
use Rattle.goal_forms.specs.Flattening.{meaning}
use Rattle.goal_forms.specs.Sizes.{parts_in, work_parts, works_parts}
use Rattle.goal_forms.specs.declared.flatten.Work.{Work}
use Rattle.goal_forms.specs.declared.flatten.Work.TheVariants as works
use Rattle.goal_forms.proofs.FlatteningLaws.{list_is, prefixed_is, within_last}

-- each datum has a part
pub some_parts : (d : Sited) → 1 ≤ site_size d
some_parts (Sited.name at s) = omega arith
some_parts (Sited.text at s) = omega arith
some_parts (Sited.num at n) = omega arith
some_parts (Sited.bool at b) = omega arith
some_parts (Sited.nil at) = omega arith
some_parts (Sited.pair at a d) = omega arith

parts-push : (names : Table) (ws : List Work) (w : Work) → works_parts names (ws ++ w ∷ []) ≡ work_parts names w + works_parts names ws
parts-push names [] w = refl
parts-push names (x ∷ ws) w = omega (arith, parts-push names ws w)

pub pushed_parts : (names : Table) (old new : List Work) (w : Work) → new ≡ old ++ w ∷ [] → works_parts names new ≡ work_parts names w + works_parts names old
pushed_parts names old new w e = ap (works_parts names) e ∙ parts-push names old w

-- a datum is turned as the list, or as the prefixed datum, that it is
pub list_parts : (names : Table) (d : Datum) (ds : List Datum) (last : Option Datum) (items : Bor (List Datum)) (lent : Option (Bor Datum)) (ws w1 : List Work) → d.kind ≡ kinds.List ds last → items.now ≡ ds →
    option_copied lent ≡ last → w1 ≡ ws ++ works.Rest items lent d.at ∷ [] → works_parts names w1 ≡ site_size (with_sites names (written_form names d)) + works_parts names ws
list_parts names d ds last items lent ws w1 e i l f =
    pushed_parts names ws w1 (works.Rest items lent d.at) f ∙ ap (λ w. site_size (with_sites names w) + works_parts names ws) (sym (list_is names d ds last items lent e i l))

pub prefixed_parts : (names : Table) (d : Datum) (q : prefixes.Prefix) (x : Datum) (inner : Bor Datum) (at s : ℕ) (ws w1 w2 : List Work) → d.kind ≡ kinds.Prefixed q x → inner.now ≡ x →
    w1 ≡ ws ++ works.Prefixed at s ∷ [] → w2 ≡ w1 ++ works.Datum inner ∷ [] → works_parts names w2 ≤ site_size (with_sites names (written_form names d)) + works_parts names ws
prefixed_parts names d q x inner at s ws w1 w2 e g f1 f2 =
    omega (arith, pushed_parts names w1 w2 (works.Datum inner) f2, pushed_parts names ws w1 (works.Prefixed at s) f1, ap (λ w. site_size (with_sites names w)) (prefixed_is names d q x inner e g))

-- what is left of a list is turned element after element
pub rest_parts : (names : Table) (items rest : Bor (List Datum)) (first : Bor Datum) (last : Option (Bor Datum)) (at : ℕ) (ws w1 w2 w3 : List Work) → items.now ≡ first.now ∷ rest.now →
    w1 ≡ ws ++ works.Pair at ∷ [] → w2 ≡ w1 ++ works.Rest rest last at ∷ [] → w3 ≡ w2 ++ works.Datum first ∷ [] →
    works_parts names w3 ≤ site_size (within_sites names at (within names items last)) + works_parts names ws
rest_parts names items rest first last at ws w1 w2 w3 i e1 e2 e3 =
    omega (
      arith,
      pushed_parts names w2 w3 (works.Datum first) e3,
      pushed_parts names w1 w2 (works.Rest rest last at) e2,
      pushed_parts names ws w1 (works.Pair at) e1,
      ap (λ w. site_size (within_sites names at w)) (within_cons names items rest first last i),
    )

pub last_parts : (names : Table) (items : Bor (List Datum)) (d : Bor Datum) (last : Option (Bor Datum)) (at : ℕ) (ws w1 : List Work) → length items.now ≡ 0 → last ≡ Some d → w1 ≡ ws ++ works.Datum d ∷ [] →
    works_parts names w1 ≤ site_size (within_sites names at (within names items last)) + works_parts names ws
last_parts names items d last at ws w1 h e f = omega (arith, pushed_parts names ws w1 (works.Datum d) f, ap (λ w. site_size (within_sites names at w)) (within_last names items d last h e))

-- with the next datum so many parts more
parts_more : (names : Table) (forms : List Datum) (d : Datum) → parts_in (map (meaning names) (forms ++ d ∷ [])) ≡ parts_in (map (meaning names) forms) + site_size (meaning names d)
parts_more names [] d = omega arith
parts_more names (x ∷ xs) d = omega (arith, parts_more names xs d)

pub next_parts : (names : Table) (forms : List Datum) (i : ℕ) (d : Datum) → i < length forms → d ≡ get_or forms i d →
    parts_in (map (meaning names) (take (i + 1) forms)) ≡ parts_in (map (meaning names) (take i forms)) + site_size (meaning names d)
next_parts names forms i d there item =
    ap (λ l. parts_in (map (meaning names) l)) (take_more forms i d there)
    ∙ parts_more names (take i forms) (get_or forms i d)
    ∙ ap (λ x. parts_in (map (meaning names) (take i forms)) + site_size (meaning names x)) (sym item)

-- and the first ones have no more than all
pub front_parts : (names : Table) (forms : List Datum) (i : ℕ) → parts_in (map (meaning names) (take i forms)) ≤ parts_in (map (meaning names) forms)
front_parts names [] zero = omega arith
front_parts names [] (suc i) = omega arith
front_parts names (x ∷ xs) zero = omega arith
front_parts names (x ∷ xs) (suc i) = omega (arith, front_parts names xs i)

-- the parts of a datum as it is written
abbrev size : Table → Written → ℕ
size t d = site_size (with_sites t d)

-- those of elements, each in a pair of its list, and those of data at the top, each with three more
abbrev in_elements : Table → List Written → ℕ
in_elements t [] = 0
in_elements t (d ∷ ds) = 1 + size t d + in_elements t ds

abbrev at_top : Table → List Written → ℕ
at_top t [] = 0
at_top t (d ∷ ds) = 3 + size t d + at_top t ds

-- those of all that stands before a place, where each opening and each prefix has four
abbrev before_place : Table → Place Written → ℕ
before_place t (top ds) = at_top t ds
before_place t (in_list outer at s ds) = before_place t outer + 4 + in_elements t ds
before_place t (after_dot outer at s e ds point) = before_place t outer + 4 + (1 + size t e + in_elements t ds)
before_place t (after_prefix outer at p) = before_place t outer + 4

abbrev before_all : Table → Enclosing Written → ℕ
before_all t (awaiting p) = before_place t p
before_all t (ended outer at s e ds point d) = before_place t outer + 4 + (1 + size t e + in_elements t ds) + size t d

row_parts : (t : Table) (at : ℕ) (ds : List Written) (inner : Within) → site_size (within_sites t at (row ds inner)) ≡ in_elements t ds + site_size (within_sites t at inner)
row_parts t at [] inner = omega arith
row_parts t at (d ∷ ds) inner = omega (arith, row_parts t at ds inner)

top_adds : (t : Table) (ds : List Written) (d : Written) → at_top t (ds ++ d ∷ []) ≡ at_top t ds + (3 + size t d)
top_adds t [] d = omega arith
top_adds t (x ∷ ds) d = omega (arith, top_adds t ds d)

elements_add : (t : Table) (ds : List Written) (d : Written) → in_elements t (ds ++ d ∷ []) ≡ in_elements t ds + (1 + size t d)
elements_add t [] d = omega arith
elements_add t (x ∷ ds) d = omega (arith, elements_add t ds d)

put_adds : (t : Table) (p : Place Written) (d : Written) → before_all t (put as_kept p d) ≤ 3 + size t d + before_place t p
put_adds t (top ds) d = omega (arith, top_adds t ds d)
put_adds t (in_list outer at s ds) d = omega (arith, elements_add t ds d)
put_adds t (after_dot outer at s e ds point) d = omega arith
put_adds t (after_prefix outer at p) d = omega (arith, put_adds t outer (prefixed at p d))

one_part : (t : Table) (at : ℕ) (a : Atom) → size t (single at a) ≡ 1
one_part t at (symbol s) = refl
one_part t at (string s) = refl
one_part t at (number n) = refl
one_part t at (truth b) = refl
one_part t at out_of_range = refl
one_part t at reserved = refl

after_adds : (t : Table) (o : Enclosing Written) (at : ℕ) (k : Token) → before_all t (after as_kept o at k) ≤ 4 + before_all t o
after_adds t (awaiting p) at (opening s) = omega arith
after_adds t (awaiting p) at (prefix q) = omega arith
after_adds t (awaiting p) at (atom a) = omega (arith, put_adds t p (single at a), one_part t at a)
after_adds t (awaiting (top ds)) at dot = omega arith
after_adds t (awaiting (in_list outer start s [])) at dot = omega arith
after_adds t (awaiting (in_list outer start s (e ∷ ds))) at dot = omega arith
after_adds t (awaiting (after_dot outer start s e ds point)) at dot = omega arith
after_adds t (awaiting (after_prefix outer start p)) at dot = omega arith
after_adds t (awaiting (top ds)) at (closing r) = omega arith
after_adds t (awaiting (in_list outer start s ds)) at (closing r) =
    omega (arith, put_adds t outer (list_of start ds None), row_parts t start ds (close 0))
after_adds t (awaiting (after_dot outer start s e ds point)) at (closing r) = omega arith
after_adds t (awaiting (after_prefix outer start p)) at (closing r) = omega arith
after_adds t (awaiting p) at bad_string = omega arith
after_adds t (awaiting p) at bad = omega arith
after_adds t (ended outer start s e ds point d) at (closing r) =
    omega (arith, put_adds t outer (list_of start (e ∷ ds) (Some d)), row_parts t start ds (dotted 0 d 0))
after_adds t (ended outer start s e ds point d) at (opening r) = omega arith
after_adds t (ended outer start s e ds point d) at (prefix q) = omega arith
after_adds t (ended outer start s e ds point d) at (atom a) = omega arith
after_adds t (ended outer start s e ds point d) at dot = omega arith
after_adds t (ended outer start s e ds point d) at bad_string = omega arith
after_adds t (ended outer start s e ds point d) at bad = omega arith

abbrev so_far : Table → Progress Written → ℕ
so_far t (going o) = before_all t o
so_far t (stopped f) = 0

settle_adds : (t : Table) (f : Option Fault) (o : Enclosing Written) (most : ℕ) → before_all t o ≤ most → so_far t (settle f o) ≤ most
settle_adds t None o most few = few
settle_adds t (Some f) o most few = omega arith

step_adds : (t : Table) (s : Progress Written) (k : Placed) → so_far t (step as_kept s k) ≤ 4 + so_far t s
step_adds t (going o) (placed at k) = settle_adds t (refusal o at k) (after as_kept o at k) (4 + before_all t o) (after_adds t o at k)
step_adds t (stopped f) k = omega arith

run_adds : (t : Table) (s : Progress Written) (ks : List Placed) → so_far t (run as_kept s ks) ≤ so_far t s + 4 * length ks
unfolding run
run_adds t s [] = omega arith
run_adds t s (k ∷ ks) = omega (arith, step_adds t s k, run_adds t (step as_kept s k) ks)

finished : (t : Table) (s : Progress Written) (ds : List Written) (most : ℕ) → so_far t s ≤ most → finish s ≡ data_are ds → at_top t ds ≤ most
finished t (going (awaiting (top es))) ds most few e = let same : es ≡ ds = cc in subst (λ xs. at_top t xs ≤ most) same few
finished t (going (awaiting (in_list outer at s es))) ds most few e = absurd cc
finished t (going (awaiting (after_dot outer at s x es point))) ds most few e = absurd cc
finished t (going (awaiting (after_prefix outer at p))) ds most few e = absurd cc
finished t (going (ended outer at s x es point d)) ds most few e = absurd cc
finished t (stopped f) ds most few e = absurd cc

tokens_parts : (t : Table) (ks : List Placed) (ds : List Written) → read_tokens as_kept ks ≡ data_are ds → at_top t ds ≤ 4 * length ks
unfolding read_tokens
tokens_parts t ks ds e = finished t (run as_kept beginning ks) ds (4 * length ks) (omega (arith, run_adds t beginning ks)) e

if_parts : (t : Table) (valid : Bool) (bytes : List ℕ) (ds : List Written) → read_if as_kept valid bytes ≡ data_are ds → at_top t ds ≤ 4 * length bytes
if_parts t true bytes ds e = omega (arith, tokens_parts t (tokens bytes) ds e, few_tokens bytes)
if_parts t false bytes ds e = absurd cc

top_parts : (t : Table) (ds : List Written) → at_top t ds ≡ parts_in (map (with_sites t) ds) + 3 * length ds
top_parts t [] = refl
top_parts t (d ∷ ds) = omega (arith, top_parts t ds)

-- data of a text have at most four parts for each byte, and three more for each datum
pub text_parts : (t : Table) (bytes : List ℕ) (ds : List Written) → read_text as_kept bytes ≡ data_are ds → parts_in (map (with_sites t) ds) + 3 * length ds ≤ 4 * length bytes
unfolding read_text
text_parts t bytes ds e = omega (arith, top_parts t ds, if_parts t (is_utf8 bytes) bytes ds e)
