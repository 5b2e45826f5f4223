-- The data that are made while data are turned are low where those are.
use Rattle.std.proofs.Common.{◌≡◌, ℕ, zero, suc, ◌+◌, ◌<◌, max, List, [], ◌∷◌, ◌++◌, length, map, take, get_or, reverse, refl, sym, ap, ◌∙◌, arith, Option}
use Rattle.std.specs.Prelude.{true, ◌&&◌}
use Rattle.std.specs.List.{list_all}
use Rattle.std.specs.Option.{option_copied}
use Rattle.std.specs.Borrow.{Bor}
use Rattle.std.proofs.lemmas.Bool.{and_from, and_parts, leb-true, le-leb}
use Rattle.std.proofs.lemmas.List.{reverse-append, map-append, take_more}
use Rattle.std.proofs.lemmas.List.Folds.{list_all-append}
use Rattle.kan_grammar.specs.Data.Printed.{prefix_name}
use Rattle.kan_grammar.specs.Texts.Sited.{Sited, with_sites, within_sites, symbol_number}
use Rattle.sexpr.specs.Meaning.{prefix_of}
use Rattle.kan_terms.specs.Table.{Table}
use Rattle.sexpr.specs.WrittenForms.{written_form}
use Rattle.sexpr.specs.Printing.{within}
use Rattle.sexpr.specs.declared.data.Datum.{Datum}
use Rattle.sexpr.specs.declared.data.DatumKind.TheVariants as kinds
use Rattle.sexpr.specs.declared.data.Prefix.{Prefix}
use Rattle.sexpr.proofs.PrintLaws.{within_cons}
use Rattle.goal_forms.specs.Heights.{pairs_high, is_low_datum, AreLow}
use Rattle.goal_forms.specs.Parts.{site_at, part_site}
use Rattle.goal_forms.specs.Places.{stack_sites, pair_of_last_two, prefixed_last, are_below}
use Rattle.goal_forms.specs.FlatHeights.{all_low, WorksLow}
use Rattle.goal_forms.specs.Flattening.{meaning}
use Rattle.goal_forms.specs.declared.flat_data.Part.TheVariants.{Pair}
use Rattle.goal_forms.specs.declared.flatten.Work.{Work}
use Rattle.goal_forms.specs.declared.flatten.Work.TheVariants as works
use Rattle.goal_forms.proofs.PlaceLaws.{stack_sites-push, prefix_kept}
use Rattle.goal_forms.proofs.FlatteningLaws.{list_is, prefixed_is}

-- a pair is low where its parts are, and those are where it is
pub pair_parts_low : (at : ℕ) (a d : Sited) → is_low_datum (Sited.pair at a d) ≡ true → (is_low_datum a ≡ true) × (is_low_datum d ≡ true)
pair_parts_low at a d h =
    let most = leb-true (suc (max (pairs_high a) (pairs_high d))) 2048 h in
    (le-leb (pairs_high a) 2048 (omega (arith, most)), le-leb (pairs_high d) 2048 (omega (arith, most)))

-- a low datum more
pub put_low : (ds new : List Sited) (d : Sited) → new ≡ ds ++ d ∷ [] → is_low_datum d ≡ true → AreLow ds → AreLow new
put_low ds new d grown low there = ap (list_all is_low_datum) grown ∙ list_all-append is_low_datum ds (d ∷ []) ∙ and_from (list_all is_low_datum ds) (is_low_datum d && true) there (and_from (is_low_datum d) true low refl)

-- the pair of the two data made last
pub join_low : (at : ℕ) (ds new : List Sited) (p0 p1 p2 : List ℕ) (a d : ℕ) → p0 ≡ p1 ++ d ∷ [] → p1 ≡ p2 ++ a ∷ [] → new ≡ ds ++ part_site ds at (Pair a d) ∷ [] →
    list_all is_low_datum (pair_of_last_two at (stack_sites ds p0)) ≡ true → AreLow ds → AreLow new
join_low at ds new p0 p1 p2 a d top next grown low there =
    let tops : stack_sites ds p0 ≡ site_at ds d ∷ site_at ds a ∷ stack_sites ds p2 =
    ap (stack_sites ds) top ∙ stack_sites-push ds p1 d ∙ ap (λ l. site_at ds d ∷ l) (ap (stack_sites ds) next ∙ stack_sites-push ds p2 a) in
    let made : list_all is_low_datum (Sited.pair at (site_at ds a) (site_at ds d) ∷ stack_sites ds p2) ≡ true = sym (ap (λ l. list_all is_low_datum (pair_of_last_two at l)) tops) ∙ low in
    put_low ds new (part_site ds at (Pair a d)) grown (and_parts (is_low_datum (Sited.pair at (site_at ds a) (site_at ds d))) (list_all is_low_datum (stack_sites ds p2)) made).0 there

-- the list of a symbol and the datum made last
pub prefix_low : (at s : ℕ) (d0 d1 d2 d3 d4 : List Sited) (p0 p1 p2 p3 p4 p5 : List ℕ) (d : ℕ) → p0 ≡ p1 ++ d ∷ [] → are_below (length d0) p0 ≡ true →
    d1 ≡ d0 ++ Sited.name at s ∷ [] → p2 ≡ p1 ++ length d0 ∷ [] → p3 ≡ p2 ++ d ∷ [] → d2 ≡ d1 ++ Sited.nil at ∷ [] → p4 ≡ p3 ++ length d1 ∷ [] →
    stack_sites d3 p5 ≡ pair_of_last_two at (stack_sites d2 p4) → (list_all is_low_datum (pair_of_last_two at (stack_sites d2 p4)) ≡ true → AreLow d2 → AreLow d3) →
    (list_all is_low_datum (pair_of_last_two at (stack_sites d3 p5)) ≡ true → AreLow d3 → AreLow d4) →
    list_all is_low_datum (prefixed_last at s (stack_sites d0 p0)) ≡ true → AreLow d0 → AreLow d4
prefix_low at s d0 d1 d2 d3 d4 p0 p1 p2 p3 p4 p5 d top below named q2 q3 ended q4 inner first second low there =
    let inside : Sited = Sited.pair at (site_at d0 d) (Sited.nil at) in
    let whole : Sited = Sited.pair at (Sited.name at s) inside in
    let k0 : stack_sites d0 p0 ≡ site_at d0 d ∷ stack_sites d0 p1 = ap (stack_sites d0) top ∙ stack_sites-push d0 p1 d in
    let k4 = prefix_kept at s d0 d1 d2 p0 p1 p2 p3 p4 d top below named q2 q3 ended q4 in
    let made : list_all is_low_datum (whole ∷ stack_sites d0 p1) ≡ true = sym (ap (λ l. list_all is_low_datum (prefixed_last at s l)) k0) ∙ low in
    let both = and_parts (is_low_datum whole) (list_all is_low_datum (stack_sites d0 p1)) made in
    let parts_low = pair_parts_low at (Sited.name at s) inside both.0 in
    let there1 = put_low d0 d1 (Sited.name at s) named refl there in
    let there2 = put_low d1 d2 (Sited.nil at) ended refl there1 in
    let low2 : list_all is_low_datum (pair_of_last_two at (stack_sites d2 p4)) ≡ true =
    ap (λ l. list_all is_low_datum (pair_of_last_two at l)) k4 ∙ and_from (is_low_datum inside) (list_all is_low_datum (Sited.name at s ∷ stack_sites d0 p1)) parts_low.1 (and_from (is_low_datum (Sited.name at s)) (list_all is_low_datum (stack_sites d0 p1)) refl both.1) in
    let low3 : list_all is_low_datum (pair_of_last_two at (stack_sites d3 p5)) ≡ true = ap (λ l. list_all is_low_datum (pair_of_last_two at l)) (inner ∙ ap (pair_of_last_two at) k4) ∙ made in
    second low3 (first low2 there2)

-- what is made already is low
made_low : (names : Table) (ws : List Work) (made : List Sited) → all_low names ws made ≡ true → list_all is_low_datum made ≡ true
made_low names [] made h = h
made_low names (works.Datum d ∷ ws) made h = (and_parts (is_low_datum (with_sites names (written_form names d.now))) (list_all is_low_datum made) (made_low names ws (with_sites names (written_form names d.now) ∷ made) h)).1
made_low names (works.Rest items last at ∷ ws) made h =
    (and_parts (is_low_datum (within_sites names at (within names items last))) (list_all is_low_datum made) (made_low names ws (within_sites names at (within names items last) ∷ made) h)).1
made_low names (works.Pair at ∷ ws) made h = (and_parts (list_all is_low_datum made) (all_low names ws (pair_of_last_two at made)) h).0
made_low names (works.Prefixed at s ∷ ws) made h = (and_parts (list_all is_low_datum made) (all_low names ws (prefixed_last at s made)) h).0

-- a list is low as far as what is left of it
pub list_low : (names : Table) (d : Datum) (xs : List Datum) (last : Option Datum) (items : Bor (List Datum)) (lent : Option (Bor Datum)) (ws w1 : List Work) (ds : List Sited) (places : List ℕ) →
    d.kind ≡ kinds.List xs last → items.now ≡ xs → option_copied lent ≡ last → w1 ≡ ws ++ works.Rest items lent d.at ∷ [] →
    (all_low names (reverse ws) (with_sites names (written_form names d) ∷ stack_sites ds places) ≡ true) → AreLow ds → WorksLow names (reverse w1) ds places
list_low names d xs last items lent ws w1 ds places e i l pushed left there = record {
  left = ap (λ v. all_low names v (stack_sites ds places)) (ap reverse pushed ∙ reverse-append ws (works.Rest items lent d.at ∷ []))
      ∙ sym (ap (λ w. all_low names (reverse ws) (with_sites names w ∷ stack_sites ds places)) (list_is names d xs last items lent e i l)) ∙ left;
  there = there;
}

-- so is a prefixed datum as far as its part
pub prefixed_low : (names : Table) (d : Datum) (q : Prefix) (x : Datum) (inner : Bor Datum) (s : ℕ) (ws w1 w2 : List Work) (ds : List Sited) (places : List ℕ) → d.kind ≡ kinds.Prefixed q x → inner.now ≡ x →
    symbol_number names (prefix_name (prefix_of q)) ≡ s → w1 ≡ ws ++ works.Prefixed d.at s ∷ [] → w2 ≡ w1 ++ works.Datum inner ∷ [] →
    (all_low names (reverse ws) (with_sites names (written_form names d) ∷ stack_sites ds places) ≡ true) → AreLow ds → WorksLow names (reverse w2) ds places
prefixed_low names d q x inner s ws w1 w2 ds places e g numbered f1 f2 left there =
    let top : reverse w2 ≡ works.Datum inner ∷ works.Prefixed d.at s ∷ reverse ws =
    ap reverse f2 ∙ reverse-append w1 (works.Datum inner ∷ []) ∙ ap (λ l. works.Datum inner ∷ l) (ap reverse f1 ∙ reverse-append ws (works.Prefixed d.at s ∷ [])) in
    let at : ℕ = d.at in
    let made = stack_sites ds places in
    let datum = with_sites names (written_form names inner.now) in
    let inside : Sited = Sited.pair at datum (Sited.nil at) in
    let whole : Sited = Sited.pair at (Sited.name at s) inside in
    let all : all_low names (reverse ws) (whole ∷ made) ≡ true =
    ap (λ n. all_low names (reverse ws) (Sited.pair at (Sited.name at n) inside ∷ made)) (sym numbered)
    ∙ sym (ap (λ w. all_low names (reverse ws) (with_sites names w ∷ made)) (prefixed_is names d q x inner e g)) ∙ left in
    let both = and_parts (is_low_datum whole) (list_all is_low_datum made) (made_low names (reverse ws) (whole ∷ made) all) in
    let datum_low = (pair_parts_low at datum (Sited.nil at) (pair_parts_low at (Sited.name at s) inside both.0).1).0 in
    record {
      left = ap (λ v. all_low names v made) top
          ∙ and_from (list_all is_low_datum (datum ∷ made)) (all_low names (reverse ws) (whole ∷ made)) (and_from (is_low_datum datum) (list_all is_low_datum made) datum_low both.1) all;
      there = there;
    }

-- and what is left of a list as far as its first element and the others
pub rest_low : (names : Table) (items rest : Bor (List Datum)) (first : Bor Datum) (last : Option (Bor Datum)) (at : ℕ) (ws w1 w2 w3 : List Work) (ds : List Sited) (places : List ℕ) → items.now ≡ first.now ∷ rest.now →
    w1 ≡ ws ++ works.Pair at ∷ [] → w2 ≡ w1 ++ works.Rest rest last at ∷ [] → w3 ≡ w2 ++ works.Datum first ∷ [] →
    (all_low names (reverse ws) (within_sites names at (within names items last) ∷ stack_sites ds places) ≡ true) → AreLow ds → WorksLow names (reverse w3) ds places
rest_low names items rest first last at ws w1 w2 w3 ds places i e1 e2 e3 left there =
    let top : reverse w3 ≡ works.Datum first ∷ works.Rest rest last at ∷ works.Pair at ∷ reverse ws =
    ap reverse e3 ∙ reverse-append w2 (works.Datum first ∷ [])
    ∙ ap (λ l. works.Datum first ∷ l) (ap reverse e2 ∙ reverse-append w1 (works.Rest rest last at ∷ []) ∙ ap (λ l. works.Rest rest last at ∷ l) (ap reverse e1 ∙ reverse-append ws (works.Pair at ∷ []))) in
    let made = stack_sites ds places in
    let datum = with_sites names (written_form names first.now) in
    let others = within_sites names at (within names rest last) in
    let whole : Sited = Sited.pair at datum others in
    let all : all_low names (reverse ws) (whole ∷ made) ≡ true =
    sym (ap (λ w. all_low names (reverse ws) (within_sites names at w ∷ made)) (within_cons names items rest first last i)) ∙ left in
    let both = and_parts (is_low_datum whole) (list_all is_low_datum made) (made_low names (reverse ws) (whole ∷ made) all) in
    let parts_low = pair_parts_low at datum others both.0 in
    record {
      left = ap (λ v. all_low names v made) top
          ∙ and_from (list_all is_low_datum (others ∷ datum ∷ made)) (all_low names (reverse ws) (whole ∷ made))
          (and_from (is_low_datum others) (list_all is_low_datum (datum ∷ made)) parts_low.1 (and_from (is_low_datum datum) (list_all is_low_datum made) parts_low.0 both.1)) all;
      there = there;
    }

-- what was joined
pub joined_low : (names : Table) (at : ℕ) (ws : List Work) (d0 d1 : List Sited) (p0 p1 : List ℕ) → stack_sites d1 p1 ≡ pair_of_last_two at (stack_sites d0 p0) → (list_all is_low_datum (pair_of_last_two at (stack_sites d0 p0)) ≡ true → AreLow d0 → AreLow d1) →
    WorksLow names (works.Pair at ∷ ws) d0 p0 → WorksLow names ws d1 p1
joined_low names at ws d0 d1 p0 p1 made low works_low =
    let all = (and_parts (list_all is_low_datum (stack_sites d0 p0)) (all_low names ws (pair_of_last_two at (stack_sites d0 p0))) works_low.left).1 in
    record { left = ap (all_low names ws) made ∙ all; there = low (made_low names ws (pair_of_last_two at (stack_sites d0 p0)) all) works_low.there }

pub prefixed_joined_low : (names : Table) (at s : ℕ) (ws : List Work) (d0 d1 : List Sited) (p0 p1 : List ℕ) → stack_sites d1 p1 ≡ prefixed_last at s (stack_sites d0 p0) →
    (list_all is_low_datum (prefixed_last at s (stack_sites d0 p0)) ≡ true → AreLow d0 → AreLow d1) → WorksLow names (works.Prefixed at s ∷ ws) d0 p0 → WorksLow names ws d1 p1
prefixed_joined_low names at s ws d0 d1 p0 p1 made low works_low =
    let all = (and_parts (list_all is_low_datum (stack_sites d0 p0)) (all_low names ws (prefixed_last at s (stack_sites d0 p0))) works_low.left).1 in
    record { left = ap (all_low names ws) made ∙ all; there = low (made_low names ws (prefixed_last at s (stack_sites d0 p0)) all) works_low.there }

-- the work on top is done
pub work_low : (names : Table) (old popped new : List Work) (w : Work) (d0 d1 : List Sited) (p0 p1 : List ℕ) → old ≡ popped ++ w ∷ [] →
    (WorksLow names (w ∷ reverse popped) d0 p0 → WorksLow names (reverse new) d1 p1) → WorksLow names (reverse old) d0 p0 → WorksLow names (reverse new) d1 p1
work_low names old popped new w d0 d1 p0 p1 split done low =
    let top : reverse old ≡ w ∷ reverse popped = ap reverse split ∙ reverse-append popped (w ∷ []) in
    done (rw top at low)

-- one of low data
datum_low : (names : Table) (forms : List Datum) (i : ℕ) (d : Datum) → AreLow (map (meaning names) forms) → i < length forms → is_low_datum (meaning names (get_or forms i d)) ≡ true
datum_low names [] i d low within = absurd (omega arith)
datum_low names (x ∷ forms) zero d low within = (and_parts (is_low_datum (meaning names x)) (list_all is_low_datum (map (meaning names) forms)) low).0
datum_low names (x ∷ forms) (suc i) d low within = datum_low names forms i d (and_parts (is_low_datum (meaning names x)) (list_all is_low_datum (map (meaning names) forms)) low).1 (omega arith)

-- one datum more is turned
pub next_low : (names : Table) (forms : List Datum) (i : ℕ) (d : Datum) (made after d0 d1 : List Sited) → i < length forms → d ≡ get_or forms i d → after ≡ meaning names d ∷ made →
    (is_low_datum (meaning names d) ≡ true → list_all is_low_datum made ≡ true → AreLow d0 → AreLow d1) → AreLow (map (meaning names) forms) →
    (list_all is_low_datum made ≡ true) × AreLow d0 → (list_all is_low_datum after ≡ true) × AreLow d1
next_low names forms i d made after d0 d1 within item put low all before =
    let one : is_low_datum (meaning names d) ≡ true = ap (λ x. is_low_datum (meaning names x)) item ∙ datum_low names forms i d all within in
    (ap (list_all is_low_datum) put ∙ and_from (is_low_datum (meaning names d)) (list_all is_low_datum made) one before.0, low one before.0 before.1)

pub next_made : (names : Table) (forms : List Datum) (i : ℕ) (d : Datum) (old made after : List Sited) → i < length forms → d ≡ get_or forms i d → after ≡ meaning names d ∷ made →
    made ≡ reverse (map (meaning names) (take i forms)) ++ old → after ≡ reverse (map (meaning names) (take (i + 1) forms)) ++ old
next_made names forms i d old made after within item put before =
    let m = meaning names in
    put ∙ ap (λ l. m d ∷ l) before
    ∙ ap (λ x. m x ∷ (reverse (map m (take i forms)) ++ old)) item
    ∙ ap (λ l. l ++ old) (sym (reverse-append (map m (take i forms)) (m (get_or forms i d) ∷ [])))
    ∙ ap (λ l. reverse l ++ old) (sym (map-append m (take i forms) (get_or forms i d ∷ [])))
    ∙ ap (λ l. reverse (map m l) ++ old) (sym (take_more forms i d within))
