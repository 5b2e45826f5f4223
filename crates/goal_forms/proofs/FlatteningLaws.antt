-- How turning data goes on from one piece of work to the next.
use Rattle.std.proofs.Common.{◌≡◌, ℕ, ◌+◌, ◌<◌, List, [], ◌∷◌, ◌++◌, length, map, reverse, refl, sym, ap, ◌∙◌, arith, Option, Some, None}
use Rattle.std.specs.Option.{option_map, option_copied}
use Rattle.std.specs.Borrow.{Bor}
use Rattle.std.proofs.lemmas.List.{reverse-append}
use Rattle.kan_grammar.specs.Data.Written.{list, prefixed, dotted}
use Rattle.kan_grammar.specs.Data.Words.{round}
use Rattle.kan_grammar.specs.Data.Printed.{prefix_name}
use Rattle.kan_grammar.specs.Texts.Sited.{Sited, with_sites, symbol_number}
use Rattle.sexpr.specs.Meaning.{prefix_of}
use Rattle.kan_terms.specs.Table.{Table}
use Rattle.sexpr.specs.WrittenForms.{inner_of, list_of, written_form}
use Rattle.sexpr.specs.Printing.{within}
use Rattle.sexpr.specs.declared.data.Datum.{Datum}
use Rattle.sexpr.specs.declared.data.DatumKind.{DatumKind}
use Rattle.sexpr.specs.declared.data.DatumKind.TheVariants as kinds
use Rattle.sexpr.specs.declared.data.Prefix.{Prefix}
use Rattle.sexpr.proofs.WrittenFormLaws.{written_list, written_dotted, written_prefixed}
use Rattle.sexpr.proofs.PrintLaws.{within_cons}
use Rattle.goal_forms.specs.Flattening.{finish, datum_size, within_size, work_size, works_size}
use Rattle.goal_forms.specs.declared.flatten.Work.{Work}
use Rattle.goal_forms.specs.declared.flatten.Work.TheVariants as works

works_size-push : (names : Table) (ws : List Work) (w : Work) → works_size names (ws ++ w ∷ []) ≡ work_size names w + works_size names ws
works_size-push names [] w = refl
works_size-push names (x ∷ ws) w = omega (arith, works_size-push names ws w)

pushed_size : (names : Table) (old new : List Work) (w : Work) → new ≡ old ++ w ∷ [] → works_size names new ≡ work_size names w + works_size names old
pushed_size names old new w e = ap (works_size names) e ∙ works_size-push names old w

-- a datum by its kind
written_of : (names : Table) (d : Datum) (k : DatumKind) → d.kind ≡ k → written_form names d ≡ written_form names (record { at = d.at; kind = k })
written_of names d k e = ap (λ x. written_form names (record { at = d.at; kind = x })) e

pub prefixed_is : (names : Table) (d : Datum) (q : Prefix) (x : Datum) (inner : Bor Datum) → d.kind ≡ kinds.Prefixed q x → inner.now ≡ x → written_form names d ≡ prefixed d.at (prefix_of q) (written_form names inner.now)
prefixed_is names d q x inner e g = written_of names d (kinds.Prefixed q x) e ∙ written_prefixed names d.at q x ∙ ap (λ y. prefixed d.at (prefix_of q) (written_form names y)) (sym g)

list_last : (names : Table) (at : ℕ) (ds : List Datum) (last : Option Datum) → written_form names (record { at = at; kind = kinds.List ds last }) ≡ list_of at (map (written_form names) ds) (option_map (written_form names) last)
list_last names at ds None = written_list names at ds
list_last names at ds (Some d) = written_dotted names at ds d

-- a list by what is lent of it
pub list_is : (names : Table) (d : Datum) (ds : List Datum) (last : Option Datum) (items : Bor (List Datum)) (lent : Option (Bor Datum)) → d.kind ≡ kinds.List ds last → items.now ≡ ds → option_copied lent ≡ last →
    written_form names d ≡ list d.at round (within names items lent)
list_is names d ds last items lent e i l =
    written_of names d (kinds.List ds last) e ∙ list_last names d.at ds last
    ∙ ap (λ xs. list_of d.at (map (written_form names) xs) (option_map (written_form names) last)) (sym i)
    ∙ ap (λ x. list_of d.at (map (written_form names) items.now) (option_map (written_form names) x)) (sym l)

pub list_falls : (names : Table) (d : Datum) (ds : List Datum) (last : Option Datum) (items : Bor (List Datum)) (lent : Option (Bor Datum)) (at : ℕ) (ws w1 : List Work) → d.kind ≡ kinds.List ds last → items.now ≡ ds →
    option_copied lent ≡ last → w1 ≡ ws ++ works.Rest items lent at ∷ [] → works_size names w1 < datum_size (written_form names d) + works_size names ws
list_falls names d ds last items lent at ws w1 e i l f =
    omega (arith, pushed_size names ws w1 (works.Rest items lent at) f, ap datum_size (list_is names d ds last items lent e i l))

pub prefixed_falls : (names : Table) (d : Datum) (q : Prefix) (x : Datum) (inner : Bor Datum) (at s : ℕ) (ws w1 w2 : List Work) → d.kind ≡ kinds.Prefixed q x → inner.now ≡ x →
    w1 ≡ ws ++ works.Prefixed at s ∷ [] → w2 ≡ w1 ++ works.Datum inner ∷ [] → works_size names w2 < datum_size (written_form names d) + works_size names ws
prefixed_falls names d q x inner at s ws w1 w2 e g f1 f2 =
    omega (arith, pushed_size names w1 w2 (works.Datum inner) f2, pushed_size names ws w1 (works.Prefixed at s) f1, ap datum_size (prefixed_is names d q x inner e g))

-- a prefixed datum is the list of its symbol and the datum behind it
pub prefixed_finish : (names : Table) (d : Datum) (q : Prefix) (x : Datum) (inner : Bor Datum) (s : ℕ) (made : List Sited) (ws w1 w2 : List Work) → d.kind ≡ kinds.Prefixed q x → inner.now ≡ x →
    symbol_number names (prefix_name (prefix_of q)) ≡ s → w1 ≡ ws ++ works.Prefixed d.at s ∷ [] → w2 ≡ w1 ++ works.Datum inner ∷ [] →
    finish names (reverse w2) made ≡ finish names (reverse ws) (with_sites names (written_form names d) ∷ made)
prefixed_finish names d q x inner s made ws w1 w2 e g numbered f1 f2 =
    let top : reverse w2 ≡ works.Datum inner ∷ works.Prefixed d.at s ∷ reverse ws =
    ap reverse f2 ∙ reverse-append w1 (works.Datum inner ∷ []) ∙ ap (λ l. works.Datum inner ∷ l) (ap reverse f1 ∙ reverse-append ws (works.Prefixed d.at s ∷ [])) in
    let at : ℕ = d.at in
    ap (λ l. finish names l made) top
    ∙ ap (λ n. finish names (reverse ws) (Sited.pair at (Sited.name at n) (Sited.pair at (with_sites names (written_form names inner.now)) (Sited.nil at)) ∷ made)) (sym numbered)
    ∙ ap (λ w. finish names (reverse ws) (with_sites names w ∷ made)) (sym (prefixed_is names d q x inner e g))

pub rest_falls : (names : Table) (items rest : Bor (List Datum)) (first : Bor Datum) (last : Option (Bor Datum)) (at : ℕ) (ws w1 w2 w3 : List Work) → items.now ≡ first.now ∷ rest.now →
    w1 ≡ ws ++ works.Pair at ∷ [] → w2 ≡ w1 ++ works.Rest rest last at ∷ [] → w3 ≡ w2 ++ works.Datum first ∷ [] → works_size names w3 < within_size (within names items last) + works_size names ws
rest_falls names items rest first last at ws w1 w2 w3 i e1 e2 e3 =
    omega (arith, pushed_size names w2 w3 (works.Datum first) e3, pushed_size names w1 w2 (works.Rest rest last at) e2, pushed_size names ws w1 (works.Pair at) e1, ap within_size (within_cons names items rest first last i))

no_items : (ds : List Datum) → length ds ≡ 0 → ds ≡ []
no_items [] h = refl
no_items (d ∷ ds) h = absurd (omega arith)

pub within_last : (names : Table) (items : Bor (List Datum)) (d : Bor Datum) (last : Option (Bor Datum)) → length items.now ≡ 0 → last ≡ Some d → within names items last ≡ dotted 0 (written_form names d.now) 0
within_last names items d last h e =
    ap (λ ds. inner_of (map (written_form names) ds) (option_map (written_form names) (option_copied last))) (no_items items.now h) ∙ ap (λ (l : Option (Bor Datum)). inner_of [] (option_map (written_form names) (option_copied l))) e

pub last_falls : (names : Table) (items : Bor (List Datum)) (d : Bor Datum) (last : Option (Bor Datum)) (ws w1 : List Work) → length items.now ≡ 0 → last ≡ Some d → w1 ≡ ws ++ works.Datum d ∷ [] →
    works_size names w1 < within_size (within names items last) + works_size names ws
last_falls names items d last ws w1 h e f = omega (arith, pushed_size names ws w1 (works.Datum d) f, ap within_size (within_last names items d last h e))

-- the work on top is done
pub work_done : (names : Table) (old popped new : List Work) (w : Work) (before after whole : List Sited) → old ≡ popped ++ w ∷ [] → finish names (reverse new) after ≡ finish names (w ∷ reverse popped) before →
    finish names (reverse old) before ≡ whole → finish names (reverse new) after ≡ whole
work_done names old popped new w before after whole split done kept =
    let top : reverse old ≡ w ∷ reverse popped = ap reverse split ∙ reverse-append popped (w ∷ []) in
    done ∙ sym (ap (λ l. finish names l before) top) ∙ kept

pub work_falls : (names : Table) (old popped new : List Work) (w : Work) → old ≡ popped ++ w ∷ [] → works_size names new < work_size names w + works_size names popped → works_size names new < works_size names old
work_falls names old popped new w split falls = omega (arith, pushed_size names popped old w split)
