-- How printing goes on from one piece of work to the next.
use Rattle.std.proofs.Common.{◌≡◌, ℕ, suc, ◌+◌, ◌<◌, ◌≤◌, List, [], ◌∷◌, ◌++◌, length, map, refl, sym, ap, ◌∙◌, arith, append_assoc, append-nil}
use Rattle.std.specs.Prelude.{Option, None, Some, ℤ, pos, negsuc, codes, ◌^◌}
use Rattle.std.specs.Option.{option_map, option_copied}
use Rattle.std.specs.Borrow.{Bor}
use Rattle.kan_grammar.specs.Data.Written.{Written, list, prefixed, dotted, element}
use Rattle.kan_grammar.specs.Data.Words.{round}
use Rattle.kan_grammar.specs.Data.Printed.{named_text, pairs, pairs_within, prefix_name}
use Rattle.std.specs.Fmt.{decimal, signed_decimal}
use lib.Signed.{mag}
use Rattle.kan_model.specs.Answers.Decimals.{decimal_text, number_text}
use Rattle.kan_model.proofs.Answering.DecimalLaws.{decimal_as_printed}
use Rattle.sexpr.specs.Meaning.{prefix_of}
use Rattle.sexpr.specs.WrittenForms.{inner_of, list_of, written_form}
use Rattle.kan_terms.specs.Table.{Table}
use Rattle.sexpr.specs.Printing.{rest_text, within, work_text, works_text, cost, cost_within, work_cost, works_cost}
use Rattle.sexpr.specs.declared.data.Datum.{Datum}
use Rattle.sexpr.specs.declared.data.DatumKind.{DatumKind}
use Rattle.sexpr.specs.declared.data.DatumKind.TheVariants as kinds
use Rattle.sexpr.specs.declared.data.Prefix.{Prefix}
use Rattle.sexpr.specs.declared.printer.Work.{Work}
use Rattle.sexpr.specs.declared.printer.Work.TheVariants as works
use Rattle.sexpr.proofs.WrittenFormLaws.{written_list, written_dotted, written_prefixed}

pub works_text_push : (names : Table) (ws : List Work) (w : Work) → works_text names (ws ++ w ∷ []) ≡ work_text names w ++ works_text names ws
works_text_push names [] w = sym (append-nil (work_text names w))
works_text_push names (x ∷ ws) w = ap (λ t. t ++ work_text names x) (works_text_push names ws w) ∙ append_assoc (work_text names w) (works_text names ws) (work_text names x)

pub works_cost_push : (names : Table) (ws : List Work) (w : Work) → works_cost names (ws ++ w ∷ []) ≡ work_cost names w + works_cost names ws
works_cost_push names [] w = refl
works_cost_push names (x ∷ ws) w = omega (arith, works_cost_push names ws w)

pub pushed_text : (names : Table) (old new : List Work) (w : Work) → new ≡ old ++ w ∷ [] → works_text names new ≡ work_text names w ++ works_text names old
pushed_text names old new w e = ap (works_text names) e ∙ works_text_push names old w

pub pushed_cost : (names : Table) (old new : List Work) (w : Work) → new ≡ old ++ w ∷ [] → works_cost names new ≡ work_cost names w + works_cost names old
pushed_cost names old new w e = ap (works_cost names) e ∙ works_cost_push names old w

inner_cons : (d : Written) (ds : List Written) (last : Option Written) → inner_of (d ∷ ds) last ≡ element d (inner_of ds last)
inner_cons d ds None = refl
inner_cons d ds (Some x) = refl

pub within_cons : (names : Table) (items rest : Bor (List Datum)) (first : Bor Datum) (last : Option (Bor Datum)) → items.now ≡ first.now ∷ rest.now → within names items last ≡ element (written_form names first.now) (within names rest last)
within_cons names items rest first last e = ap (λ ds. inner_of (map (written_form names) ds) (option_map (written_form names) (option_copied last))) e ∙ inner_cons (written_form names first.now) (map (written_form names) rest.now) (option_map (written_form names) (option_copied last))

-- an opening, the first element and the rest with the close
pub opened_text : (t u a b w v : List ℕ) → u ≡ t ++ 40 ∷ [] → v ≡ a ++ (b ++ (41 ∷ [] ++ w)) → u ++ v ≡ t ++ ((((40 ∷ a) ++ b) ++ 41 ∷ []) ++ w)
opened_text t u a b w v e h = rw (e, h) (simp append_assoc)

-- a space, the next element and the rest
pub spaced_text : (t u a b w v : List ℕ) → u ≡ t ++ 32 ∷ [] → v ≡ a ++ (b ++ w) → u ++ v ≡ t ++ (((32 ∷ a) ++ b) ++ w)
spaced_text t u a b w v e h = rw (e, h) (simp append_assoc)

-- a list that begins
pub list_opens : (names : Table) (items rest : Bor (List Datum)) (first : Bor Datum) (last : Option (Bor Datum)) (t u : List ℕ) (ws w1 w2 w3 : List Work) → items.now ≡ first.now ∷ rest.now → u ≡ t ++ 40 ∷ [] → w1 ≡ ws ++ works.Close ∷ [] → w2 ≡ w1 ++ works.Rest rest last ∷ [] → w3 ≡ w2 ++ works.Datum first ∷ [] → u ++ works_text names w3 ≡ t ++ (named_text (pairs_within (within names items last)) ++ works_text names ws)
list_opens names items rest first last t u ws w1 w2 w3 i e e1 e2 e3 =
    let a : List ℕ = named_text (pairs (written_form names first.now)) in
    let b : List ℕ = rest_text (pairs_within (within names rest last)) in
    let v : works_text names w3 ≡ a ++ (b ++ (41 ∷ [] ++ works_text names ws)) = pushed_text names w2 w3 (works.Datum first) e3 ∙ ap (λ x. a ++ x) (pushed_text names w1 w2 (works.Rest rest last) e2 ∙ ap (λ x. b ++ x) (pushed_text names ws w1 works.Close e1)) in
    opened_text t u a b (works_text names ws) (works_text names w3) e v
    ∙ ap (λ n. t ++ (named_text (pairs_within n) ++ works_text names ws)) (sym (within_cons names items rest first last i))

pub list_opens_falls : (names : Table) (items rest : Bor (List Datum)) (first : Bor Datum) (last : Option (Bor Datum)) (ws w1 w2 w3 : List Work) → items.now ≡ first.now ∷ rest.now → w1 ≡ ws ++ works.Close ∷ [] → w2 ≡ w1 ++ works.Rest rest last ∷ [] → w3 ≡ w2 ++ works.Datum first ∷ [] → works_cost names w3 < 3 + cost_within (within names items last) + works_cost names ws
list_opens_falls names items rest first last ws w1 w2 w3 i e1 e2 e3 =
    omega (arith, pushed_cost names w2 w3 (works.Datum first) e3, pushed_cost names w1 w2 (works.Rest rest last) e2, pushed_cost names ws w1 works.Close e1, ap cost_within (within_cons names items rest first last i))

-- a list that goes on
pub list_goes_on : (names : Table) (items rest : Bor (List Datum)) (first : Bor Datum) (last : Option (Bor Datum)) (t u : List ℕ) (ws w1 w2 : List Work) → items.now ≡ first.now ∷ rest.now → u ≡ t ++ 32 ∷ [] → w1 ≡ ws ++ works.Rest rest last ∷ [] → w2 ≡ w1 ++ works.Datum first ∷ [] → u ++ works_text names w2 ≡ t ++ (rest_text (pairs_within (within names items last)) ++ works_text names ws)
list_goes_on names items rest first last t u ws w1 w2 i e e1 e2 =
    let a : List ℕ = named_text (pairs (written_form names first.now)) in
    let b : List ℕ = rest_text (pairs_within (within names rest last)) in
    let v : works_text names w2 ≡ a ++ (b ++ works_text names ws) = pushed_text names w1 w2 (works.Datum first) e2 ∙ ap (λ x. a ++ x) (pushed_text names ws w1 (works.Rest rest last) e1) in
    spaced_text t u a b (works_text names ws) (works_text names w2) e v
    ∙ ap (λ n. t ++ (rest_text (pairs_within n) ++ works_text names ws)) (sym (within_cons names items rest first last i))

pub list_goes_on_falls : (names : Table) (items rest : Bor (List Datum)) (first : Bor Datum) (last : Option (Bor Datum)) (ws w1 w2 : List Work) → items.now ≡ first.now ∷ rest.now → w1 ≡ ws ++ works.Rest rest last ∷ [] → w2 ≡ w1 ++ works.Datum first ∷ [] → works_cost names w2 < 1 + cost_within (within names items last) + works_cost names ws
list_goes_on_falls names items rest first last ws w1 w2 i e1 e2 =
    omega (arith, pushed_cost names w1 w2 (works.Datum first) e2, pushed_cost names ws w1 (works.Rest rest last) e1, ap cost_within (within_cons names items rest first last i))

-- the datum after a dot, behind no elements
no_items : (ds : List Datum) → length ds ≡ 0 → ds ≡ []
no_items [] h = refl
no_items (d ∷ ds) h = absurd (omega arith)

within_last : (names : Table) (items : Bor (List Datum)) (d : Bor Datum) (last : Option (Bor Datum)) → length items.now ≡ 0 → last ≡ Some d → within names items last ≡ dotted 0 (written_form names d.now) 0
within_last names items d last h e = ap (λ ds. inner_of (map (written_form names) ds) (option_map (written_form names) (option_copied last))) (no_items items.now h) ∙ ap (λ (l : Option (Bor Datum)). inner_of [] (option_map (written_form names) (option_copied l))) e

pub last_alone : (names : Table) (items : Bor (List Datum)) (d : Bor Datum) (last : Option (Bor Datum)) (t : List ℕ) (ws w1 : List Work) → length items.now ≡ 0 → last ≡ Some d → w1 ≡ ws ++ works.Datum d ∷ [] → t ++ works_text names w1 ≡ t ++ (named_text (pairs_within (within names items last)) ++ works_text names ws)
last_alone names items d last t ws w1 h e e1 = ap (λ x. t ++ x) (pushed_text names ws w1 (works.Datum d) e1 ∙ ap (λ n. named_text (pairs_within n) ++ works_text names ws) (sym (within_last names items d last h e)))

pub last_alone_falls : (names : Table) (items : Bor (List Datum)) (d : Bor Datum) (last : Option (Bor Datum)) (ws w1 : List Work) → length items.now ≡ 0 → last ≡ Some d → w1 ≡ ws ++ works.Datum d ∷ [] → works_cost names w1 < 3 + cost_within (within names items last) + works_cost names ws
last_alone_falls names items d last ws w1 h e e1 = omega (arith, pushed_cost names ws w1 (works.Datum d) e1, ap cost_within (within_last names items d last h e))

pub last_behind : (names : Table) (items : Bor (List Datum)) (d : Bor Datum) (last : Option (Bor Datum)) (t : List ℕ) (ws w1 : List Work) → length items.now ≡ 0 → last ≡ Some d → w1 ≡ ws ++ works.Tail d ∷ [] → t ++ works_text names w1 ≡ t ++ (rest_text (pairs_within (within names items last)) ++ works_text names ws)
last_behind names items d last t ws w1 h e e1 = ap (λ x. t ++ x) (pushed_text names ws w1 (works.Tail d) e1 ∙ ap (λ n. rest_text (pairs_within n) ++ works_text names ws) (sym (within_last names items d last h e)))

pub last_behind_falls : (names : Table) (items : Bor (List Datum)) (d : Bor Datum) (last : Option (Bor Datum)) (ws w1 : List Work) → length items.now ≡ 0 → last ≡ Some d → w1 ≡ ws ++ works.Tail d ∷ [] → works_cost names w1 < 1 + cost_within (within names items last) + works_cost names ws
last_behind_falls names items d last ws w1 h e e1 = omega (arith, pushed_cost names ws w1 (works.Tail d) e1, ap cost_within (within_last names items d last h e))

-- a datum by its kind
written_of : (names : Table) (d : Datum) (k : DatumKind) → d.kind ≡ k → written_form names d ≡ written_form names (record { at = d.at; kind = k })
written_of names d k e = ap (λ x. written_form names (record { at = d.at; kind = x })) e

prefixed_is : (names : Table) (d : Datum) (q : Prefix) (x : Datum) (inner : Bor Datum) → d.kind ≡ kinds.Prefixed q x → inner.now ≡ x → written_form names d ≡ prefixed d.at (prefix_of q) (written_form names inner.now)
prefixed_is names d q x inner e g = written_of names d (kinds.Prefixed q x) e ∙ written_prefixed names d.at q x ∙ ap (λ y. prefixed d.at (prefix_of q) (written_form names y)) (sym g)

prefix_run : (u u1 u2 n v : List ℕ) → u1 ≡ u ++ n → u2 ≡ u1 ++ 32 ∷ [] → u2 ++ v ≡ u ++ (n ++ (32 ∷ v))
prefix_run u u1 u2 n v e1 e2 = rw (e2, e1) (append_assoc (u ++ n) (32 ∷ []) v ∙ append_assoc u n (32 ∷ v))

opened_prefix : (t u u1 u2 n a w v : List ℕ) → u ≡ t ++ 40 ∷ [] → u1 ≡ u ++ n → u2 ≡ u1 ++ 32 ∷ [] → v ≡ a ++ (41 ∷ [] ++ w) → u2 ++ v ≡ t ++ ((((40 ∷ n) ++ ((32 ∷ a) ++ [])) ++ 41 ∷ []) ++ w)
opened_prefix t u u1 u2 n a w v e e1 e2 h =
    prefix_run u u1 u2 n v e1 e2
    ∙ opened_text t u n ((32 ∷ a) ++ []) w (n ++ (32 ∷ v)) e (ap (λ x. n ++ (32 ∷ x)) (h ∙ ap (λ y. y ++ (41 ∷ [] ++ w)) (sym (append-nil a))))

spaced_prefix : (t u u1 u2 n a w v : List ℕ) → u ≡ t ++ 32 ∷ [] → u1 ≡ u ++ n → u2 ≡ u1 ++ 32 ∷ [] → v ≡ a ++ w → u2 ++ v ≡ t ++ (((32 ∷ n) ++ ((32 ∷ a) ++ [])) ++ w)
spaced_prefix t u u1 u2 n a w v e e1 e2 h =
    prefix_run u u1 u2 n v e1 e2
    ∙ spaced_text t u n ((32 ∷ a) ++ []) w (n ++ (32 ∷ v)) e (ap (λ x. n ++ (32 ∷ x)) (h ∙ ap (λ y. y ++ w) (sym (append-nil a))))

pub prefix_opens : (names : Table) (d : Datum) (q : Prefix) (x : Datum) (inner : Bor Datum) (t u u1 u2 n : List ℕ) (ws w1 w2 : List Work) → d.kind ≡ kinds.Prefixed q x → inner.now ≡ x → n ≡ prefix_name (prefix_of q) → u ≡ t ++ 40 ∷ [] → u1 ≡ u ++ n → u2 ≡ u1 ++ 32 ∷ [] → w1 ≡ ws ++ works.Close ∷ [] → w2 ≡ w1 ++ works.Datum inner ∷ [] → u2 ++ works_text names w2 ≡ t ++ (named_text (pairs (written_form names d)) ++ works_text names ws)
prefix_opens names d q x inner t u u1 u2 n ws w1 w2 k g m e e1 e2 f1 f2 =
    let a : List ℕ = named_text (pairs (written_form names inner.now)) in
    let v : works_text names w2 ≡ a ++ (41 ∷ [] ++ works_text names ws) = pushed_text names w1 w2 (works.Datum inner) f2 ∙ ap (λ y. a ++ y) (pushed_text names ws w1 works.Close f1) in
    opened_prefix t u u1 u2 (prefix_name (prefix_of q)) a (works_text names ws) (works_text names w2) e (e1 ∙ ap (λ y. u ++ y) m) e2 v
    ∙ ap (λ y. t ++ (named_text (pairs y) ++ works_text names ws)) (sym (prefixed_is names d q x inner k g))

pub prefix_opens_falls : (names : Table) (d : Datum) (q : Prefix) (x : Datum) (inner : Bor Datum) (ws w1 w2 : List Work) → d.kind ≡ kinds.Prefixed q x → inner.now ≡ x → w1 ≡ ws ++ works.Close ∷ [] → w2 ≡ w1 ++ works.Datum inner ∷ [] → works_cost names w2 < cost (written_form names d) + works_cost names ws
prefix_opens_falls names d q x inner ws w1 w2 k g f1 f2 =
    omega (arith, pushed_cost names w1 w2 (works.Datum inner) f2, pushed_cost names ws w1 works.Close f1, ap cost (prefixed_is names d q x inner k g))

pub prefix_goes_on : (names : Table) (d : Datum) (q : Prefix) (x : Datum) (inner : Bor Datum) (t u u1 u2 n : List ℕ) (ws w1 : List Work) → d.kind ≡ kinds.Prefixed q x → inner.now ≡ x → n ≡ prefix_name (prefix_of q) → u ≡ t ++ 32 ∷ [] → u1 ≡ u ++ n → u2 ≡ u1 ++ 32 ∷ [] → w1 ≡ ws ++ works.Datum inner ∷ [] → u2 ++ works_text names w1 ≡ t ++ (rest_text (pairs (written_form names d)) ++ works_text names ws)
prefix_goes_on names d q x inner t u u1 u2 n ws w1 k g m e e1 e2 f1 =
    let a : List ℕ = named_text (pairs (written_form names inner.now)) in
    spaced_prefix t u u1 u2 (prefix_name (prefix_of q)) a (works_text names ws) (works_text names w1) e (e1 ∙ ap (λ y. u ++ y) m) e2 (pushed_text names ws w1 (works.Datum inner) f1)
    ∙ ap (λ y. t ++ (rest_text (pairs y) ++ works_text names ws)) (sym (prefixed_is names d q x inner k g))

pub prefix_goes_on_falls : (names : Table) (d : Datum) (q : Prefix) (x : Datum) (inner : Bor Datum) (ws w1 : List Work) → d.kind ≡ kinds.Prefixed q x → inner.now ≡ x → w1 ≡ ws ++ works.Datum inner ∷ [] → works_cost names w1 < 2 + cost (written_form names d) + works_cost names ws
prefix_goes_on_falls names d q x inner ws w1 k g f1 =
    omega (arith, pushed_cost names ws w1 (works.Datum inner) f1, ap cost (prefixed_is names d q x inner k g))

-- a list, by the elements and the last datum that are lent
list_last : (names : Table) (at : ℕ) (ds : List Datum) (last : Option Datum) → written_form names (record { at = at; kind = kinds.List ds last }) ≡ list_of at (map (written_form names) ds) (option_map (written_form names) last)
list_last names at ds None = written_list names at ds
list_last names at ds (Some d) = written_dotted names at ds d

list_is : (names : Table) (d : Datum) (ds : List Datum) (last : Option Datum) (items : Bor (List Datum)) (lent : Option (Bor Datum)) → d.kind ≡ kinds.List ds last → items.now ≡ ds → option_copied lent ≡ last → written_form names d ≡ list d.at round (within names items lent)
list_is names d ds last items lent e i l =
    written_of names d (kinds.List ds last) e ∙ list_last names d.at ds last
    ∙ ap (λ xs. list_of d.at (map (written_form names) xs) (option_map (written_form names) last)) (sym i)
    ∙ ap (λ x. list_of d.at (map (written_form names) items.now) (option_map (written_form names) x)) (sym l)

pub list_tail : (names : Table) (d : Datum) (ds : List Datum) (last : Option Datum) (items : Bor (List Datum)) (lent : Option (Bor Datum)) (t : List ℕ) (ws w1 : List Work) → d.kind ≡ kinds.List ds last → items.now ≡ ds → option_copied lent ≡ last → w1 ≡ ws ++ works.Rest items lent ∷ [] → t ++ works_text names w1 ≡ t ++ (rest_text (pairs (written_form names d)) ++ works_text names ws)
list_tail names d ds last items lent t ws w1 e i l f = ap (λ x. t ++ x) (pushed_text names ws w1 (works.Rest items lent) f ∙ ap (λ y. rest_text (pairs y) ++ works_text names ws) (sym (list_is names d ds last items lent e i l)))

pub list_tail_falls : (names : Table) (d : Datum) (ds : List Datum) (last : Option Datum) (items : Bor (List Datum)) (lent : Option (Bor Datum)) (ws w1 : List Work) → d.kind ≡ kinds.List ds last → items.now ≡ ds → option_copied lent ≡ last → w1 ≡ ws ++ works.Rest items lent ∷ [] → works_cost names w1 < 2 + cost (written_form names d) + works_cost names ws
list_tail_falls names d ds last items lent ws w1 e i l f = omega (arith, pushed_cost names ws w1 (works.Rest items lent) f, ap cost (list_is names d ds last items lent e i l))

-- a number of 128 bits is printed as std prints it
print_small : (n : ℕ) → n ≤ 2 ^ 127 → decimal_text n ≡ decimal n
print_small n h = decimal_as_printed n (omega (arith, h))

pub printed_number : (z : ℤ) → mag z < 2 ^ 127 → number_text z ≡ signed_decimal z
printed_number (pos n) h = print_small n (omega (arith, h))
printed_number (negsuc n) h = ap (λ x. 45 ∷ x) (print_small (suc n) (omega (arith, h)))

pub last_prints : (names : Table) (d : Bor Datum) (t u : List ℕ) (ws w1 : List Work) → rest_text (pairs (written_form names d.now)) ≡ codes " . " ++ named_text (pairs (written_form names d.now)) → u ≡ t ++ codes " . " → w1 ≡ ws ++ works.Datum d ∷ [] → u ++ works_text names w1 ≡ t ++ (rest_text (pairs (written_form names d.now)) ++ works_text names ws)
last_prints names d t u ws w1 h e f =
    let a : List ℕ = named_text (pairs (written_form names d.now)) in
    ap (λ x. x ++ works_text names w1) e
    ∙ append_assoc t (codes " . ") (works_text names w1)
    ∙ ap (λ x. t ++ (codes " . " ++ x)) (pushed_text names ws w1 (works.Datum d) f)
    ∙ ap (λ x. t ++ x) (sym (append_assoc (codes " . ") a (works_text names ws)) ∙ ap (λ x. x ++ works_text names ws) (sym h))

pub last_falls : (names : Table) (d : Bor Datum) (ws w1 : List Work) → w1 ≡ ws ++ works.Datum d ∷ [] → works_cost names w1 < 2 + cost (written_form names d.now) + works_cost names ws
last_falls names d ws w1 f = omega (arith, pushed_cost names ws w1 (works.Datum d) f)

-- a step of the loop
pub work_prints : (names : Table) (t u goal : List ℕ) (all ws new : List Work) (w : Work) → all ≡ ws ++ w ∷ [] → u ++ works_text names new ≡ t ++ (work_text names w ++ works_text names ws) → t ++ works_text names all ≡ goal → u ++ works_text names new ≡ goal
work_prints names t u goal all ws new w e h i = h ∙ ap (λ x. t ++ x) (sym (pushed_text names ws all w e)) ∙ i

pub work_falls : (names : Table) (all ws new : List Work) (w : Work) → all ≡ ws ++ w ∷ [] → works_cost names new < work_cost names w + works_cost names ws → works_cost names new < works_cost names all
work_falls names all ws new w e h = omega (arith, pushed_cost names ws all w e)
