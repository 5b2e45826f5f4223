-- The data at the places on a stack.
use Rattle.std.proofs.Common.{◌≡◌, ℕ, suc, ◌<◌, ◌≤◌, List, [], ◌∷◌, ◌++◌, length, refl, sym, ◌∙◌, ap, arith, length-append}
use Rattle.std.specs.Prelude.{true, Some, unwrap_or}
use Rattle.std.proofs.Math.Seq.{get_or-append_seam}
use Rattle.std.proofs.lemmas.Bool.{ltb-true, lt-ltb, and_parts, and_from}
use Rattle.kan_terms.specs.Table.{IsDistinct, name_of, Table}
use Rattle.kan_terms.proofs.TableLaws.{number_of-name_of}
use Rattle.sexpr.specs.WrittenForms.{string_atom, symbol_atom}
use Rattle.kan_grammar.specs.Texts.Sited.{Sited, atom_with_site}
use Rattle.goal_forms.specs.declared.flat_data.Part.TheVariants.{Pair}
use Rattle.goal_forms.specs.PartRows.{is_there}
use Rattle.goal_forms.specs.Parts.{site_at, part_site}
use Rattle.goal_forms.specs.Places.{are_below, stack_sites, pair_of_last_two, prefixed_last}
use Rattle.goal_forms.proofs.PartLaws.{site_at-more}

-- the top of the stack comes first
pub stack_sites-push : (ds : List Sited) (ps : List ℕ) (p : ℕ) → stack_sites ds (ps ++ p ∷ []) ≡ site_at ds p ∷ stack_sites ds ps
stack_sites-push ds [] p = refl
stack_sites-push ds (q ∷ ps) p = ap (λ l. l ++ site_at ds q ∷ []) (stack_sites-push ds ps p)

-- what was made stays as it is among more data
pub stack_sites-more : (ds more : List Sited) (ps : List ℕ) → are_below (length ds) ps ≡ true → stack_sites (ds ++ more) ps ≡ stack_sites ds ps
stack_sites-more ds more [] below = refl
stack_sites-more ds more (p ∷ ps) below =
    let both = and_parts _ _ below in
    ap (λ l. l ++ site_at (ds ++ more) p ∷ []) (stack_sites-more ds more ps both.1) ∙ ap (λ d. stack_sites ds ps ++ d ∷ []) (site_at-more ds more p (ltb-true p (length ds) both.0))

pub below-more : (n m : ℕ) (ps : List ℕ) → n ≤ m → are_below n ps ≡ true → are_below m ps ≡ true
below-more n m [] le below = refl
below-more n m (p ∷ ps) le below =
    let both = and_parts _ _ below in
    let lower : p < n = ltb-true p n both.0 in
    and_from _ _ (lt-ltb p m (omega arith)) (below-more n m ps le both.1)

pub below-push : (n : ℕ) (ps : List ℕ) (p : ℕ) → are_below n ps ≡ true → p < n → are_below n (ps ++ p ∷ []) ≡ true
below-push n [] p below lower = and_from _ _ (lt-ltb p n lower) refl
below-push n (q ∷ ps) p below lower = let both = and_parts _ _ below in and_from _ _ both.0 (below-push n ps p both.1 lower)

-- the places below the top, and the top
pub below-split : (n : ℕ) (ps : List ℕ) (p : ℕ) → are_below n (ps ++ p ∷ []) ≡ true → (are_below n ps ≡ true) × (p < n)
below-split n [] p below = (refl, ltb-true p n (and_parts _ _ below).0)
below-split n (q ∷ ps) p below = let both = and_parts _ _ below in let later = below-split n ps p both.1 in (and_from _ _ both.0 later.0, later.1)

-- a part that is put is the datum made last
pub put_kept : (ds new : List Sited) (ps qs : List ℕ) (d : Sited) → new ≡ ds ++ d ∷ [] → qs ≡ ps ++ length ds ∷ [] → are_below (length ds) ps ≡ true → stack_sites new qs ≡ d ∷ stack_sites ds ps
put_kept ds new ps qs d grown pushed below =
    ap (λ l. stack_sites l qs) grown ∙ ap (stack_sites (ds ++ d ∷ [])) pushed ∙ stack_sites-push (ds ++ d ∷ []) ps (length ds)
    ∙ ap (λ x. x ∷ stack_sites (ds ++ d ∷ []) ps) (get_or-append_seam ds d [] (Sited.nil 0)) ∙ ap (λ l. d ∷ l) (stack_sites-more ds (d ∷ []) ps below)

pub put_below : (ds new : List Sited) (ps qs : List ℕ) (d : Sited) → new ≡ ds ++ d ∷ [] → qs ≡ ps ++ length ds ∷ [] → are_below (length ds) ps ≡ true → are_below (length new) qs ≡ true
put_below ds new ps qs d grown pushed below =
    let size : length new ≡ suc (length ds) = ap length grown ∙ length-append ds (d ∷ []) ∙ omega arith in
    ap (are_below (length new)) pushed ∙ below-push (length new) ps (length ds) (below-more (length ds) (length new) ps (omega arith) below) (omega arith)

-- what is below the top two, and they themselves
pub two_below : (ds : List Sited) (p0 p1 p2 : List ℕ) (a d : ℕ) → p0 ≡ p1 ++ d ∷ [] → p1 ≡ p2 ++ a ∷ [] → are_below (length ds) p0 ≡ true → (are_below (length ds) p2 ≡ true) × (a < length ds) × (d < length ds)
two_below ds p0 p1 p2 a d top next below =
    let outer = below-split (length ds) p1 d (sym (ap (are_below (length ds)) top) ∙ below) in
    let inner = below-split (length ds) p2 a (sym (ap (are_below (length ds)) next) ∙ outer.0) in
    (inner.0, inner.1, outer.1)

-- the two parts on top are there
pub pair_there : (ds : List Sited) (p0 p1 p2 : List ℕ) (a d : ℕ) → p0 ≡ p1 ++ d ∷ [] → p1 ≡ p2 ++ a ∷ [] → are_below (length ds) p0 ≡ true → is_there (length ds) (Pair a d) ≡ true
pair_there ds p0 p1 p2 a d top next below =
    let all = two_below ds p0 p1 p2 a d top next below in
    and_from _ _ (lt-ltb a (length ds) all.1) (lt-ltb d (length ds) all.2)

-- the pair of the two data made last
pub join_made : (at : ℕ) (ds new : List Sited) (p0 p1 p2 qs : List ℕ) (a d : ℕ) → p0 ≡ p1 ++ d ∷ [] → p1 ≡ p2 ++ a ∷ [] → are_below (length ds) p0 ≡ true →
    new ≡ ds ++ part_site ds at (Pair a d) ∷ [] → qs ≡ p2 ++ length ds ∷ [] → stack_sites new qs ≡ pair_of_last_two at (stack_sites ds p0)
join_made at ds new p0 p1 p2 qs a d top next below grown pushed =
    let all = two_below ds p0 p1 p2 a d top next below in
    let tops : stack_sites ds p0 ≡ site_at ds d ∷ site_at ds a ∷ stack_sites ds p2 =
    ap (stack_sites ds) top ∙ stack_sites-push ds p1 d ∙ ap (λ l. site_at ds d ∷ l) (ap (stack_sites ds) next ∙ stack_sites-push ds p2 a) in
    put_kept ds new p2 qs (part_site ds at (Pair a d)) grown pushed all.0 ∙ sym (ap (pair_of_last_two at) tops)

pub join_below : (at : ℕ) (ds new : List Sited) (p0 p1 p2 qs : List ℕ) (a d : ℕ) → p0 ≡ p1 ++ d ∷ [] → p1 ≡ p2 ++ a ∷ [] → are_below (length ds) p0 ≡ true →
    new ≡ ds ++ part_site ds at (Pair a d) ∷ [] → qs ≡ p2 ++ length ds ∷ [] → are_below (length new) qs ≡ true
join_below at ds new p0 p1 p2 qs a d top next below grown pushed =
    put_below ds new p2 qs (part_site ds at (Pair a d)) grown pushed (two_below ds p0 p1 p2 a d top next below).0

-- a symbol that has a name is that of its name, and a string that has a text that of its text
pub symbol_named : (table : Table) (s at : ℕ) (text : List ℕ) → IsDistinct table.symbols → Some text ≡ name_of table.symbols s → Sited.name at s ≡ atom_with_site table at (symbol_atom (name_of table.symbols s))
symbol_named table s at text distinct named =
    let number = number_of-name_of table.symbols text s distinct (sym named) in
    ap (λ n. Sited.name at (unwrap_or n (length table.symbols))) (sym number) ∙ ap (λ n. atom_with_site table at (symbol_atom n)) named

pub string_named : (table : Table) (s at : ℕ) (text : List ℕ) → IsDistinct table.strings → Some text ≡ name_of table.strings s → Sited.text at s ≡ atom_with_site table at (string_atom (name_of table.strings s))
string_named table s at text distinct named =
    let number = number_of-name_of table.strings text s distinct (sym named) in
    ap (λ n. Sited.text at (unwrap_or n (length table.strings))) (sym number) ∙ ap (λ n. atom_with_site table at (string_atom n)) named

-- the datum on top of its symbol is there
pub prefix_below : (d0 d1 : List Sited) (p0 p1 p2 p3 : List ℕ) (d : ℕ) (n : Sited) → p0 ≡ p1 ++ d ∷ [] → are_below (length d0) p0 ≡ true →
    d1 ≡ d0 ++ n ∷ [] → p2 ≡ p1 ++ length d0 ∷ [] → p3 ≡ p2 ++ d ∷ [] → are_below (length d1) p3 ≡ true
prefix_below d0 d1 p0 p1 p2 p3 d n top below named q2 q3 =
    let split = below-split (length d0) p1 d (sym (ap (are_below (length d0)) top) ∙ below) in
    let size : length d1 ≡ suc (length d0) = ap length named ∙ length-append d0 (n ∷ []) ∙ omega arith in
    let b2 = put_below d0 d1 p1 p2 n named q2 split.0 in
    ap (are_below (length d1)) q3 ∙ below-push (length d1) p2 d b2 (omega (arith, split.1))

-- a symbol, the datum below it and an end are put
pub prefix_kept : (at s : ℕ) (d0 d1 d2 : List Sited) (p0 p1 p2 p3 p4 : List ℕ) (d : ℕ) → p0 ≡ p1 ++ d ∷ [] → are_below (length d0) p0 ≡ true →
    d1 ≡ d0 ++ Sited.name at s ∷ [] → p2 ≡ p1 ++ length d0 ∷ [] → p3 ≡ p2 ++ d ∷ [] → d2 ≡ d1 ++ Sited.nil at ∷ [] → p4 ≡ p3 ++ length d1 ∷ [] →
    stack_sites d2 p4 ≡ Sited.nil at ∷ site_at d0 d ∷ Sited.name at s ∷ stack_sites d0 p1
prefix_kept at s d0 d1 d2 p0 p1 p2 p3 p4 d top below named q2 q3 ended q4 =
    let split = below-split (length d0) p1 d (sym (ap (are_below (length d0)) top) ∙ below) in
    let k2 : stack_sites d1 p2 ≡ Sited.name at s ∷ stack_sites d0 p1 = put_kept d0 d1 p1 p2 (Sited.name at s) named q2 split.0 in
    let same : site_at d1 d ≡ site_at d0 d = ap (λ l. site_at l d) named ∙ site_at-more d0 (Sited.name at s ∷ []) d split.1 in
    let k3 : stack_sites d1 p3 ≡ site_at d0 d ∷ Sited.name at s ∷ stack_sites d0 p1 = ap (stack_sites d1) q3 ∙ stack_sites-push d1 p2 d ∙ ap (λ x. x ∷ stack_sites d1 p2) same ∙ ap (λ l. site_at d0 d ∷ l) k2 in
    let b3 = prefix_below d0 d1 p0 p1 p2 p3 d (Sited.name at s) top below named q2 q3 in
    put_kept d1 d2 p3 p4 (Sited.nil at) ended q4 b3 ∙ ap (λ l. Sited.nil at ∷ l) k3

-- the datum is then on top of its symbol
pub prefix_made : (at s : ℕ) (d0 d1 d2 d3 d4 : List Sited) (p0 p1 p2 p3 p4 p5 p6 : List ℕ) (d : ℕ) → p0 ≡ p1 ++ d ∷ [] → are_below (length d0) p0 ≡ true →
    d1 ≡ d0 ++ Sited.name at s ∷ [] → p2 ≡ p1 ++ length d0 ∷ [] → p3 ≡ p2 ++ d ∷ [] → d2 ≡ d1 ++ Sited.nil at ∷ [] → p4 ≡ p3 ++ length d1 ∷ [] →
    stack_sites d3 p5 ≡ pair_of_last_two at (stack_sites d2 p4) → stack_sites d4 p6 ≡ pair_of_last_two at (stack_sites d3 p5) → stack_sites d4 p6 ≡ prefixed_last at s (stack_sites d0 p0)
prefix_made at s d0 d1 d2 d3 d4 p0 p1 p2 p3 p4 p5 p6 d top below named q2 q3 ended q4 inner outer =
    let k4 = prefix_kept at s d0 d1 d2 p0 p1 p2 p3 p4 d top below named q2 q3 ended q4 in
    let k0 : stack_sites d0 p0 ≡ site_at d0 d ∷ stack_sites d0 p1 = ap (stack_sites d0) top ∙ stack_sites-push d0 p1 d in
    outer ∙ ap (pair_of_last_two at) (inner ∙ ap (pair_of_last_two at) k4) ∙ sym (ap (prefixed_last at s) k0)
