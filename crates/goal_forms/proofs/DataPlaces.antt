-- The places of data in their table.
use Rattle.std.proofs.Common.{◌≡◌, ℕ, ◌+◌, List, [], ◌∷◌, ◌++◌, length, map, take, drop, reverse, refl, sym, ◌∙◌, ap, ap₂, arith, append-nil, length-append}
use Rattle.std.proofs.lemmas.List.{reverse-append, reverse-reverse, length-map}
use Rattle.kan_terms.specs.Table.{Table}
use Rattle.kan_grammar.specs.Texts.Sited.{Sited, with_sites}
use Rattle.sexpr.specs.WrittenForms.{written_form}
use Rattle.sexpr.specs.declared.data.Datum.{Datum}
use Rattle.goal_forms.specs.Parts.{site_at}
use Rattle.goal_forms.specs.Places.{stack_sites}
use Rattle.goal_forms.specs.Flattening.{meaning}

stack_sites-reverse : (ds : List Sited) (ps : List ℕ) → stack_sites ds ps ≡ reverse (map (site_at ds) ps)
stack_sites-reverse ds [] = refl
stack_sites-reverse ds (p ∷ ps) = ap (λ l. l ++ site_at ds p ∷ []) (stack_sites-reverse ds ps) ∙ sym (reverse-append (site_at ds p ∷ []) (map (site_at ds) ps))

-- what was made of two lists of data, the later on top
pub both_made : (ds : List Sited) (ps : List ℕ) (before : List Sited) (first later : List Sited) → stack_sites ds ps ≡ reverse later ++ before → before ≡ reverse first ++ [] → map (site_at ds) ps ≡ first ++ later
both_made ds ps before first later second earlier =
    let all : reverse (map (site_at ds) ps) ≡ reverse (first ++ later) =
    sym (stack_sites-reverse ds ps) ∙ second ∙ ap (λ l. reverse later ++ l) (earlier ∙ append-nil (reverse first)) ∙ sym (reverse-append first later) in
    sym (reverse-reverse (map (site_at ds) ps)) ∙ ap reverse all ∙ reverse-reverse (first ++ later)

-- the places of the first and of the later ones
pub split_made : {X : Type 0} (f : X → Sited) (ps : List X) (first later : List Sited) → map f ps ≡ first ++ later → (map f (take (length first) ps) ≡ first) × (map f (drop (length first) ps) ≡ later)
split_made f ps [] later e = (refl, e)
split_made f [] (d ∷ first) later e = cc
split_made f (p ∷ ps) (d ∷ first) later e =
    let parts = split_made f ps first later (ap rest_of e) in
    (ap₂ (λ x l. x ∷ l) (ap (first_of d) e) parts.0, parts.1)
  where
    rest_of : List Sited → List Sited
    rest_of [] = []
    rest_of (x ∷ xs) = xs

    first_of : Sited → List Sited → Sited
    first_of z [] = z
    first_of z (x ∷ xs) = x

pub map-meaning : (names : Table) (ds : List Datum) → map (with_sites names) (map (written_form names) ds) ≡ map (meaning names) ds
map-meaning names [] = refl
map-meaning names (d ∷ ds) = ap (λ l. meaning names d ∷ l) (map-meaning names ds)

-- there are as many places as data
pub places_made : (ds : List Sited) (ps : List ℕ) (names : Table) (first later : List Datum) → map (site_at ds) ps ≡ map (meaning names) first ++ map (meaning names) later → length ps ≡ length first + length later
places_made ds ps names first later e =
    let a : length (map (site_at ds) ps) ≡ length ps = simp length-map in
    let b : length (map (meaning names) first) ≡ length first = simp length-map in
    let c : length (map (meaning names) later) ≡ length later = simp length-map in
    let all : length (map (site_at ds) ps) ≡ length (map (meaning names) first) + length (map (meaning names) later) = ap length e ∙ length-append (map (meaning names) first) (map (meaning names) later) in
    omega arith

-- the places of two lists of data, split by the length of the first
pub split_places : (ds : List Sited) (ps front back : List ℕ) (names : Table) (first later : List Datum) → map (site_at ds) ps ≡ map (meaning names) first ++ map (meaning names) later →
    front ≡ take (length first) ps → back ≡ drop (length first) ps →
    (map (site_at ds) front ≡ map (with_sites names) (map (written_form names) first)) × (map (site_at ds) back ≡ map (with_sites names) (map (written_form names) later))
split_places ds ps front back names first later e f b =
    let parts = split_made (site_at ds) ps (map (meaning names) first) (map (meaning names) later) e in
    let size : length first ≡ length (map (meaning names) first) = simp length-map in
    (ap (map (site_at ds)) (f ∙ ap (λ n. take n ps) size) ∙ parts.0 ∙ sym (map-meaning names first), ap (map (site_at ds)) (b ∙ ap (λ n. drop n ps) size) ∙ parts.1 ∙ sym (map-meaning names later))

-- the places after two lists of data were turned
pub both_turned : (names : Table) (first later : List Datum) (d0 d1 d2 : List Sited) (p0 p1 p2 : List ℕ) → p0 ≡ [] → stack_sites d1 p1 ≡ reverse (map (meaning names) first) ++ stack_sites d0 p0 →
    stack_sites d2 p2 ≡ reverse (map (meaning names) later) ++ stack_sites d1 p1 → map (site_at d2) p2 ≡ map (meaning names) first ++ map (meaning names) later
both_turned names first later d0 d1 d2 p0 p1 p2 none earlier second =
    both_made d2 p2 (stack_sites d1 p1) (map (meaning names) first) (map (meaning names) later) second (earlier ∙ ap (λ l. reverse (map (meaning names) first) ++ stack_sites d0 l) none)
