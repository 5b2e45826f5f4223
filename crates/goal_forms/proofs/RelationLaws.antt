-- The numbers of relations and what they take.
use Rattle.std.proofs.Common.{◌≡◌, ℕ, zero, suc, ◌+◌, ◌<◌, ◌≤◌, List, [], ◌∷◌, ◌++◌, length, take, get_or, refl, sym, ◌∙◌, ap, arith, Option, Some, None}
use Rattle.std.proofs.lemmas.Bool.{ltb-false, le-leb, lt-leb}
use Rattle.std.proofs.lemmas.Bool.Decides.{nat_tests}
use Rattle.kan_grammar.specs.Texts.TextFaults.{is_new}
use Rattle.std.proofs.Math.Seq.{take-suc}
use Rattle.std.proofs.lemmas.List.{length-take-le}
use Rattle.std.specs.Prelude.{Bool, true, false, leb, nat_lt, ◌==◌, option_map, if◌then◌else◌}
use Rattle.kan_grammar.specs.Texts.TopForms as forms
use Rattle.kan_grammar.specs.Texts.Resolved.{relation_number, arity, or_else}
use Rattle.goal_forms.specs.DefinedRelations.{defined_relations}
use Rattle.goal_forms.specs.declared.relations.Defined.{Defined}

-- a name without a number takes nothing
pub arity_none : (ds : List forms.Defined) (s : ℕ) → None ≡ relation_number ds s → None ≡ arity ds s
arity_none [] s e = refl
arity_none (d ∷ ds) s e = by_test (s == d.name) (relation_number ds s) (λ h. arity_none ds s h) e
  where
    by_test : (b : Bool) (r : Option ℕ) → (None ≡ r → None ≡ arity ds s) → None ≡ (if b then Some 0 else option_map (λ n. suc n) r) → None ≡ (if b then Some d.params else arity ds s)
    by_test true r later h = cc
    by_test false None later h = later refl
    by_test false (Some n) later h = cc

-- the relation at a name's number takes what the name takes
pub arity_some : (rows : List Defined) (s i : ℕ) (d : Defined) → Some i ≡ relation_number (defined_relations rows) s → (i < length rows) × (Some (get_or rows i d).params ≡ arity (defined_relations rows) s)
arity_some [] s i d e = cc
arity_some (row ∷ rows) s i d e = by_test (s == row.name) (relation_number (defined_relations rows) s) (λ k h. arity_some rows s k d h) i e
  where
    by_test : (b : Bool) (r : Option ℕ) → ((k : ℕ) → Some k ≡ r → (k < length rows) × (Some (get_or rows k d).params ≡ arity (defined_relations rows) s)) → (i : ℕ) →
        Some i ≡ (if b then Some 0 else option_map (λ n. suc n) r) → (i < length (row ∷ rows)) × (Some (get_or (row ∷ rows) i d).params ≡ (if b then Some row.params else arity (defined_relations rows) s))
    by_test true r later zero h = (omega arith, refl)
    by_test true r later (suc k) h = cc
    by_test false None later i h = cc
    by_test false (Some n) later zero h = cc
    by_test false (Some n) later (suc k) h = let found = later k (cc) in (omega (arith, found.0), found.1)

pub arity_found : (rows lent : List Defined) (s i : ℕ) (d : Defined) → Some i ≡ relation_number (defined_relations rows) s → lent ≡ rows → d ≡ get_or lent i d → Some d.params ≡ arity (defined_relations rows) s
arity_found rows lent s i d number same found =
    ap (λ x. Some x.params) (found ∙ ap (λ l. get_or l i d) same) ∙ (arity_some rows s i d number).1

-- each number is a relation's
pub arity_there : (rows lent : List Defined) (s i : ℕ) → Some i ≡ relation_number (defined_relations rows) s → lent ≡ rows → false ≡ nat_lt i (length lent) → None ≡ arity (defined_relations rows) s
arity_there rows lent s i number same past =
    let there = arity_some rows s i (record { name = 0; params = 0 }) number in
    let beyond : length rows ≤ i = ltb-false i (length rows) (ap (λ l. nat_lt i (length l)) (sym same) ∙ sym past) in
    absurd (omega (arith, there.0))

-- the number of a name where one relation more is there
pub number-more : (rows : List Defined) (d : Defined) (s : ℕ) → relation_number (defined_relations (rows ++ d ∷ [])) s ≡ or_else (relation_number (defined_relations rows) s) (if s == d.name then Some (length rows) else None)
number-more [] d s = by_test (s == d.name)
  where
    by_test : (b : Bool) → (if b then Some 0 else option_map (λ n. suc n) None) ≡ (if b then Some 0 else None)
    by_test true = refl
    by_test false = refl
number-more (row ∷ rows) d s = by_test (s == row.name) (s == d.name) (relation_number (defined_relations rows) s) (relation_number (defined_relations (rows ++ d ∷ [])) s) (number-more rows d s)
  where
    by_test : (a b : Bool) (r q : Option ℕ) → q ≡ or_else r (if b then Some (length rows) else None) →
        (if a then Some 0 else option_map (λ n. suc n) q) ≡ or_else (if a then Some 0 else option_map (λ n. suc n) r) (if b then Some (suc (length rows)) else None)
    by_test true b r q e = refl
    by_test false true None q e = ap (option_map (λ n. suc n)) e
    by_test false true (Some n) q e = ap (option_map (λ n. suc n)) e
    by_test false false None q e = ap (option_map (λ n. suc n)) e
    by_test false false (Some n) q e = ap (option_map (λ n. suc n)) e

-- one relation more has its number
pub number_noted : (rows lent : List Defined) (place : ℕ) (e : Defined) (x : ℕ) → place < length rows → lent ≡ rows → (old new : ℕ → Option ℕ) →
    ((s : ℕ) → new s ≡ or_else (old s) (if s == (get_or lent place e).name then Some place else None)) → ((s : ℕ) → old s ≡ relation_number (defined_relations (take place rows)) s) →
    new x ≡ relation_number (defined_relations (take (place + 1) rows)) x
number_noted rows lent place e x here same old new noted kept =
    let split : take (suc place) rows ≡ take place rows ++ get_or rows place e ∷ [] = take-suc rows place e here in
    let size : length (take place rows) ≡ place = length-take-le place rows (omega arith) in
    let more = number-more (take place rows) (get_or rows place e) x in
    let step : place + 1 ≡ suc place = omega arith in
    noted x ∙ ap (λ l. or_else (old x) (if x == (get_or l place e).name then Some place else None)) same
    ∙ ap (λ r. or_else r (if x == (get_or rows place e).name then Some place else None)) (kept x)
    ∙ ap (λ n. or_else (relation_number (defined_relations (take place rows)) x) (if x == (get_or rows place e).name then Some n else None)) (sym size)
    ∙ sym more ∙ ap (λ l. relation_number (defined_relations l) x) (sym split) ∙ ap (λ n. relation_number (defined_relations (take n rows)) x) (sym step)

-- a name without a number is new before any relation
pub new_none : (n : ℕ) (ds : List forms.Defined) (s : ℕ) → None ≡ relation_number ds s → true ≡ is_new (arity (take n ds) s)
new_none zero ds s e = refl
new_none (suc n) [] s e = refl
new_none (suc n) (d ∷ ds) s e = by_test (s == d.name) (relation_number ds s) (λ h. new_none n ds s h) e
  where
    by_test : (b : Bool) (r : Option ℕ) → (None ≡ r → true ≡ is_new (arity (take n ds) s)) → None ≡ (if b then Some 0 else option_map (λ n. suc n) r) →
        true ≡ is_new (if b then Some d.params else arity (take n ds) s)
    by_test true r later h = cc
    by_test false None later h = later refl
    by_test false (Some k) later h = cc

leb-suc : (a b : ℕ) → leb (suc a) (suc b) ≡ leb a b
leb-suc a b = grind (arith, nat_tests)

-- a name with a number is new before the relations up to that
pub new_some : (n : ℕ) (ds : List forms.Defined) (s i : ℕ) → Some i ≡ relation_number ds s → leb n i ≡ is_new (arity (take n ds) s)
new_some zero ds s i e = le-leb 0 i (omega arith)
new_some (suc n) [] s i e = cc
new_some (suc n) (d ∷ ds) s i e = by_test (s == d.name) (relation_number ds s) (λ k h. new_some n ds s k h) i e
  where
    by_test : (b : Bool) (r : Option ℕ) → ((k : ℕ) → Some k ≡ r → leb n k ≡ is_new (arity (take n ds) s)) → (i : ℕ) → Some i ≡ (if b then Some 0 else option_map (λ n. suc n) r) →
        leb (suc n) i ≡ is_new (if b then Some d.params else arity (take n ds) s)
    by_test true r later zero h = lt-leb (suc n) 0 (omega arith)
    by_test true r later (suc k) h = cc
    by_test false None later i h = cc
    by_test false (Some m) later zero h = cc
    by_test false (Some m) later (suc k) h = leb-suc n k ∙ later k (cc)
