-- The relations before a top form, and the faults of the forms that are left.
use Rattle.std.proofs.Common.{◌≡◌, ℕ, suc, ◌+◌, ◌<◌, ◌≤◌, List, ◌∷◌, ◌++◌, map, take, drop, length, get_or, sym, ◌∙◌, ap, append_assoc, arith, length-append, drop-cons, Option}
use Rattle.std.proofs.Math.Seq.{take-append_seam, take-append-add}
use Rattle.std.proofs.lemmas.List.{length-take-le}
use Rattle.kan_terms.specs.Table.{Table}
use Rattle.kan_grammar.specs.Texts.Sited.{Sited}
use Rattle.kan_grammar.specs.Data.Faults.{Fault}
use Rattle.kan_grammar.specs.Texts.TopForms.{Defined, form, definitions, definitions_of}
use Rattle.std.proofs.lemmas.Grind.{flat_map-append}
use Rattle.kan_grammar.specs.Texts.TextFaults.{form_faults, forms_faults, faults_of, least}
use Rattle.goal_forms.specs.Parts.{site_at}

-- the next of some places, and those behind it
pub next_place : (forms : List ℕ) (i : ℕ) → i < length forms → drop i forms ≡ get_or forms i 0 ∷ drop (i + 1) forms
next_place forms i here = let step : i + 1 ≡ suc i = omega arith in drop-cons forms i 0 here ∙ ap (λ n. get_or forms i 0 ∷ drop n forms) (sym step)

-- what stands before two lists of relations
pub relations_passed : (rs front ours theirs : List Defined) → rs ≡ front ++ (ours ++ theirs) → take (length front + length ours) rs ≡ front ++ ours
relations_passed rs front ours theirs split =
    ap (take (length front + length ours)) split ∙ take-append-add front (ours ++ theirs) (length ours) ∙ ap (λ l. front ++ l) (take-append_seam ours theirs)

-- a form is passed: its relations come behind those before it
pub before_step : (t : Table) (ds : List Sited) (rs : List Defined) (forms : List ℕ) (i b k : ℕ) → i < length forms → b ≤ length rs → rs ≡ take b rs ++ definitions t (map (site_at ds) (drop i forms)) →
    k ≡ length (definitions_of t (site_at ds (get_or forms i 0))) → take (b + k) rs ≡ take b rs ++ definitions_of t (site_at ds (get_or forms i 0))
before_step t ds rs forms i b k here within later count =
    let ours = definitions_of t (site_at ds (get_or forms i 0)) in
    let theirs = definitions t (map (site_at ds) (drop (i + 1) forms)) in
    let split : rs ≡ take b rs ++ (ours ++ theirs) = later ∙ ap (λ l. take b rs ++ definitions t (map (site_at ds) l)) (next_place forms i here) in
    let size : length (take b rs) ≡ b = length-take-le b rs within in
    let place : b + k ≡ length (take b rs) + length ours = omega arith in
    ap (λ n. take n rs) place ∙ relations_passed rs (take b rs) ours theirs split

pub within_step : (t : Table) (ds : List Sited) (rs : List Defined) (forms : List ℕ) (i b k : ℕ) → i < length forms → b ≤ length rs → rs ≡ take b rs ++ definitions t (map (site_at ds) (drop i forms)) →
    k ≡ length (definitions_of t (site_at ds (get_or forms i 0))) → b + k ≤ length rs
within_step t ds rs forms i b k here within later count =
    let ours = definitions_of t (site_at ds (get_or forms i 0)) in
    let theirs = definitions t (map (site_at ds) (drop (i + 1) forms)) in
    let split : rs ≡ take b rs ++ (ours ++ theirs) = later ∙ ap (λ l. take b rs ++ definitions t (map (site_at ds) l)) (next_place forms i here) in
    let size : length (take b rs) ≡ b = length-take-le b rs within in
    let all : length rs ≡ length (take b rs) + (length ours + length theirs) = ap length split ∙ length-append (take b rs) (ours ++ theirs) ∙ ap (λ n. length (take b rs) + n) (length-append ours theirs) in
    omega arith

pub later_step : (t : Table) (ds : List Sited) (rs : List Defined) (forms : List ℕ) (i b k : ℕ) → i < length forms → b ≤ length rs → rs ≡ take b rs ++ definitions t (map (site_at ds) (drop i forms)) →
    k ≡ length (definitions_of t (site_at ds (get_or forms i 0))) → rs ≡ take (b + k) rs ++ definitions t (map (site_at ds) (drop (i + 1) forms))
later_step t ds rs forms i b k here within later count =
    let ours = definitions_of t (site_at ds (get_or forms i 0)) in
    let theirs = definitions t (map (site_at ds) (drop (i + 1) forms)) in
    let split : rs ≡ take b rs ++ (ours ++ theirs) = later ∙ ap (λ l. take b rs ++ definitions t (map (site_at ds) l)) (next_place forms i here) in
    split ∙ sym (append_assoc (take b rs) ours theirs) ∙ ap (λ l. l ++ theirs) (sym (before_step t ds rs forms i b k here within later count))

pub faults_step : (t : Table) (ds : List Sited) (rs : List Defined) (forms : List ℕ) (i b k : ℕ) (noted more whole : List Fault) → i < length forms → b ≤ length rs →
    rs ≡ take b rs ++ definitions t (map (site_at ds) (drop i forms)) → k ≡ length (definitions_of t (site_at ds (get_or forms i 0))) →
    more ≡ noted ++ form_faults t rs (take b rs) (form t (site_at ds (get_or forms i 0))) → noted ++ forms_faults t rs (take b rs) (map (site_at ds) (drop i forms)) ≡ whole →
    more ++ forms_faults t rs (take (b + k) rs) (map (site_at ds) (drop (i + 1) forms)) ≡ whole
faults_step t ds rs forms i b k noted more whole here within later count judged kept =
    let ours = form_faults t rs (take b rs) (form t (site_at ds (get_or forms i 0))) in
    let others = map (site_at ds) (drop (i + 1) forms) in
    ap (λ l. l ++ forms_faults t rs (take (b + k) rs) others) judged ∙ append_assoc noted ours (forms_faults t rs (take (b + k) rs) others)
    ∙ ap (λ l. noted ++ (ours ++ forms_faults t rs l others)) (before_step t ds rs forms i b k here within later count)
    ∙ sym (ap (λ l. noted ++ forms_faults t rs (take b rs) (map (site_at ds) l)) (next_place forms i here)) ∙ kept

-- the relations of a library stand before those of a text
pub before_text : (rs library text : List Defined) (n : ℕ) → rs ≡ library ++ text → n ≡ length library → take n rs ≡ library
before_text rs library text n split size = ap (take n) split ∙ ap (λ k. take k (library ++ text)) size ∙ take-append_seam library text

-- the first fault of the forms of a text is that of the text behind its library
pub first_is : (t : Table) (library text : List Sited) (rs : List Defined) (n : ℕ) (r : Option Fault) → rs ≡ definitions t library ++ definitions t text → n ≡ length (definitions t library) →
    r ≡ least (forms_faults t rs (take n rs) text) → r ≡ least (faults_of t library text)
unfolding faults_of
first_is t library text rs n r split size found =
    let all : rs ≡ definitions t (library ++ text) = split ∙ sym (flat_map-append (definitions_of t) library text) in
    found ∙ ap (λ b. least (forms_faults t rs b text)) (before_text rs (definitions t library) (definitions t text) n split size) ∙ ap (λ l. least (forms_faults t l (definitions t library) text)) all
