-- How many relations forms define.
use Rattle.std.proofs.Common.{◌≡◌, ℕ, ◌+◌, ◌≤◌, List, [], ◌∷◌, ◌++◌, map, length, ◌∙◌, ap, arith, length-append, Option, Some, None, Bool, true, false}
use Rattle.std.specs.Prelude.{if◌then◌else◌}
use Rattle.std.proofs.lemmas.List.{length-map}
use Rattle.kan_terms.specs.Table.{Table}
use Rattle.kan_grammar.specs.Texts.Sited.{Sited, elements}
use Rattle.kan_grammar.specs.Texts.TopForms.{Defined, definitions, definitions_of, definitions_of_head}
use Rattle.kan_grammar.specs.Texts.Language.{Word, word, head_word, is_other}
use Rattle.goal_forms.specs.DefinedRelations.{defined_relations}
use Rattle.goal_forms.specs.Parts.{site_at}
use Rattle.goal_forms.specs.declared.relations.Defined.{Defined as Row}

-- a top form defines one relation at most
head_at_most_one : (t : Table) (parts : Option (List Sited)) → length (definitions_of_head t parts) ≤ 1
head_at_most_one t None = omega arith
head_at_most_one t (Some []) = omega arith
head_at_most_one t (Some (Sited.name at s ∷ params)) = by_test (is_other (word t s))
  where
    by_test : (b : Bool) → length {A = Defined} (if b then record { name = s; params = length params } ∷ [] else []) ≤ 1
    by_test true = omega arith
    by_test false = omega arith
head_at_most_one t (Some (Sited.text at s ∷ params)) = omega arith
head_at_most_one t (Some (Sited.num at n ∷ params)) = omega arith
head_at_most_one t (Some (Sited.bool at b ∷ params)) = omega arith
head_at_most_one t (Some (Sited.nil at ∷ params)) = omega arith
head_at_most_one t (Some (Sited.pair at a d ∷ params)) = omega arith

at_most_one : (t : Table) (d : Sited) → length (definitions_of t d) ≤ 1
at_most_one t (Sited.name at s) = omega arith
at_most_one t (Sited.text at s) = omega arith
at_most_one t (Sited.num at n) = omega arith
at_most_one t (Sited.bool at b) = omega arith
at_most_one t (Sited.nil at) = omega arith
at_most_one t (Sited.pair at h (Sited.name end s)) = omega arith
at_most_one t (Sited.pair at h (Sited.text end s)) = omega arith
at_most_one t (Sited.pair at h (Sited.num end n)) = omega arith
at_most_one t (Sited.pair at h (Sited.bool end b)) = omega arith
at_most_one t (Sited.pair at h (Sited.nil end)) = omega arith
at_most_one t (Sited.pair at h (Sited.pair later hd parts)) = by_word (head_word t h)
  where
    by_word : (w : Word) → length (elim w as (λ x. List Defined) [ Word.defrel ↦ definitions_of_head t (elements hd) | _ ↦ [] ]) ≤ 1
    by_word Word.defrel = head_at_most_one t (elements hd)
    by_word w = omega arith

-- there are no more relations than forms
pub few_defined : (t : Table) (ds : List Sited) → length (definitions t ds) ≤ length ds
few_defined t [] = omega arith
few_defined t (d ∷ ds) =
    let all : length (definitions t (d ∷ ds)) ≡ length (definitions_of t d) + length (definitions t ds) = length-append (definitions_of t d) (definitions t ds) in
    let one = at_most_one t d in
    let others = few_defined t ds in
    omega arith

-- rows to which the relations of forms were added
pub few_rows : (t : Table) (ds : List Sited) (forms : List ℕ) (old new : List Row) → defined_relations new ≡ defined_relations old ++ definitions t (map (site_at ds) forms) → length new ≤ length old + length forms
few_rows t ds forms old new added =
    let few = few_defined t (map (site_at ds) forms) in
    let forms_size : length (map (site_at ds) forms) ≡ length forms = simp length-map in
    let new_size : length (defined_relations new) ≡ length new = simp length-map in
    let old_size : length (defined_relations old) ≡ length old = simp length-map in
    let all : length (defined_relations new) ≡ length (defined_relations old) + length (definitions t (map (site_at ds) forms)) = ap length added ∙ length-append (defined_relations old) (definitions t (map (site_at ds) forms)) in
    omega arith
