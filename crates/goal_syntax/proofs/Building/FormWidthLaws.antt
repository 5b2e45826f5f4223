-- Goals of texts are narrow: they have more than twice as many parts as they are wide.
use Rattle.std.proofs.Common.{◌≡◌, ℕ, suc, ◌+◌, ◌*◌, ◌≤◌, ◌<◌, ◌^◌, max, zero, List, [], ◌∷◌, ◌++◌, length, map, take, get_or, refl, ◌∙◌, ap, arith, Option}
use Rattle.std.specs.Prelude.{Bool, true, false, if◌then◌else◌}
use Rattle.kan_terms.specs.Table.{Table}
use Rattle.kan_grammar.specs.Texts.Sited.{Sited, site, is_proper, count}
use Rattle.kan_grammar.specs.Texts.Language.{Word, word, head_word}
use Rattle.kan_grammar.specs.Texts.Binders.{Checked, binder, binder_faults}
use Rattle.kan_grammar.specs.Texts.GoalForms.{GoalForm, parts_of, is_count, atom_goal, term_forms, goal_form, goal_forms, fresh_form, clause_forms}
use Rattle.kan_grammar.specs.Texts.TopForms.{Form, head, head_name, limit, no_limit, relation, run_of_one, run_of_list, misshapen, unknown, relation_form, run_form, limited_form, form}
use Rattle.goal_forms.specs.Parts.{site_at}
use Rattle.goal_forms.specs.Steps.TermSteps.{site_size}
use Rattle.goal_forms.specs.Sizes.{parts_in}
use Rattle.goal_forms.proofs.SizeLaws.{some_parts}
use Rattle.goal_syntax.specs.Building.Widths.{goal_width, goals_width, form_width, forms_width}
use Rattle.goal_syntax.proofs.Building.FormEntryLaws.{binder_small, goal_form_of_word}
use Rattle.goal_syntax.proofs.Building.PlaceLaws.{sites_next}

-- so many terms have more than twice as many parts
terms_narrow : (t : Table) (d : Sited) → length (term_forms t d) + length (term_forms t d) < site_size d
terms_narrow t (Sited.pair p a parts) = omega (arith, some_parts a, terms_narrow t parts)
terms_narrow t (Sited.name at s) = omega arith
terms_narrow t (Sited.text at s) = omega arith
terms_narrow t (Sited.num at n) = omega arith
terms_narrow t (Sited.bool at b) = omega arith
terms_narrow t (Sited.nil at) = omega arith

atom_narrow : (w : Word) (at : ℕ) → goal_width (atom_goal w at) ≡ 0
atom_narrow Word.succeed at = refl
atom_narrow Word.fail at = refl
atom_narrow w at = refl

-- a clause is a list of goals, or fails
clause_narrow : (t : Table) (proper : Bool) (c : Sited) → goals_width (goal_forms t c) + goals_width (goal_forms t c) < site_size c →
    goal_width (elim proper as (λ x. GoalForm) [ true ↦ GoalForm.all_of (goal_forms t c) | false ↦ GoalForm.misshapen (site c) ])
    + goal_width (elim proper as (λ x. GoalForm) [ true ↦ GoalForm.all_of (goal_forms t c) | false ↦ GoalForm.misshapen (site c) ]) < site_size c
clause_narrow t true c goals = goals
clause_narrow t false c goals = omega (arith, some_parts c)

mutual
  goal_narrow : (t : Table) (d : Sited) → goal_width (goal_form t d) + goal_width (goal_form t d) < site_size d
  goal_narrow t (Sited.name at s) = omega (arith, atom_narrow (word t s) at)
  goal_narrow t (Sited.text at s) = omega arith
  goal_narrow t (Sited.num at n) = omega arith
  goal_narrow t (Sited.bool at b) = omega arith
  goal_narrow t (Sited.nil at) = omega arith
  goal_narrow t (Sited.pair at (Sited.name head_at s) parts) =
      by_word (is_count (parts_of (word t s)) (count parts)) (word t s) (fresh_narrow t at parts) (goals_narrow t parts) (clauses_narrow t parts) _ refl
    where
      by_word : (b : Bool) (w : Word) → goal_width (fresh_form t at parts) + goal_width (fresh_form t at parts) < 2 + site_size parts → goals_width (goal_forms t parts) + goals_width (goal_forms t parts) < site_size parts →
          goals_width (clause_forms t parts) + goals_width (clause_forms t parts) < site_size parts →
          (f : GoalForm) → f ≡ goal_form_of_word t at head_at s parts b w → goal_width f + goal_width f < 2 + site_size parts
      by_word false w f g c made is = omega (arith, ap goal_width is)
      by_word true Word.fresh f g c made is = omega (arith, ap goal_width is, f)
      by_word true Word.conde f g c made is = omega (arith, ap goal_width is, c)
      by_word true Word.conj f g c made is = omega (arith, ap goal_width is, g)
      by_word true Word.disj f g c made is = omega (arith, ap goal_width is, g)
      by_word true Word.conj_two f g c made is = omega (arith, ap goal_width is, g)
      by_word true Word.disj_two f g c made is = omega (arith, ap goal_width is, g)
      by_word true Word.other f g c made is = omega (arith, ap goal_width is, terms_narrow t parts)
      by_word true w f g c made is = omega (arith, ap goal_width is)
  goal_narrow t (Sited.pair at other parts) = omega arith

  goals_narrow : (t : Table) (d : Sited) → goals_width (goal_forms t d) + goals_width (goal_forms t d) < site_size d
  goals_narrow t (Sited.pair p g parts) = omega (arith, goal_narrow t g, goals_narrow t parts)
  goals_narrow t d = omega (arith, some_parts d)

  fresh_narrow : (t : Table) (at : ℕ) (d : Sited) → goal_width (fresh_form t at d) + goal_width (fresh_form t at d) < 2 + site_size d
  fresh_narrow t at (Sited.pair p b goals) = omega (arith, binder_small t b, goals_narrow t goals)
  fresh_narrow t at d = omega arith

  clauses_narrow : (t : Table) (d : Sited) → goals_width (clause_forms t d) + goals_width (clause_forms t d) < site_size d
  clauses_narrow t (Sited.pair p c parts) = omega (arith, clause_narrow t (is_proper c) c (goals_narrow t c), clauses_narrow t parts)
  clauses_narrow t d = omega (arith, some_parts d)

-- a top form
relation_narrow : (t : Table) (at : ℕ) (d : Sited) → form_width (relation_form t at d) + form_width (relation_form t at d) ≤ site_size d
relation_narrow t at (Sited.pair p h goals) = by_proper (is_proper goals) (goals_narrow t goals)
  where
    by_proper : (b : Bool) → goals_width (goal_forms t goals) + goals_width (goal_forms t goals) < site_size goals →
        form_width (if b then relation (head_name h) (head t h) (goal_forms t goals) else misshapen at)
        + form_width (if b then relation (head_name h) (head t h) (goal_forms t goals) else misshapen at) ≤ 1 + site_size h + site_size goals
    by_proper true few = omega (arith, few)
    by_proper false few = omega arith
relation_narrow t at d = omega arith

list_run_narrow : (t : Table) (at : ℕ) (l : Checked (Option ℕ)) (b goals : Sited) (proper : Bool) →
    form_width (if proper then run_of_list l (binder t b) (goal_forms t goals) else misshapen at)
    + form_width (if proper then run_of_list l (binder t b) (goal_forms t goals) else misshapen at) ≤ 1 + site_size b + site_size goals
list_run_narrow t at l b goals true = omega (arith, binder_small t b, goals_narrow t goals)
list_run_narrow t at l b goals false = omega arith

run_narrow : (t : Table) (at : ℕ) (l : Checked (Option ℕ)) (d : Sited) → form_width (run_form t at l d) + form_width (run_form t at l d) ≤ site_size d
run_narrow t at l (Sited.pair p (Sited.name q s) goals) = by_proper (is_proper goals) (goals_narrow t goals)
  where
    by_proper : (b : Bool) → goals_width (goal_forms t goals) + goals_width (goal_forms t goals) < site_size goals →
        form_width (if b then run_of_one l (record { value = s ∷ []; faults = binder_faults t [] (Sited.name q s) }) (goal_forms t goals) else misshapen at)
        + form_width (if b then run_of_one l (record { value = s ∷ []; faults = binder_faults t [] (Sited.name q s) }) (goal_forms t goals) else misshapen at) ≤ 1 + 1 + site_size goals
    by_proper true few = omega (arith, few)
    by_proper false few = omega arith
run_narrow t at l (Sited.pair p (Sited.text q s) goals) = list_run_narrow t at l (Sited.text q s) goals (is_proper goals)
run_narrow t at l (Sited.pair p (Sited.num q s) goals) = list_run_narrow t at l (Sited.num q s) goals (is_proper goals)
run_narrow t at l (Sited.pair p (Sited.bool q s) goals) = list_run_narrow t at l (Sited.bool q s) goals (is_proper goals)
run_narrow t at l (Sited.pair p (Sited.nil q) goals) = list_run_narrow t at l (Sited.nil q) goals (is_proper goals)
run_narrow t at l (Sited.pair p (Sited.pair q a d) goals) = list_run_narrow t at l (Sited.pair q a d) goals (is_proper goals)
run_narrow t at l d = omega arith

limited_narrow : (t : Table) (at : ℕ) (d : Sited) → form_width (limited_form t at d) + form_width (limited_form t at d) ≤ site_size d
limited_narrow t at (Sited.pair p l parts) = omega (arith, run_narrow t at (limit l) parts)
limited_narrow t at d = omega arith

form_narrow : (t : Table) (d : Sited) → form_width (form t d) + form_width (form t d) ≤ site_size d
form_narrow t (Sited.pair at h parts) = by_word (head_word t h) (relation_narrow t at parts) (limited_narrow t at parts) (run_narrow t at no_limit parts) _ refl
  where
    by_word : (w : Word) → form_width (relation_form t at parts) + form_width (relation_form t at parts) ≤ site_size parts → form_width (limited_form t at parts) + form_width (limited_form t at parts) ≤ site_size parts →
        form_width (run_form t at no_limit parts) + form_width (run_form t at no_limit parts) ≤ site_size parts →
        (f : Form) → f ≡ elim w as (λ x. Form) [
          | Word.defrel ↦ relation_form t at parts
          | Word.run ↦ limited_form t at parts
          | Word.run_all ↦ run_form t at no_limit parts
          | _ ↦ unknown at
        ] → form_width f + form_width f ≤ 1 + site_size h + site_size parts
    by_word Word.defrel r l a f is = omega (arith, ap form_width is, r)
    by_word Word.run r l a f is = omega (arith, ap form_width is, l)
    by_word Word.run_all r l a f is = omega (arith, ap form_width is, a)
    by_word w r l a f is = omega (arith, ap form_width is)
form_narrow t d = omega arith

forms_double : (t : Table) (ds : List Sited) → forms_width t ds + forms_width t ds ≤ parts_in ds
forms_double t [] = omega arith
forms_double t (d ∷ ds) = omega (arith, form_narrow t d, forms_double t ds)

pub forms_narrow : (t : Table) (ds : List Sited) → parts_in ds + 3 * length ds ≤ 2 ^ 22 → forms_width t ds < 2 ^ 21
forms_narrow t [] few = omega arith
forms_narrow t (d ∷ ds) few = omega (arith, few, forms_double t (d ∷ ds))

-- the forms at the first places of some, and those at the next one and at all
widest_behind : (t : Table) (ds es : List Sited) → forms_width t (ds ++ es) ≡ max (forms_width t ds) (forms_width t es)
widest_behind t [] es = omega arith
widest_behind t (d ∷ ds) es = omega (arith, widest_behind t ds es)

pub widest_next : (t : Table) (ds : List Sited) (forms : List ℕ) (i : ℕ) → i < length forms →
    forms_width t (map (site_at ds) (take (i + 1) forms)) ≡ max (forms_width t (map (site_at ds) (take i forms))) (form_width (form t (site_at ds (get_or forms i 0))))
widest_next t ds forms i here =
    ap (forms_width t) (sites_next ds forms i here)
    ∙ widest_behind t (map (site_at ds) (take i forms)) (site_at ds (get_or forms i 0) ∷ [])
    ∙ omega arith

pub widest_front : (t : Table) (ds : List Sited) (forms : List ℕ) (i : ℕ) → forms_width t (map (site_at ds) (take i forms)) ≤ forms_width t (map (site_at ds) forms)
widest_front t ds [] zero = omega arith
widest_front t ds [] (suc i) = omega arith
widest_front t ds (p ∷ ps) zero = omega arith
widest_front t ds (p ∷ ps) (suc i) = omega (arith, widest_front t ds ps i)
