-- Forms are made of at most as many entries as their data have parts, and three more for each.
use Rattle.std.proofs.Common.{◌≡◌, ℕ, suc, ◌+◌, ◌*◌, ◌≤◌, ◌<◌, List, [], ◌∷◌, ◌++◌, length, map, take, get_or, zero, refl, ◌∙◌, ap, arith, length-append, Option}
use Rattle.std.specs.Prelude.{Bool, true, false, if◌then◌else◌}
use Rattle.kan_terms.specs.Tree.{Tree, size}
use Rattle.kan_terms.specs.Table.{Table}
use Rattle.kan_grammar.specs.Texts.Sited.{Sited, site, constant, is_proper, count, first}
use Rattle.kan_grammar.specs.Texts.Language.{Word, word, head_word}
use Rattle.kan_grammar.specs.Texts.Binders.{Checked, names_of, bound_names, binder, binder_faults, tag}
use Rattle.kan_grammar.specs.Texts.TermForms.{Use, bad_term, quote_form, term_form, cons_form, list_form, quasiquote_form, template_form, unquote_form}
use Rattle.kan_grammar.specs.Texts.GoalForms.{GoalForm, parts_of, is_count, atom_goal, term_forms, term_one, term_two, goal_form, goal_forms, fresh_form, clause_forms}
use Rattle.kan_grammar.specs.Texts.TopForms.{Form, head, head_name, limit, no_limit, relation, run_of_one, run_of_list, misshapen, unknown, relation_form, run_form, limited_form, form}
use Rattle.goal_forms.specs.Parts.{site_at}
use Rattle.goal_forms.specs.Steps.TermSteps.{site_size}
use Rattle.goal_forms.specs.Sizes.{parts_in}
use Rattle.goal_forms.proofs.SizeLaws.{some_parts}
use Rattle.goal_syntax.specs.Building.Entries.{arguments_size, goal_size, goals_size, others_size, form_size, forms_size}
use Rattle.goal_syntax.proofs.Building.PlaceLaws.{sites_next}

-- a constant has as many parts as its datum
constant_size : (d : Sited) → size (constant {V = Use} d) ≡ site_size d
constant_size (Sited.name at s) = refl
constant_size (Sited.text at s) = refl
constant_size (Sited.num at n) = refl
constant_size (Sited.bool at b) = refl
constant_size (Sited.nil at) = refl
constant_size (Sited.pair at a d) = omega (arith, constant_size a, constant_size d)

quoted_size : (at : ℕ) (d : Sited) → size (quote_form at d) ≤ site_size d
quoted_size at (Sited.pair p d (Sited.nil e)) = omega (arith, constant_size d)
quoted_size at d = omega (arith, some_parts d)

-- a term has at most as many
mutual
  term_small : (t : Table) (d : Sited) → size (term_form t d) ≤ site_size d
  term_small t (Sited.name at s) = omega arith
  term_small t (Sited.text at s) = omega arith
  term_small t (Sited.num at n) = omega arith
  term_small t (Sited.bool at b) = omega arith
  term_small t (Sited.nil at) = omega arith
  term_small t (Sited.pair at head parts) =
      by_word (head_word t head) (is_proper parts) (quoted_size at parts) (cons_small t at parts) (list_small t parts) (quasiquoted_small t at parts)
    where
      by_word : (w : Word) (proper : Bool) → size (quote_form at parts) ≤ site_size parts → size (cons_form t at parts) ≤ site_size parts →
          size (list_form t parts) ≤ site_size parts → size (quasiquote_form t at parts) ≤ site_size parts →
          size (elim w as (λ x. Tree Use) [
            | Word.quote ↦ quote_form at parts
            | Word.cons ↦ cons_form t at parts
            | Word.list ↦ elim proper [ true ↦ list_form t parts | false ↦ bad_term at ]
            | Word.quasiquote ↦ quasiquote_form t at parts
            | _ ↦ bad_term at
          ]) ≤ 1 + site_size head + site_size parts
      by_word Word.quote proper q c l k = omega (arith, q)
      by_word Word.cons proper q c l k = omega (arith, c)
      by_word Word.list true q c l k = omega (arith, l)
      by_word Word.list false q c l k = omega arith
      by_word Word.quasiquote proper q c l k = omega (arith, k)
      by_word w proper q c l k = omega arith

  cons_small : (t : Table) (at : ℕ) (d : Sited) → size (cons_form t at d) ≤ site_size d
  cons_small t at (Sited.pair p a (Sited.pair q d (Sited.nil e))) = omega (arith, term_small t a, term_small t d)
  cons_small t at d = omega (arith, some_parts d)

  list_small : (t : Table) (d : Sited) → size (list_form t d) ≤ site_size d
  list_small t (Sited.pair p a parts) = omega (arith, term_small t a, list_small t parts)
  list_small t d = omega (arith, some_parts d)

  quasiquoted_small : (t : Table) (at : ℕ) (d : Sited) → size (quasiquote_form t at d) ≤ site_size d
  quasiquoted_small t at (Sited.pair p d (Sited.nil e)) = omega (arith, template_small t d)
  quasiquoted_small t at d = omega (arith, some_parts d)

  template_small : (t : Table) (d : Sited) → size (template_form t d) ≤ site_size d
  template_small t (Sited.name at s) = omega arith
  template_small t (Sited.text at s) = omega arith
  template_small t (Sited.num at n) = omega arith
  template_small t (Sited.bool at b) = omega arith
  template_small t (Sited.nil at) = omega arith
  template_small t (Sited.pair at a d) = by_word (head_word t a) (unquoted_small t at d) (template_small t a) (template_small t d)
    where
      by_word : (w : Word) → size (unquote_form t at d) ≤ site_size d → size (template_form t a) ≤ site_size a → size (template_form t d) ≤ site_size d →
          size (elim w as (λ x. Tree Use) [
            | Word.unquote ↦ unquote_form t at d
            | Word.quasiquote ↦ bad_term at
            | _ ↦ Tree.pair (template_form t a) (template_form t d)
          ]) ≤ 1 + site_size a + site_size d
      by_word Word.unquote u p q = omega (arith, u)
      by_word Word.quasiquote u p q = omega arith
      by_word w u p q = omega (arith, p, q)

  unquoted_small : (t : Table) (at : ℕ) (d : Sited) → size (unquote_form t at d) ≤ site_size d
  unquoted_small t at (Sited.pair p u (Sited.nil e)) = omega (arith, term_small t u)
  unquoted_small t at d = omega (arith, some_parts d)

-- arguments are named besides
arguments_small : (t : Table) (d : Sited) → arguments_size (term_forms t d) ≤ site_size d
arguments_small t (Sited.pair p a parts) = omega (arith, term_small t a, arguments_small t parts)
arguments_small t (Sited.name at s) = omega arith
arguments_small t (Sited.text at s) = omega arith
arguments_small t (Sited.num at n) = omega arith
arguments_small t (Sited.bool at b) = omega arith
arguments_small t (Sited.nil at) = omega arith

first_small : (d : Sited) → site_size (first d) ≤ site_size d
first_small (Sited.pair p a d) = omega arith
first_small (Sited.name at s) = omega arith
first_small (Sited.text at s) = omega arith
first_small (Sited.num at n) = omega arith
first_small (Sited.bool at b) = omega arith
first_small (Sited.nil at) = omega arith

one_small : (t : Table) (parts : Sited) → size (term_one t parts) ≤ site_size parts
one_small t parts = omega (arith, term_small t (first parts), first_small parts)

two_small : (t : Table) (parts : Sited) → size (term_one t parts) + size (term_two t parts) ≤ 1 + site_size parts
two_small t (Sited.pair p a d) = omega (arith, term_small t a, one_small t d)
two_small t (Sited.name at s) = omega arith
two_small t (Sited.text at s) = omega arith
two_small t (Sited.num at n) = omega arith
two_small t (Sited.bool at b) = omega arith
two_small t (Sited.nil at) = omega arith

second_small : (t : Table) (parts : Sited) → size (term_two t parts) ≤ 1 + site_size parts
second_small t parts = omega (arith, two_small t parts)

-- the names in a list are less than half its parts
bound_small : (d : Sited) → length (bound_names d) + length (bound_names d) ≤ site_size d
bound_small (Sited.name at s) = omega arith
bound_small (Sited.text at s) = omega arith
bound_small (Sited.num at n) = omega arith
bound_small (Sited.bool at b) = omega arith
bound_small (Sited.nil at) = omega arith
bound_small (Sited.pair at a d) =
    omega (arith, bound_small d, length-append (names_of a) (bound_names d), one_name a, some_parts a)
  where
    one_name : (a : Sited) → length (names_of a) ≤ 1
    one_name (Sited.name at s) = omega arith
    one_name a = omega arith

pub binder_small : (t : Table) (d : Sited) → length (binder t d).value + length (binder t d).value ≤ site_size d
binder_small t d = by_proper (is_proper d) refl
  where
    by_proper : (b : Bool) → is_proper d ≡ b → length (binder t d).value + length (binder t d).value ≤ site_size d
    by_proper true e = rw e (bound_small d)
    by_proper false e = rw e (omega arith)

-- a goal is at most as many entries as its datum has parts
atom_small : (w : Word) (at : ℕ) → goal_size (atom_goal w at) ≤ 1
atom_small Word.succeed at = omega arith
atom_small Word.fail at = omega arith
atom_small w at = omega arith

-- a clause is a list of goals, or fails
clause_small : (t : Table) (proper : Bool) (c : Sited) → goals_size (goal_forms t c) ≤ site_size c →
    goal_size (elim proper as (λ x. GoalForm) [ true ↦ GoalForm.all_of (goal_forms t c) | false ↦ GoalForm.misshapen (site c) ]) ≤ site_size c
clause_small t true c goals = goals
clause_small t false c goals = omega (arith, some_parts c)

-- the form of a goal whose head is a name, by whether it has as many parts as the name wants, and by its word
abbrev pub goal_form_of_word : Table → ℕ → ℕ → ℕ → Sited → Bool → Word → GoalForm
goal_form_of_word t at head s parts as_many w = elim as_many as (λ x. GoalForm) [
  | false ↦ GoalForm.misshapen at
  | true ↦ elim w as (λ x. GoalForm) [
    | Word.same ↦ GoalForm.same (term_one t parts) (term_two t parts)
    | Word.differ ↦ GoalForm.differ (term_one t parts) (term_two t parts)
    | Word.symbolo ↦ GoalForm.symbol (term_one t parts)
    | Word.numbero ↦ GoalForm.number (term_one t parts)
    | Word.stringo ↦ GoalForm.text (term_one t parts)
    | Word.absento ↦ GoalForm.absent (tag t (first parts)) (term_two t parts)
    | Word.fresh ↦ fresh_form t at parts
    | Word.conde ↦ GoalForm.clauses (clause_forms t parts)
    | Word.conj ↦ GoalForm.all_of (goal_forms t parts)
    | Word.disj ↦ GoalForm.one_of (goal_forms t parts)
    | Word.conj_two ↦ GoalForm.all_of (goal_forms t parts)
    | Word.disj_two ↦ GoalForm.one_of (goal_forms t parts)
    | Word.other ↦ GoalForm.call head s (term_forms t parts)
    | _ ↦ GoalForm.misshapen at
  ]
]

mutual
  goal_small : (t : Table) (d : Sited) → goal_size (goal_form t d) ≤ site_size d
  goal_small t (Sited.name at s) = atom_small (word t s) at
  goal_small t (Sited.text at s) = omega arith
  goal_small t (Sited.num at n) = omega arith
  goal_small t (Sited.bool at b) = omega arith
  goal_small t (Sited.nil at) = omega arith
  goal_small t (Sited.pair at (Sited.name head s) parts) =
      by_word (is_count (parts_of (word t s)) (count parts)) (word t s)
      (fresh_small t at parts) (goals_small t parts) (clauses_small t parts)
    where
      by_word : (b : Bool) (w : Word) → goal_size (fresh_form t at parts) ≤ 2 + site_size parts → goals_size (goal_forms t parts) ≤ site_size parts → goals_size (clause_forms t parts) ≤ site_size parts →
          goal_size (goal_form_of_word t at head s parts b w) ≤ 2 + site_size parts
      by_word false w f g c = omega arith
      by_word true Word.same f g c = omega (arith, two_small t parts)
      by_word true Word.differ f g c = omega (arith, two_small t parts)
      by_word true Word.symbolo f g c = omega (arith, one_small t parts)
      by_word true Word.numbero f g c = omega (arith, one_small t parts)
      by_word true Word.stringo f g c = omega (arith, one_small t parts)
      by_word true Word.absento f g c = omega (arith, second_small t parts)
      by_word true Word.fresh f g c = f
      by_word true Word.conde f g c = omega (arith, c)
      by_word true Word.conj f g c = omega (arith, g)
      by_word true Word.disj f g c = omega (arith, g)
      by_word true Word.conj_two f g c = omega (arith, g)
      by_word true Word.disj_two f g c = omega (arith, g)
      by_word true Word.other f g c = omega (arith, arguments_small t parts)
      by_word true w f g c = omega arith
  goal_small t (Sited.pair at head parts) = omega (arith, some_parts (Sited.pair at head parts))

  goals_small : (t : Table) (d : Sited) → goals_size (goal_forms t d) ≤ site_size d
  goals_small t (Sited.pair p g parts) = omega (arith, goal_small t g, others_small t parts)
  goals_small t d = omega (arith, some_parts d)

  others_small : (t : Table) (d : Sited) → others_size (goal_forms t d) ≤ site_size d
  others_small t (Sited.pair p g parts) = omega (arith, goal_small t g, others_small t parts)
  others_small t d = omega arith

  fresh_small : (t : Table) (at : ℕ) (d : Sited) → goal_size (fresh_form t at d) ≤ 2 + site_size d
  fresh_small t at (Sited.pair p b goals) = omega (arith, binder_small t b, goals_small t goals, some_parts b)
  fresh_small t at d = omega arith

  clauses_small : (t : Table) (d : Sited) → goals_size (clause_forms t d) ≤ site_size d
  clauses_small t (Sited.pair p c parts) = omega (arith, clause_small t (is_proper c) c (goals_small t c), other_clauses_small t parts)
  clauses_small t d = omega (arith, some_parts d)

  other_clauses_small : (t : Table) (d : Sited) → others_size (clause_forms t d) ≤ site_size d
  other_clauses_small t (Sited.pair p c parts) = omega (arith, clause_small t (is_proper c) c (goals_small t c), other_clauses_small t parts)
  other_clauses_small t d = omega arith

-- a top form
head_small : (t : Table) (d : Sited) → length (head t d).value ≤ site_size d
head_small t (Sited.pair at a params) = by_proper (is_proper params) refl
  where
    by_proper : (b : Bool) → is_proper params ≡ b → length (head t (Sited.pair at a params)).value ≤ 1 + site_size a + site_size params
    by_proper true e = rw e (omega (arith, bound_small params))
    by_proper false e = rw e (omega arith)
head_small t d = omega arith

relation_small : (t : Table) (at : ℕ) (d : Sited) → form_size (relation_form t at d) ≤ 3 + site_size d
relation_small t at (Sited.pair p h goals) = by_proper (is_proper goals)
  where
    by_proper : (b : Bool) → form_size (if b then relation (head_name h) (head t h) (goal_forms t goals) else misshapen at) ≤ 3 + (1 + site_size h + site_size goals)
    by_proper true = omega (arith, head_small t h, goals_small t goals)
    by_proper false = omega arith
relation_small t at d = omega arith

list_run_small : (t : Table) (at : ℕ) (l : Checked (Option ℕ)) (b goals : Sited) (proper : Bool) →
    form_size (if proper then run_of_list l (binder t b) (goal_forms t goals) else misshapen at) ≤ 5 + (1 + site_size b + site_size goals)
list_run_small t at l b goals true = omega (arith, binder_small t b, goals_small t goals)
list_run_small t at l b goals false = omega arith

run_small : (t : Table) (at : ℕ) (l : Checked (Option ℕ)) (d : Sited) → form_size (run_form t at l d) ≤ 5 + site_size d
run_small t at l (Sited.pair p (Sited.name q s) goals) = by_proper (is_proper goals)
  where
    by_proper : (b : Bool) → form_size (if b then run_of_one l (record { value = s ∷ []; faults = binder_faults t [] (Sited.name q s) }) (goal_forms t goals) else misshapen at) ≤ 5 + (1 + 1 + site_size goals)
    by_proper true = omega (arith, goals_small t goals)
    by_proper false = omega arith
run_small t at l (Sited.pair p (Sited.text q s) goals) = list_run_small t at l (Sited.text q s) goals (is_proper goals)
run_small t at l (Sited.pair p (Sited.num q s) goals) = list_run_small t at l (Sited.num q s) goals (is_proper goals)
run_small t at l (Sited.pair p (Sited.bool q s) goals) = list_run_small t at l (Sited.bool q s) goals (is_proper goals)
run_small t at l (Sited.pair p (Sited.nil q) goals) = list_run_small t at l (Sited.nil q) goals (is_proper goals)
run_small t at l (Sited.pair p (Sited.pair q a d) goals) = list_run_small t at l (Sited.pair q a d) goals (is_proper goals)
run_small t at l d = omega arith

limited_small : (t : Table) (at : ℕ) (d : Sited) → form_size (limited_form t at d) ≤ 5 + site_size d
limited_small t at (Sited.pair p l parts) = omega (arith, run_small t at (limit l) parts)
limited_small t at d = omega arith

pub form_small : (t : Table) (d : Sited) → form_size (form t d) ≤ 3 + site_size d
form_small t (Sited.pair at h parts) = by_word (head_word t h) (some_parts h) (relation_small t at parts) (limited_small t at parts) (run_small t at no_limit parts)
  where
    by_word : (w : Word) → 1 ≤ site_size h → form_size (relation_form t at parts) ≤ 3 + site_size parts → form_size (limited_form t at parts) ≤ 5 + site_size parts → form_size (run_form t at no_limit parts) ≤ 5 + site_size parts →
        form_size (elim w as (λ x. Form) [
          | Word.defrel ↦ relation_form t at parts
          | Word.run ↦ limited_form t at parts
          | Word.run_all ↦ run_form t at no_limit parts
          | _ ↦ unknown at
        ]) ≤ 3 + (1 + site_size h + site_size parts)
    by_word Word.defrel some r l a = omega (arith, r, some)
    by_word Word.run some r l a = omega (arith, l, some)
    by_word Word.run_all some r l a = omega (arith, a, some)
    by_word w some r l a = omega arith
form_small t d = omega arith

pub forms_small : (t : Table) (ds : List Sited) → forms_size t ds ≤ parts_in ds + 3 * length ds
forms_small t [] = omega arith
forms_small t (d ∷ ds) = omega (arith, form_small t d, forms_small t ds)

-- the forms at the first places of some, and those at the next one and at all
forms_behind : (t : Table) (ds es : List Sited) → forms_size t (ds ++ es) ≡ forms_size t ds + forms_size t es
forms_behind t [] es = omega arith
forms_behind t (d ∷ ds) es = omega (arith, forms_behind t ds es)

pub forms_next : (t : Table) (ds : List Sited) (forms : List ℕ) (i : ℕ) → i < length forms →
    forms_size t (map (site_at ds) (take (i + 1) forms)) ≡ forms_size t (map (site_at ds) (take i forms)) + form_size (form t (site_at ds (get_or forms i 0)))
forms_next t ds forms i here =
    ap (forms_size t) (sites_next ds forms i here)
    ∙ forms_behind t (map (site_at ds) (take i forms)) (site_at ds (get_or forms i 0) ∷ [])
    ∙ omega arith

pub forms_front : (t : Table) (ds : List Sited) (forms : List ℕ) (i : ℕ) → forms_size t (map (site_at ds) (take i forms)) ≤ forms_size t (map (site_at ds) forms)
forms_front t ds [] zero = omega arith
forms_front t ds [] (suc i) = omega arith
forms_front t ds (p ∷ ps) zero = omega arith
forms_front t ds (p ∷ ps) (suc i) = omega (arith, forms_front t ds ps i)
