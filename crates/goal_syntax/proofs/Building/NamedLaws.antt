-- The entries of tables have names where the data have of which they are built.
use Rattle.std.proofs.Common.{◌≡◌, ℕ, ◌≤◌, max, List, [], ◌∷◌, ◌++◌, refl, ap, ap₂, ◌∙◌, arith, Option, Some, None}
use Rattle.std.specs.Prelude.{Bool, true, false, ◌&&◌, is_some, if◌then◌else◌}
use Rattle.std.specs.List.{list_all}
use Rattle.std.proofs.lemmas.Bool.{and_from}
use Rattle.kan_terms.specs.Tree.{Tree}
use Rattle.kan_terms.specs.Table.{Table, name_of}
use Rattle.kan_grammar.specs.Texts.Sited.{Sited, constant, is_proper}
use Rattle.kan_grammar.specs.Texts.Language.{Word, head_word}
use Rattle.kan_grammar.specs.Texts.Binders.{tag, tag_or}
use Rattle.kan_grammar.specs.Texts.TermForms.{Use, bad_term, quote_form, term_form, cons_form, list_form, quasiquote_form, template_form, unquote_form}
use Rattle.kan_grammar.specs.Texts.TopForms.{name_at, head_name}
use Rattle.kan_model.specs.Programs.Tables.{TermEntry, GoalEntry, RelationEntry, Tables, with_term, with_argument, with_goal, with_relation}
use Rattle.goal_forms.specs.Parts.{site_at}
use Rattle.goal_forms.specs.Steps.TermSteps.{task_form}
use Rattle.goal_forms.specs.declared.term.Task.{Task}
use Rattle.goal_forms.specs.declared.term.Task.TheVariants as tasks
use Rattle.goal_forms.specs.Unnamed.{lack, symbol_unnamed, site_unnamed, sites_unnamed}
use Rattle.goal_forms.proofs.UnnamedLaws.{at_unnamed}
use Rattle.goal_syntax.specs.Building.FormsBuilt.{name_symbol}
use Rattle.goal_syntax.specs.Building.GoalsLeft.{empty_entry, join_entry}
use Rattle.goal_syntax.specs.declared.join_goal.Row.{Row}
use Rattle.goal_syntax.specs.declared.join_goal.Row.TheVariants as rows
use Rattle.goal_syntax.specs.Building.Named.{term_unnamed, goal_unnamed, relation_unnamed, terms_unnamed, goals_unnamed, relations_unnamed, tables_unnamed, tree_unnamed}
use Rattle.goal_syntax.specs.Compiling.SymbolNames.{are_named, has_name, has_text, is_term_named, is_goal_named, is_relation_named}

-- one entry more
terms-push : (names : Table) (es : List TermEntry) (e : TermEntry) → terms_unnamed names (es ++ e ∷ []) ≡ max (terms_unnamed names es) (term_unnamed names e)
terms-push names [] e = omega arith
terms-push names (x ∷ es) e = omega (arith, terms-push names es e)

goals-push : (names : Table) (es : List GoalEntry) (e : GoalEntry) → goals_unnamed names (es ++ e ∷ []) ≡ max (goals_unnamed names es) (goal_unnamed names e)
goals-push names [] e = omega arith
goals-push names (x ∷ es) e = omega (arith, goals-push names es e)

relations-push : (names : Table) (es : List RelationEntry) (e : RelationEntry) → relations_unnamed names (es ++ e ∷ []) ≡ max (relations_unnamed names es) (relation_unnamed names e)
relations-push names [] e = omega arith
relations-push names (x ∷ es) e = omega (arith, relations-push names es e)

pub term_named : (names : Table) (ts us : Tables) (e : TermEntry) → us ≡ with_term ts e → tables_unnamed names us ≡ max (tables_unnamed names ts) (term_unnamed names e)
term_named names ts us e is = ap (tables_unnamed names) is ∙ omega (arith, terms-push names ts.terms e)

pub argument_named : (names : Table) (ts us : Tables) (a : ℕ) → us ≡ with_argument ts a → tables_unnamed names us ≡ tables_unnamed names ts
argument_named names ts us a is = ap (tables_unnamed names) is

pub goal_named : (names : Table) (ts us : Tables) (e : GoalEntry) → us ≡ with_goal ts e → tables_unnamed names us ≡ max (tables_unnamed names ts) (goal_unnamed names e)
goal_named names ts us e is = ap (tables_unnamed names) is ∙ omega (arith, goals-push names ts.goals e)

pub relation_named : (names : Table) (ts us : Tables) (r : RelationEntry) → us ≡ with_relation ts r → tables_unnamed names us ≡ max (tables_unnamed names ts) (relation_unnamed names r)
relation_named names ts us r is = ap (tables_unnamed names) is ∙ omega (arith, relations-push names ts.relations r)

-- a term has names where its datum has
constant_named : (names : Table) (d : Sited) → tree_unnamed {V = Use} names (constant d) ≡ site_unnamed names d
constant_named names (Sited.name at s) = refl
constant_named names (Sited.text at s) = refl
constant_named names (Sited.num at n) = refl
constant_named names (Sited.bool at b) = refl
constant_named names (Sited.nil at) = refl
constant_named names (Sited.pair at a d) = ap₂ max (constant_named names a) (constant_named names d)

quoted_named : (names : Table) (at : ℕ) (d : Sited) → tree_unnamed names (quote_form at d) ≤ site_unnamed names d
quoted_named names at (Sited.pair p d (Sited.nil e)) = omega (arith, constant_named names d)
quoted_named names at d = omega arith

mutual
  form_named : (n t : Table) (d : Sited) → tree_unnamed n (term_form t d) ≤ site_unnamed n d
  form_named n t (Sited.name at s) = omega arith
  form_named n t (Sited.text at s) = omega arith
  form_named n t (Sited.num at x) = omega arith
  form_named n t (Sited.bool at b) = omega arith
  form_named n t (Sited.nil at) = omega arith
  form_named n t (Sited.pair at head parts) =
      by_word (head_word t head) (is_proper parts) (quoted_named n at parts) (cons_named n t at parts) (list_named n t parts) (quasiquoted_named n t at parts)
    where
      by_word : (w : Word) (proper : Bool) → tree_unnamed n (quote_form at parts) ≤ site_unnamed n parts → tree_unnamed n (cons_form t at parts) ≤ site_unnamed n parts →
          tree_unnamed n (list_form t parts) ≤ site_unnamed n parts → tree_unnamed n (quasiquote_form t at parts) ≤ site_unnamed n parts →
          tree_unnamed n (elim w as (λ x. Tree Use) [
            | Word.quote ↦ quote_form at parts
            | Word.cons ↦ cons_form t at parts
            | Word.list ↦ elim proper [ true ↦ list_form t parts | false ↦ bad_term at ]
            | Word.quasiquote ↦ quasiquote_form t at parts
            | _ ↦ bad_term at
          ]) ≤ max (site_unnamed n head) (site_unnamed n parts)
      by_word Word.quote proper q c l k = omega (arith, q)
      by_word Word.cons proper q c l k = omega (arith, c)
      by_word Word.list true q c l k = omega (arith, l)
      by_word Word.list false q c l k = omega arith
      by_word Word.quasiquote proper q c l k = omega (arith, k)
      by_word w proper q c l k = omega arith

  cons_named : (n t : Table) (at : ℕ) (d : Sited) → tree_unnamed n (cons_form t at d) ≤ site_unnamed n d
  cons_named n t at (Sited.pair p a (Sited.pair q d (Sited.nil e))) = omega (arith, form_named n t a, form_named n t d)
  cons_named n t at d = omega arith

  list_named : (n t : Table) (d : Sited) → tree_unnamed n (list_form t d) ≤ site_unnamed n d
  list_named n t (Sited.pair p a parts) = omega (arith, form_named n t a, list_named n t parts)
  list_named n t d = omega arith

  quasiquoted_named : (n t : Table) (at : ℕ) (d : Sited) → tree_unnamed n (quasiquote_form t at d) ≤ site_unnamed n d
  quasiquoted_named n t at (Sited.pair p d (Sited.nil e)) = omega (arith, template_named n t d)
  quasiquoted_named n t at d = omega arith

  template_named : (n t : Table) (d : Sited) → tree_unnamed n (template_form t d) ≤ site_unnamed n d
  template_named n t (Sited.name at s) = omega arith
  template_named n t (Sited.text at s) = omega arith
  template_named n t (Sited.num at x) = omega arith
  template_named n t (Sited.bool at b) = omega arith
  template_named n t (Sited.nil at) = omega arith
  template_named n t (Sited.pair at a d) = by_word (head_word t a) (unquoted_named n t at d) (template_named n t a) (template_named n t d)
    where
      by_word : (w : Word) → tree_unnamed n (unquote_form t at d) ≤ site_unnamed n d → tree_unnamed n (template_form t a) ≤ site_unnamed n a → tree_unnamed n (template_form t d) ≤ site_unnamed n d →
          tree_unnamed n (elim w as (λ x. Tree Use) [
            | Word.unquote ↦ unquote_form t at d
            | Word.quasiquote ↦ bad_term at
            | _ ↦ Tree.pair (template_form t a) (template_form t d)
          ]) ≤ max (site_unnamed n a) (site_unnamed n d)
      by_word Word.unquote u p q = omega (arith, u)
      by_word Word.quasiquote u p q = omega arith
      by_word w u p q = omega (arith, p, q)

  unquoted_named : (n t : Table) (at : ℕ) (d : Sited) → tree_unnamed n (unquote_form t at d) ≤ site_unnamed n d
  unquoted_named n t at (Sited.pair p u (Sited.nil e)) = omega (arith, form_named n t u)
  unquoted_named n t at d = omega arith

-- the term of a task
pub task_named : (n : Table) (ds : List Sited) (t : Table) (task : Task) → tree_unnamed n (task_form ds t task) ≤ sites_unnamed n ds
task_named n ds t (tasks.Term p) = omega (arith, form_named n t (site_at ds p), at_unnamed n ds p)
task_named n ds t (tasks.Terms p) = omega (arith, list_named n t (site_at ds p), at_unnamed n ds p)
task_named n ds t (tasks.Template p) = omega (arith, template_named n t (site_at ds p), at_unnamed n ds p)
task_named n ds t (tasks.Constant p) = omega (arith, constant_named n (site_at ds p), at_unnamed n ds p)

-- a tag, and the name of a relation; where there is none, the first symbol stands
pub tag_site : (n t : Table) (d : Sited) → symbol_unnamed n (tag t d).value ≤ max (symbol_unnamed n 0) (site_unnamed n d)
tag_site n t (Sited.pair p q (Sited.pair r (Sited.name at s) (Sited.nil e))) = by_word (head_word t q)
  where
    by_word : (w : Word) → symbol_unnamed n (tag_or (elim w as (λ x. Option ℕ) [ Word.quote ↦ Some s | _ ↦ None ]) p).value ≤ max (symbol_unnamed n 0) (max (site_unnamed n q) (max (symbol_unnamed n s) 0))
    by_word Word.quote = omega arith
    by_word w = omega arith
tag_site n t d = omega arith

pub name_site : (n : Table) (d : Sited) → symbol_unnamed n (name_symbol (head_name d)) ≤ max (symbol_unnamed n 0) (site_unnamed n d)
name_site n (Sited.pair p (Sited.name at s) params) = by_proper (is_proper params)
  where
    by_proper : (b : Bool) → symbol_unnamed n (name_symbol (if b then Some (name_at at s) else None)) ≤ max (symbol_unnamed n 0) (max (symbol_unnamed n s) (site_unnamed n params))
    by_proper true = omega arith
    by_proper false = omega arith
name_site n d = omega arith

-- entries that make goals of others have no symbols
pub empty_named : (n : Table) (row : Row) (e : GoalEntry) → e ≡ empty_entry row → goal_unnamed n e ≡ 0
empty_named n rows.All e is = ap (goal_unnamed n) is
empty_named n rows.One e is = ap (goal_unnamed n) is
empty_named n rows.Clauses e is = ap (goal_unnamed n) is

pub join_named : (n : Table) (row : Row) (g h : ℕ) (e : GoalEntry) → e ≡ join_entry row g h → goal_unnamed n e ≡ 0
join_named n rows.All g h e is = ap (goal_unnamed n) is
join_named n rows.One g h e is = ap (goal_unnamed n) is
join_named n rows.Clauses g h e is = ap (goal_unnamed n) is

-- where there is a symbol at all, the first one is there
pub first_named : (n : Table) (s : ℕ) → symbol_unnamed n s ≡ 0 → symbol_unnamed n 0 ≡ 0
first_named n s e = by_symbols n.symbols e
  where
    by_symbols : (texts : List (List ℕ)) → lack (is_some (name_of texts s)) ≡ 0 → lack (is_some (name_of texts 0)) ≡ 0
    by_symbols [] h = absurd (omega (arith, h))
    by_symbols (x ∷ xs) h = refl

-- tables in which nothing lacks a name
lacks_none : (b : Bool) → lack b ≤ 0 → b ≡ true
lacks_none true few = refl
lacks_none false few = absurd (omega (arith, few))

term_is : (n : Table) (e : TermEntry) → term_unnamed n e ≤ 0 → is_term_named n e ≡ true
term_is n (TermEntry.slot i) few = refl
term_is n (TermEntry.sym s) few = lacks_none (has_name n s) few
term_is n (TermEntry.str s) few = lacks_none (has_text n s) few
term_is n (TermEntry.num x) few = refl
term_is n (TermEntry.truth b) few = refl
term_is n TermEntry.nil few = refl
term_is n (TermEntry.pair a b) few = refl

goal_is : (n : Table) (e : GoalEntry) → goal_unnamed n e ≤ 0 → is_goal_named n e ≡ true
goal_is n GoalEntry.succeed few = refl
goal_is n GoalEntry.fail few = refl
goal_is n (GoalEntry.same a b) few = refl
goal_is n (GoalEntry.differ a b) few = refl
goal_is n (GoalEntry.symbol a) few = refl
goal_is n (GoalEntry.number a) few = refl
goal_is n (GoalEntry.text a) few = refl
goal_is n (GoalEntry.absent t a) few = lacks_none (has_name n t) few
goal_is n (GoalEntry.both g h) few = refl
goal_is n (GoalEntry.either g h) few = refl
goal_is n (GoalEntry.fresh k g) few = refl
goal_is n (GoalEntry.later g) few = refl
goal_is n (GoalEntry.call r at k) few = refl

terms_are : (n : Table) (es : List TermEntry) → terms_unnamed n es ≤ 0 → list_all (is_term_named n) es ≡ true
terms_are n [] few = refl
terms_are n (e ∷ es) few = and_from (is_term_named n e) (list_all (is_term_named n) es) (term_is n e (omega (arith, few))) (terms_are n es (omega (arith, few)))

goals_are : (n : Table) (es : List GoalEntry) → goals_unnamed n es ≤ 0 → list_all (is_goal_named n) es ≡ true
goals_are n [] few = refl
goals_are n (e ∷ es) few = and_from (is_goal_named n e) (list_all (is_goal_named n) es) (goal_is n e (omega (arith, few))) (goals_are n es (omega (arith, few)))

relations_are : (n : Table) (es : List RelationEntry) → relations_unnamed n es ≤ 0 → list_all (is_relation_named n) es ≡ true
relations_are n [] few = refl
relations_are n (e ∷ es) few = and_from (is_relation_named n e) (list_all (is_relation_named n) es) (lacks_none (has_name n e.name) (omega (arith, few))) (relations_are n es (omega (arith, few)))

pub all_named : (n : Table) (ts : Tables) → tables_unnamed n ts ≤ 0 → are_named n ts ≡ true
all_named n ts few =
    and_from (list_all (is_term_named n) ts.terms && list_all (is_goal_named n) ts.goals) (list_all (is_relation_named n) ts.relations)
    (and_from (list_all (is_term_named n) ts.terms) (list_all (is_goal_named n) ts.goals) (terms_are n ts.terms (omega (arith, few))) (goals_are n ts.goals (omega (arith, few))))
    (relations_are n ts.relations (omega (arith, few)))
