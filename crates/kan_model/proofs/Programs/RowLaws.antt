-- Rows that are pushed: tables stay grown, and each row notes what its tree has.
use Rattle.std.proofs.Common.{◌≡◌, ℕ, Bool, true, false, List, [], ◌∷◌, ◌++◌, length, map, sym, ◌∙◌, ap, subst, if◌then◌else◌}
use Rattle.std.specs.Prelude.{IsTrue}
use Rattle.std.proofs.lemmas.List.{map-append}
use Rattle.kan_model.specs.Programs.Measures.{slots, goal_slots, noted_height, noted_width}
use Rattle.kan_model.specs.Programs.Tables.{Tables, template_of, goal_of, templates_of, goals_of, is_term_grown, is_goal_grown, is_grown, with_term, with_goal}
use Rattle.kan_model.specs.Programs.Nodes.{term_entry, goal_entry, term_entries, goal_entries, tables_from}
use Rattle.kan_model.specs.Programs.Rows.{HeightsNoted, SlotsNoted, WidthsNoted, GoalSlotsNoted}
use Rattle.kan_model.proofs.Programs.TableLaws.{templates-more, goals-more, goals-with_term, grown-with_term, grown-with_goal}
use Rattle.kan_model.proofs.Programs.NoteLaws.{noted-more}
use Rattle.kan_model.specs.declared.nodes.TermRow.{TermRow}
use Rattle.kan_model.specs.declared.nodes.GoalRow.{GoalRow}
use Rattle.kan_model.specs.declared.nodes.Relation.{Relation}

-- what holds of a list and of the list with one element more holds after a push, whether it was refused or not
pub pushed : {X : Type 0} (P : List X → Type 0) (ok : Bool) (old new : List X) (x : X) → new ≡ (if ok then old ++ x ∷ [] else old) → P old → P (old ++ x ∷ []) → P new
pushed P true old new x is kept more = subst P (sym is) more
pushed P false old new x is kept more = subst P (sym is) kept

module _ (rows : List TermRow) (args : List ℕ) (gs : List GoalRow) (rs : List Relation) where
  abbrev all : Tables
  all = tables_from rows args gs rs

  terms-more : (row : TermRow) → tables_from (rows ++ row ∷ []) args gs rs ≡ with_term all (term_entry row.node)
  terms-more row = ap (λ es. record all { terms = es }) (map-append (λ r. term_entry r.node) rows (row ∷ []))

  trees-more : (row : TermRow) → templates_of (term_entries (rows ++ row ∷ [])) ≡ templates_of (term_entries rows) ++ template_of (templates_of (term_entries rows)) (term_entry row.node) ∷ []
  trees-more row = ap templates_of (map-append (λ r. term_entry r.node) rows (row ∷ [])) ∙ templates-more [] (term_entries rows) (term_entry row.node)

  pub term-grown : (row : TermRow) → IsTrue (is_grown all) → is_term_grown (length (term_entries rows)) (term_entry row.node) ≡ true → IsTrue (is_grown (tables_from (rows ++ row ∷ []) args gs rs))
  term-grown row grown there = ap is_grown (terms-more row) ∙ grown-with_term all (term_entry row.node) grown there

  pub term-heights : (row : TermRow) → HeightsNoted rows (templates_of (term_entries rows)) → row.height ≡ noted_height (template_of (templates_of (term_entries rows)) (term_entry row.node)) →
      HeightsNoted (rows ++ row ∷ []) (templates_of (term_entries (rows ++ row ∷ [])))
  term-heights row old is =
      noted-more (λ r. r.height) noted_height rows (templates_of (term_entries rows)) row _ old is ∙ ap (map noted_height) (sym (trees-more row))

  pub term-slots : (row : TermRow) → SlotsNoted rows (templates_of (term_entries rows)) → row.slots ≡ slots (template_of (templates_of (term_entries rows)) (term_entry row.node)) →
      SlotsNoted (rows ++ row ∷ []) (templates_of (term_entries (rows ++ row ∷ [])))
  term-slots row old is =
      noted-more (λ r. r.slots) slots rows (templates_of (term_entries rows)) row _ old is ∙ ap (map slots) (sym (trees-more row))

  pub term-goals : (row : TermRow) → IsTrue (is_grown all) → goals_of (tables_from (rows ++ row ∷ []) args gs rs) ≡ goals_of all
  term-goals row grown = ap goals_of (terms-more row) ∙ goals-with_term all (term_entry row.node) grown

  goals-longer : (row : GoalRow) → tables_from rows args (gs ++ row ∷ []) rs ≡ with_goal all (goal_entry row.node)
  goals-longer row = ap (λ es. record all { goals = es }) (map-append (λ r. goal_entry r.node) gs (row ∷ []))

  goal-trees : (row : GoalRow) → goals_of (tables_from rows args (gs ++ row ∷ []) rs) ≡ goals_of all ++ goal_of (templates_of (term_entries rows)) args (goals_of all) (goal_entry row.node) ∷ []
  goal-trees row = ap goals_of (goals-longer row) ∙ goals-more (templates_of (term_entries rows)) args [] (goal_entries gs) (goal_entry row.node)

  pub goal-grown : (row : GoalRow) → IsTrue (is_grown all) → is_goal_grown all (length (goal_entries gs)) (goal_entry row.node) ≡ true → IsTrue (is_grown (tables_from rows args (gs ++ row ∷ []) rs))
  goal-grown row grown there = ap is_grown (goals-longer row) ∙ grown-with_goal all (goal_entry row.node) grown there

  pub goal-widths : (row : GoalRow) → WidthsNoted gs (goals_of all) → row.width ≡ noted_width (goal_of (templates_of (term_entries rows)) args (goals_of all) (goal_entry row.node)) →
      WidthsNoted (gs ++ row ∷ []) (goals_of (tables_from rows args (gs ++ row ∷ []) rs))
  goal-widths row old is =
      noted-more (λ r. r.width) noted_width gs (goals_of all) row _ old is ∙ ap (map noted_width) (sym (goal-trees row))

  pub goal-needs : (row : GoalRow) → GoalSlotsNoted gs (goals_of all) → row.slots ≡ goal_slots (goal_of (templates_of (term_entries rows)) args (goals_of all) (goal_entry row.node)) →
      GoalSlotsNoted (gs ++ row ∷ []) (goals_of (tables_from rows args (gs ++ row ∷ []) rs))
  goal-needs row old is =
      noted-more (λ r. r.slots) goal_slots gs (goals_of all) row _ old is ∙ ap (map goal_slots) (sym (goal-trees row))
