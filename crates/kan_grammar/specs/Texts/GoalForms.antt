-- Goals as they are written: trees of goals, in which spots of bad shape are marked.
use Rattle.std.specs.Prelude.{ℕ, Bool, true, false, ◌==◌, nat_le, List, [], ◌∷◌, Option, Some}
use Rattle.kan_terms.specs.Table.{Table}
use Rattle.kan_grammar.specs.Texts.Sited.{Sited, site, is_proper, count, first, rest}
use Rattle.kan_grammar.specs.Texts.Language.{Word, word}
use Rattle.kan_grammar.specs.Texts.Binders.{Checked, binder, tag}
use Rattle.kan_grammar.specs.Texts.TermForms.{TermForm, term_form}

mutual
  -- a goal as it is written
  pub data GoalForm : Type 0 where
    succeed : GoalForm
    fail : GoalForm
    same : TermForm → TermForm → GoalForm
    differ : TermForm → TermForm → GoalForm
    symbol : TermForm → GoalForm
    number : TermForm → GoalForm
    text : TermForm → GoalForm
    absent : Checked ℕ → TermForm → GoalForm
    -- the names that it binds, and its goals
    fresh : Checked (List ℕ) → GoalForms → GoalForm
    all_of : GoalForms → GoalForm
    one_of : GoalForms → GoalForm
    -- one of the clauses of a conde, each of which is goals that hold together
    clauses : GoalForms → GoalForm
    -- the offset and the symbol of its head, and its arguments
    call : ℕ → ℕ → List TermForm → GoalForm
    -- at an offset stands no goal
    misshapen : ℕ → GoalForm

  -- goals in a row
  pub data GoalForms : Type 0 where
    none : GoalForms
    more : GoalForm → GoalForms → GoalForms

-- how many parts may follow a head
pub data Parts : Type 0 where
  exactly : ℕ → Parts
  at_least : ℕ → Parts
  -- the head makes no goal
  never : Parts

-- the goals of the language by their heads; another head is a relation's
abbrev pub parts_of : Word → Parts
parts_of Word.same = Parts.exactly 2
parts_of Word.differ = Parts.exactly 2
parts_of Word.symbolo = Parts.exactly 1
parts_of Word.numbero = Parts.exactly 1
parts_of Word.stringo = Parts.exactly 1
parts_of Word.absento = Parts.exactly 2
parts_of Word.fresh = Parts.at_least 1
parts_of Word.conde = Parts.at_least 0
parts_of Word.conj = Parts.at_least 0
parts_of Word.disj = Parts.at_least 0
parts_of Word.conj_two = Parts.exactly 2
parts_of Word.disj_two = Parts.exactly 2
parts_of Word.other = Parts.at_least 0
parts_of w = Parts.never

-- a proper list has so many elements
abbrev pub is_count : Parts → Option ℕ → Bool
is_count (Parts.exactly k) (Some n) = n == k
is_count (Parts.at_least k) (Some n) = nat_le k n
is_count p n = false

-- a symbol is a goal where it is one of two
abbrev pub atom_goal : Word → ℕ → GoalForm
atom_goal Word.succeed at = succeed
atom_goal Word.fail at = fail
atom_goal w at = misshapen at

-- terms in a row
abbrev pub term_forms : Table → Sited → List TermForm
term_forms t (Sited.pair _ a parts) = term_form t a ∷ term_forms t parts
term_forms t d = []

-- the first of the parts after a head, as a term, and the second
abbrev pub term_one : Table → Sited → TermForm
term_one t parts = term_form t (first parts)

abbrev pub term_two : Table → Sited → TermForm
term_two t parts = term_form t (first (rest parts))

-- a goal is what its head says of the parts after it
abbrev mutual
  pub goal_form : Table → Sited → GoalForm
  goal_form t (Sited.name at s) = atom_goal (word t s) at
  goal_form t (Sited.pair at (Sited.name head s) parts) =
      elim (is_count (parts_of (word t s)) (count parts)) [
        | false ↦ misshapen at
        | true ↦ elim (word t s) [
          | Word.same ↦ same (term_one t parts) (term_two t parts)
          | Word.differ ↦ differ (term_one t parts) (term_two t parts)
          | Word.symbolo ↦ symbol (term_one t parts)
          | Word.numbero ↦ number (term_one t parts)
          | Word.stringo ↦ text (term_one t parts)
          | Word.absento ↦ absent (tag t (first parts)) (term_two t parts)
          | Word.fresh ↦ fresh_form t at parts
          | Word.conde ↦ clauses (clause_forms t parts)
          | Word.conj ↦ all_of (goal_forms t parts)
          | Word.disj ↦ one_of (goal_forms t parts)
          | Word.conj_two ↦ all_of (goal_forms t parts)
          | Word.disj_two ↦ one_of (goal_forms t parts)
          | Word.other ↦ call head s (term_forms t parts)
          | _ ↦ misshapen at
        ]
      ]
  goal_form t d = misshapen (site d)

  -- goals in a row
  pub goal_forms : Table → Sited → GoalForms
  goal_forms t (Sited.pair _ g parts) = more (goal_form t g) (goal_forms t parts)
  goal_forms t d = none

  -- a binder, and the goals in which it binds
  pub fresh_form : Table → ℕ → Sited → GoalForm
  fresh_form t at (Sited.pair _ b goals) = fresh (binder t b) (goal_forms t goals)
  fresh_form t at d = misshapen at

  -- clauses in a row, each a proper list of goals that hold together
  pub clause_forms : Table → Sited → GoalForms
  clause_forms t (Sited.pair _ c parts) =
      more (elim (is_proper c) [ true ↦ all_of (goal_forms t c) | false ↦ misshapen (site c) ])
      (clause_forms t parts)
  clause_forms t d = none
