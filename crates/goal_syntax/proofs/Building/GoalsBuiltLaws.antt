-- What stands in tables while goals are built.
use Rattle.std.proofs.Common.{◌≡◌, ℕ, ◌<◌, List, [], ◌∷◌, ◌++◌, length, map, reverse, refl, sym, ◌∙◌, ap, ap₂, Option, Some, None}
use Rattle.std.specs.Prelude.{Bool, true, false, ◌&&◌}
use Rattle.std.proofs.lemmas.Bool.{and_from, and_parts, ltb-true, lt-ltb}
use Rattle.std.proofs.lemmas.List.{reverse-append}
use Rattle.kan_model.specs.Programs.Goals.{Goal}
use Rattle.kan_model.specs.Programs.Nodes.{goal_entry}
use Rattle.kan_model.specs.declared.nodes.GoalNode.{GoalNode}
use Rattle.kan_model.specs.Programs.Calls.{call_there}
use Rattle.kan_model.specs.Programs.Tables.{Tables, GoalEntry, RelationEntry, goal_at, goals_of, is_goal_grown}
use Rattle.goal_syntax.specs.Building.GrownTables.{HasGoal, Grows}
use Rattle.goal_syntax.specs.Building.CallsThere.{calls_named, are_there}
use Rattle.goal_syntax.specs.Building.GoalsBuilt.{Built, stack_goals, entry_goal, with_entry, with_goal, with_maybe, Stands, StandsFor}
use Rattle.goal_syntax.specs.Building.GoalsLeft.{both_of, empty_entry, join_entry, with_last_joined, row_goal}
use Rattle.goal_syntax.specs.declared.join_goal.Row.{Row}
use Rattle.goal_syntax.specs.declared.join_goal.Row.TheVariants as rows
use Rattle.goal_forms.specs.Places.{are_below}
use Rattle.goal_forms.proofs.PlaceLaws.{below-push, below-split}

-- a goal is among those of a table that grew
pub goal_kept : (ts us : Tables) (p : ℕ) → Grows ts us → p < length ts.goals → HasGoal us p (goal_at (goals_of ts) p)
goal_kept ts us p grows there = grows.goals p (goal_at (goals_of ts) p) (record { there = there; is = refl })

-- places are there in tables that grew
pub below_grown : (ts us : Tables) (ps : List ℕ) → Grows ts us → are_below (length ts.goals) ps ≡ true → are_below (length us.goals) ps ≡ true
below_grown ts us [] grows below = refl
below_grown ts us (p ∷ ps) grows below =
    let both = and_parts _ _ below in
    and_from _ _ (lt-ltb p (length us.goals) (goal_kept ts us p grows (ltb-true p (length ts.goals) both.0)).there) (below_grown ts us ps grows both.1)

goals_kept : (ts us : Tables) (ps : List ℕ) → Grows ts us → are_below (length ts.goals) ps ≡ true → map (goal_at (goals_of us)) ps ≡ map (goal_at (goals_of ts)) ps
goals_kept ts us [] grows below = refl
goals_kept ts us (p ∷ ps) grows below =
    let both = and_parts _ _ below in
    ap₂ (λ g gs. g ∷ gs) (goal_kept ts us p grows (ltb-true p (length ts.goals) both.0)).is (goals_kept ts us ps grows both.1)

-- the stack from its top has the same places
below_top : (n : ℕ) (ps : List ℕ) → are_below n ps ≡ true → are_below n (reverse ps) ≡ true
below_top n [] below = refl
below_top n (p ∷ ps) below =
    let both = and_parts _ _ below in
    ap (are_below n) (reverse-append (p ∷ []) ps) ∙ below-push n (reverse ps) p (below_top n ps both.1) (ltb-true p n both.0)

abbrev pub built_from : List Goal → (List RelationEntry → Bool) → Built
built_from gs called = record { made = gs; called = called }

-- what was built stays as it is in tables that grew
pub built_kept : (ts us : Tables) (ps : List ℕ) → Grows ts us → us.goals ≡ ts.goals → are_below (length ts.goals) ps ≡ true → stack_goals us ps ≡ stack_goals ts ps
built_kept ts us ps grows same below =
    let goals = goals_kept ts us (reverse ps) grows (below_top (length ts.goals) ps below) in
    λ i. built_from (goals i) (λ rows. are_there rows (same i))

-- the goal of an entry that is added comes on top
pub made_top : (ts us : Tables) (ps qs : List ℕ) (at : ℕ) (e : GoalEntry) → are_below (length ts.goals) ps ≡ true → Grows ts us →
    HasGoal us at (entry_goal ts e) →
    ((rows : List RelationEntry) → are_there rows us.goals ≡ (are_there rows ts.goals && call_there rows e)) → qs ≡ ps ++ at ∷ [] → stack_goals us qs ≡ with_entry ts e (stack_goals ts ps)
made_top ts us ps qs at e below grows added called pushed =
    let top : reverse qs ≡ at ∷ reverse ps = ap reverse pushed ∙ reverse-append ps (at ∷ []) in
    let goals = ap (map (goal_at (goals_of us))) top ∙ ap₂ (λ x xs. x ∷ xs) added.is (goals_kept ts us (reverse ps) grows (below_top (length ts.goals) ps below)) in
    λ i. built_from (goals i) (λ rows. called rows i)

pub made_below : (ts us : Tables) (ps qs : List ℕ) (at : ℕ) (g : Goal) → are_below (length ts.goals) ps ≡ true → Grows ts us → HasGoal us at g → qs ≡ ps ++ at ∷ [] → are_below (length us.goals) qs ≡ true
made_below ts us ps qs at g below grows added pushed = ap (are_below (length us.goals)) pushed ∙ below-push (length us.goals) ps at (below_grown ts us ps grows below) added.there

-- an entry that stands for a goal adds it
pub stands_added : (ts : Tables) (e : GoalEntry) (g : Goal) (b : Built) → Stands ts e g → with_entry ts e b ≡ with_goal g b
stands_added ts e g b stands = λ i. built_from (stands.is i ∷ b.made) (λ rows. b.called rows && stands.called rows i)

-- a goal's own node was added, where it has one
pub own_some : (us : Tables) (node : GoalNode) (r : Option GoalNode) (g : Option Goal) (b : Built) → r ≡ Some node → StandsFor us r g → with_entry us (goal_entry node) b ≡ with_maybe g b
own_some us node None g b e stands = cc
own_some us node (Some n) None b e stands = absurd stands
own_some us node (Some n) (Some x) b e stands = stands_added us (goal_entry node) x b (rw (ap (node_or n) e) at stands)
  where
    node_or : GoalNode → Option GoalNode → GoalNode
    node_or z None = z
    node_or z (Some m) = m

pub own_none : (us : Tables) (r : Option GoalNode) (g : Option Goal) (b : Built) → r ≡ None → StandsFor us r g → b ≡ with_maybe g b
own_none us None None b e stands = refl
own_none us None (Some x) b e stands = absurd stands
own_none us (Some n) g b e stands = cc

-- the places below the top two, and these two
pub top_two : (n : ℕ) (p0 p1 p2 : List ℕ) (g h : ℕ) → p0 ≡ p1 ++ h ∷ [] → p1 ≡ p2 ++ g ∷ [] → are_below n p0 ≡ true → (are_below n p2 ≡ true) × (g < n) × (h < n)
top_two n p0 p1 p2 g h top next below =
    let outer = below-split n p1 h (sym (ap (are_below n) top) ∙ below) in
    let inner = below-split n p2 g (sym (ap (are_below n) next) ∙ outer.0) in
    (inner.0, inner.1, outer.1)

-- goals that are joined as those of a row may be added where both are there
pub join_grown : (ts : Tables) (row : Row) (g h : ℕ) (e : GoalEntry) → e ≡ join_entry row g h → g < length ts.goals → h < length ts.goals → is_goal_grown ts (length ts.goals) e ≡ true
join_grown ts rows.All g h e is first second = ap (is_goal_grown ts (length ts.goals)) is ∙ and_from _ _ (lt-ltb g (length ts.goals) first) (lt-ltb h (length ts.goals) second)
join_grown ts rows.One g h e is first second = ap (is_goal_grown ts (length ts.goals)) is ∙ and_from _ _ (lt-ltb g (length ts.goals) first) (lt-ltb h (length ts.goals) second)
join_grown ts rows.Clauses g h e is first second = ap (is_goal_grown ts (length ts.goals)) is ∙ and_from _ _ (lt-ltb g (length ts.goals) first) (lt-ltb h (length ts.goals) second)

-- the one goal that is left is that of all
pub goal_called : (ts us : Tables) (ps : List ℕ) (g : Goal) → stack_goals us ps ≡ with_goal g (stack_goals ts []) → (rows : List RelationEntry) → are_there rows us.goals ≡ (are_there rows ts.goals && calls_named rows g)
goal_called ts us ps g made = λ rows. ap (λ (b : Built). b.called rows) made

and_true : (x : Bool) → (x && true) ≡ x
and_true true = refl
and_true false = refl

join_entry_added : (ts : Tables) (row : Row) (g h : ℕ) (b : Built) →
    with_entry ts (join_entry row g h) b ≡ built_from (both_of row (goal_at (goals_of ts) g) (goal_at (goals_of ts) h) ∷ b.made) b.called
join_entry_added ts rows.All g h b = λ i. built_from (both_of rows.All (goal_at (goals_of ts) g) (goal_at (goals_of ts) h) ∷ b.made) (λ entries. and_true (b.called entries) i)
join_entry_added ts rows.One g h b = λ i. built_from (both_of rows.One (goal_at (goals_of ts) g) (goal_at (goals_of ts) h) ∷ b.made) (λ entries. and_true (b.called entries) i)
join_entry_added ts rows.Clauses g h b = λ i. built_from (both_of rows.Clauses (goal_at (goals_of ts) g) (goal_at (goals_of ts) h) ∷ b.made) (λ entries. and_true (b.called entries) i)

-- the two goals on top are joined
pub two_joined : (ts : Tables) (row : Row) (p0 p1 p2 : List ℕ) (g h : ℕ) (e : GoalEntry) (after : Built) → p0 ≡ p1 ++ h ∷ [] → p1 ≡ p2 ++ g ∷ [] → e ≡ join_entry row g h →
    after ≡ with_entry ts e (stack_goals ts p2) → after ≡ with_last_joined row (stack_goals ts p0)
two_joined ts row p0 p1 p2 g h e after top next is added =
    let all : reverse p0 ≡ h ∷ g ∷ reverse p2 = ap reverse top ∙ reverse-append p1 (h ∷ []) ∙ ap (λ l. h ∷ l) (ap reverse next ∙ reverse-append p2 (g ∷ [])) in
    added ∙ ap (λ x. with_entry ts x (stack_goals ts p2)) is ∙ join_entry_added ts row g h (stack_goals ts p2)
    ∙ sym (ap (λ l. with_last_joined row (built_from (map (goal_at (goals_of ts)) l) (λ entries. are_there entries ts.goals))) all)

-- the goal of an empty row
pub empty_stands : (ts : Tables) (row : Row) → Stands ts (empty_entry row) (row_goal row [])
empty_stands ts rows.All = record { grown = refl; is = refl; called = λ entries. refl }
empty_stands ts rows.One = record { grown = refl; is = refl; called = λ entries. refl }
empty_stands ts rows.Clauses = record { grown = refl; is = refl; called = λ entries. refl }
