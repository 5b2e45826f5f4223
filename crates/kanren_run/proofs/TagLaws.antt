-- Goals whose tags have names, where those of their entries in a table have.
use Rattle.std.proofs.Common.{◌≡◌, ◌<◌, ℕ, zero, suc, true, List, [], ◌∷◌, ◌++◌, map, refl, sym, true≢false, arith}
use Rattle.std.specs.Prelude.{◌&&◌, is_some, length, slice_get}
use Rattle.std.specs.List.{list_all}
use Rattle.std.proofs.lemmas.Bool.{and_from, and_parts, lt-ltb}
use Rattle.kan_terms.specs.Table.{Table}
use Rattle.kan_model.specs.Programs.Goals.{Template, Goal}
use Rattle.kan_model.specs.Programs.Tables.{GoalEntry, RelationEntry, Tables, goal_at, goal_of, goals_after, goals_of, templates_of}
use Rattle.kan_model.specs.Programs.Closed as programs
use Rattle.goal_syntax.specs.Compiling.SymbolNames as entries
use Rattle.kanren_run.specs.Tags.{are_named, is_body_named, is_query_named}
use Rattle.kanren_run.proofs.DeclaredTypes as declared

-- a symbol that has a text stands below the number of texts
some_within : (texts : List (List ℕ)) (s : ℕ) → is_some (slice_get texts s) ≡ true → s < length texts
some_within [] s e = absurd (true≢false (sym e))
some_within (t ∷ ts) zero e = omega arith
some_within (t ∷ ts) (suc s) e = let rest : s < length ts = some_within ts s e in omega (arith, rest)

-- the goal at a place is named where all are, and so is a goal past the end
at_named : (table : Table) (gs : List Goal) (i : ℕ) → list_all (are_named table) gs ≡ true → are_named table (goal_at gs i) ≡ true
at_named table [] i e = refl
at_named table (g ∷ gs) zero e = (and_parts (are_named table g) (list_all (are_named table) gs) e).0
at_named table (g ∷ gs) (suc i) e = at_named table gs i (and_parts (are_named table g) (list_all (are_named table) gs) e).1

entry_named : (table : Table) (ts : List Template) (args : List ℕ) (gs : List Goal) (e : GoalEntry) → list_all (are_named table) gs ≡ true → entries.is_goal_named table e ≡ true →
    are_named table (goal_of ts args gs e) ≡ true
entry_named table ts args gs GoalEntry.succeed all named = refl
entry_named table ts args gs GoalEntry.fail all named = refl
entry_named table ts args gs (GoalEntry.same a b) all named = refl
entry_named table ts args gs (GoalEntry.differ a b) all named = refl
entry_named table ts args gs (GoalEntry.symbol a) all named = refl
entry_named table ts args gs (GoalEntry.number a) all named = refl
entry_named table ts args gs (GoalEntry.text a) all named = refl
entry_named table ts args gs (GoalEntry.absent tag a) all named = lt-ltb tag (length table.symbols) (some_within table.symbols tag named)
entry_named table ts args gs (GoalEntry.both g h) all named =
    and_from (are_named table (goal_at gs g)) (are_named table (goal_at gs h)) (at_named table gs g all) (at_named table gs h all)
entry_named table ts args gs (GoalEntry.either g h) all named =
    and_from (are_named table (goal_at gs g)) (are_named table (goal_at gs h)) (at_named table gs g all) (at_named table gs h all)
entry_named table ts args gs (GoalEntry.fresh k g) all named = at_named table gs g all
entry_named table ts args gs (GoalEntry.later g) all named = at_named table gs g all
entry_named table ts args gs (GoalEntry.call r at k) all named = refl

more_named : (table : Table) (gs : List Goal) (g : Goal) → list_all (are_named table) gs ≡ true → are_named table g ≡ true → list_all (are_named table) (gs ++ g ∷ []) ≡ true
more_named table [] g all named = and_from (are_named table g) true named refl
more_named table (h ∷ gs) g all named =
    let parts = and_parts (are_named table h) (list_all (are_named table) gs) all in
    and_from (are_named table h) (list_all (are_named table) (gs ++ g ∷ [])) parts.0 (more_named table gs g parts.1 named)

after_named : (table : Table) (ts : List Template) (args : List ℕ) (gs : List Goal) (es : List GoalEntry) → list_all (are_named table) gs ≡ true → list_all (entries.is_goal_named table) es ≡ true →
    list_all (are_named table) (goals_after ts args gs es) ≡ true
after_named table ts args gs [] all named = all
after_named table ts args gs (e ∷ es) all named =
    let parts = and_parts (entries.is_goal_named table e) (list_all (entries.is_goal_named table) es) named in
    after_named table ts args (gs ++ goal_of ts args gs e ∷ []) es (more_named table gs (goal_of ts args gs e) all (entry_named table ts args gs e all parts.0)) parts.1

-- all goals of tables are named where their entries are
goals_named : (table : Table) (ts : Tables) → entries.are_named table ts ≡ true → list_all (are_named table) (goals_of ts) ≡ true
goals_named table ts named =
    let terms = list_all (entries.is_term_named table) ts.terms in
    let goals = list_all (entries.is_goal_named table) ts.goals in
    let relations = list_all (entries.is_relation_named table) ts.relations in
    after_named table (templates_of ts.terms) ts.arguments [] ts.goals refl (and_parts terms goals (and_parts (terms && goals) relations named).0).1

rows_named : (table : Table) (gs : List Goal) (rows : List RelationEntry) → list_all (are_named table) gs ≡ true →
    list_all (is_body_named table) (map (λ r. record { params = r.params; body = goal_at gs r.body }) rows) ≡ true
rows_named table gs [] all = refl
rows_named table gs (r ∷ rows) all =
    and_from (are_named table (goal_at gs r.body)) (list_all (is_body_named table) (map (λ r. record { params = r.params; body = goal_at gs r.body }) rows)) (at_named table gs r.body all) (rows_named table gs rows all)

asked_named : (table : Table) (program : declared.Program) (qs : List declared.Query) → list_all (are_named table) (goals_of (programs.tables program)) ≡ true →
    list_all (is_query_named table) (map (programs.query_of program) qs) ≡ true
asked_named table program [] all = refl
asked_named table program (q ∷ qs) all =
    and_from (are_named table (programs.goal program q.goal)) (list_all (is_query_named table) (map (programs.query_of program) qs)) (at_named table (goals_of (programs.tables program)) q.goal all) (asked_named table program qs all)

-- the bodies of a program whose tables are named, and the goals of its queries
pub bodies-named : (table : Table) (program : declared.Program) → entries.are_named table (programs.tables program) ≡ true → list_all (is_body_named table) (programs.meaning program).relations ≡ true
bodies-named table program named =
    rows_named table (goals_of (programs.tables program)) (programs.tables program).relations (goals_named table (programs.tables program) named)

pub queries-named : (table : Table) (program : declared.Program) (qs : List declared.Query) → entries.are_named table (programs.tables program) ≡ true →
    list_all (is_query_named table) (map (programs.query_of program) qs) ≡ true
queries-named table program qs named = asked_named table program qs (goals_named table (programs.tables program) named)
