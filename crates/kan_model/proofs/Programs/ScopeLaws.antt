-- How many slots are needed says which goals are in scope, and what rows note says which tables are closed.
use Rattle.std.proofs.Common.{◌≡◌, ℕ, suc, zero, ◌+◌, ◌-◌, ◌≤◌, Bool, true, false, List, [], ◌∷◌, ◌++◌, length, map, take, drop, refl, sym, ◌∙◌, ap, ap₂, arith, max, length-drop}
use Rattle.std.specs.Prelude.{◌&&◌, nat_lt, nat_le, slice_get, Some, None, Option, option_map}
use Rattle.std.specs.List.{list_all}
use Rattle.std.proofs.lemmas.Bool.{and_from, and_parts, leb-true, le-leb, ltb-true, lt-ltb}
use Rattle.std.proofs.lemmas.List.{length-map}
use Rattle.std.proofs.lemmas.List.Folds.{list_all-append, list_all-map}
use Rattle.std.proofs.lemmas.Option.{slice_get-map, slice_get_within}
use Rattle.kan_terms.specs.Tree.{Tree}
use Rattle.kan_model.specs.Programs.Goals.{Template, Goal, Primitive, Relation}
use Rattle.kan_model.specs.Programs.Scope.{height, is_low, all_below, sides_below, in_scope, takes, calls_there, body_in_scope}
use Rattle.kan_model.specs.Programs.Measures.{slots, most_slots, sides_slots, goal_slots, noted_height}
use Rattle.kan_model.specs.Programs.Calls.{call_there, entry_takes}
use Rattle.kan_model.specs.Programs.Tables.{GoalEntry, RelationEntry, Tables, template_at, goal_at, templates_of, goals_of, goal_of, goals_after, arguments_at, program_of, is_grown, is_goal_grown, goals_grown, are_closed}
use Rattle.kan_model.proofs.Programs.NoteLaws.{found-needs}
use Rattle.kan_model.proofs.Programs.TableLaws.{grown-parts}

-- two tests that follow from each other are the same
pub same-tests : (p q : Bool) → (p ≡ true → q ≡ true) → (q ≡ true → p ≡ true) → p ≡ q
same-tests true q there back = sym (there refl)
same-tests false true there back = back refl
same-tests false false there back = refl

leb-max : (a b n : ℕ) → nat_le (max a b) n ≡ nat_le a n && nat_le b n
leb-max a b n =
    same-tests _ _
    (λ h. let most = leb-true (max a b) n h in and_from _ _ (le-leb a n (omega (arith, most))) (le-leb b n (omega (arith, most))))
    (λ h. let (left, right) = and_parts (nat_le a n) (nat_le b n) h in
    let one = leb-true a n left in let two = leb-true b n right in le-leb (max a b) n (omega (arith, one, two)))

leb-none : (n : ℕ) → nat_le 0 n ≡ true
leb-none n = le-leb 0 n (omega arith)

-- a template finds its slots where as many are there as it needs
pub below-slots : (n : ℕ) (t : Template) → all_below n t ≡ nat_le (slots t) n
below-slots n (Tree.leaf i) =
    same-tests _ _ (λ h. let below = ltb-true i n h in le-leb (i + 1) n (omega (arith, below))) (λ h. let most = leb-true (i + 1) n h in lt-ltb i n (omega (arith, most)))
below-slots n (Tree.sym s) = sym (leb-none n)
below-slots n (Tree.str s) = sym (leb-none n)
below-slots n (Tree.num m) = sym (leb-none n)
below-slots n (Tree.truth b) = sym (leb-none n)
below-slots n Tree.nil = sym (leb-none n)
below-slots n (Tree.pair a b) = ap₂ (λ p q. p && q) (below-slots n a) (below-slots n b) ∙ sym (leb-max (slots a) (slots b) n)

sides-slots : (n : ℕ) (p : Primitive Template) → sides_below n p ≡ nat_le (sides_slots p) n
sides-slots n (Primitive.same a b) = below-slots n (Tree.pair a b)
sides-slots n (Primitive.differ a b) = below-slots n (Tree.pair a b)
sides-slots n (Primitive.symbol a) = below-slots n a
sides-slots n (Primitive.number a) = below-slots n a
sides-slots n (Primitive.text a) = below-slots n a
sides-slots n (Primitive.absent tag a) = below-slots n a

all-slots : (n : ℕ) (ts : List Template) → list_all (all_below n) ts ≡ nat_le (most_slots ts) n
all-slots n [] = sym (leb-none n)
all-slots n (t ∷ ts) = ap₂ (λ p q. p && q) (below-slots n t) (all-slots n ts) ∙ sym (leb-max (slots t) (most_slots ts) n)

-- so does a goal
pub scope-slots : (n : ℕ) (g : Goal) → in_scope n g ≡ nat_le (goal_slots g) n
scope-slots n (Goal.prim p) = sides-slots n p
scope-slots n Goal.succeed = sym (leb-none n)
scope-slots n Goal.fail = sym (leb-none n)
scope-slots n (Goal.both g h) = ap₂ (λ p q. p && q) (scope-slots n g) (scope-slots n h) ∙ sym (leb-max (goal_slots g) (goal_slots h) n)
scope-slots n (Goal.either g h) = ap₂ (λ p q. p && q) (scope-slots n g) (scope-slots n h) ∙ sym (leb-max (goal_slots g) (goal_slots h) n)
scope-slots n (Goal.fresh k g) =
    scope-slots (n + k) g
    ∙ same-tests _ _ (λ h. let most = leb-true (goal_slots g) (n + k) h in le-leb (goal_slots g - k) n (omega (arith, most)))
    (λ h. let most = leb-true (goal_slots g - k) n h in le-leb (goal_slots g) (n + k) (omega (arith, most)))
scope-slots n (Goal.later g) = scope-slots n g
scope-slots n (Goal.call r args) = all-slots n args

-- a noted height says whether a template is low
low-noted : (t : Template) → nat_le (noted_height t) 2048 ≡ is_low t
low-noted t =
    same-tests _ _ (λ h. let most = leb-true (noted_height t) 2048 h in le-leb (height t) 2048 (omega (arith, most)))
    (λ h. let most = leb-true (height t) 2048 h in le-leb (noted_height t) 2048 (omega (arith, most)))

all-same : {X : Type 0} (p q : X → Bool) → ((x : X) → p x ≡ q x) → (xs : List X) → list_all p xs ≡ list_all q xs
all-same p q same [] = refl
all-same p q same (x ∷ xs) = ap₂ (λ a b. a && b) (same x) (all-same p q same xs)

-- so a test of all rows says whether all templates are low
pub all-low : {R : Type 0} (f : R → ℕ) (rows : List R) (ts : List Template) → map f rows ≡ map noted_height ts → list_all (λ row. nat_le (f row) 2048) rows ≡ list_all is_low ts
all-low f rows ts noted =
    sym (list_all-map (λ n. nat_le n 2048) f rows) ∙ ap (list_all (λ n. nat_le n 2048)) noted ∙ list_all-map (λ n. nat_le n 2048) noted_height ts ∙ all-same _ is_low low-noted ts

-- the relations of a program, from the entries
abbrev pub relations_with : List Goal → List RelationEntry → List Relation
relations_with gs = map (λ r. record { params = r.params; body = goal_at gs r.body })

takes-entry : (gs : List Goal) (r : Option RelationEntry) (k : ℕ) → takes (option_map (λ e. record { params = e.params; body = goal_at gs e.body }) r) k ≡ entry_takes r k
takes-entry gs None k = refl
takes-entry gs (Some r) k = refl

taken : (gs : List Goal) (rs : List RelationEntry) (r k : ℕ) → takes (slice_get (relations_with gs rs) r) k ≡ entry_takes (slice_get rs r) k
taken gs rs r k = ap (λ o. takes o k) (slice_get-map (λ e. record { params = e.params; body = goal_at gs e.body }) rs r) ∙ takes-entry gs (slice_get rs r) k

-- a goal of a list whose calls are all there has its calls there
there-at : (rs : List Relation) (gs : List Goal) (i : ℕ) → list_all (calls_there rs) gs ≡ true → calls_there rs (goal_at gs i) ≡ true
there-at rs [] i h = refl
there-at rs (g ∷ gs) zero h = (and_parts (calls_there rs g) (list_all (calls_there rs) gs) h).0
there-at rs (g ∷ gs) (suc i) h = there-at rs gs i (and_parts (calls_there rs g) (list_all (calls_there rs) gs) h).1

both-there : (p q : Bool) → p ≡ true → q ≡ true → (p && q) ≡ true
both-there p q one two = and_from p q one two

-- the calls of a grown entry's goal are there where the entry's own is, if those of the goals before it are
calls-entry : (all : List Goal) (rs : List RelationEntry) (tables : Tables) (n : ℕ) (ts : List Template) (gs : List Goal) (e : GoalEntry) →
    is_goal_grown tables n e ≡ true → list_all (calls_there (relations_with all rs)) gs ≡ true →
    calls_there (relations_with all rs) (goal_of ts tables.arguments gs e) ≡ call_there rs e
calls-entry all rs tables n ts gs GoalEntry.succeed grown h = refl
calls-entry all rs tables n ts gs GoalEntry.fail grown h = refl
calls-entry all rs tables n ts gs (GoalEntry.same a b) grown h = refl
calls-entry all rs tables n ts gs (GoalEntry.differ a b) grown h = refl
calls-entry all rs tables n ts gs (GoalEntry.symbol a) grown h = refl
calls-entry all rs tables n ts gs (GoalEntry.number a) grown h = refl
calls-entry all rs tables n ts gs (GoalEntry.text a) grown h = refl
calls-entry all rs tables n ts gs (GoalEntry.absent tag a) grown h = refl
calls-entry all rs tables n ts gs (GoalEntry.both g i) grown h = both-there _ _ (there-at (relations_with all rs) gs g h) (there-at (relations_with all rs) gs i h)
calls-entry all rs tables n ts gs (GoalEntry.either g i) grown h = both-there _ _ (there-at (relations_with all rs) gs g h) (there-at (relations_with all rs) gs i h)
calls-entry all rs tables n ts gs (GoalEntry.fresh k g) grown h = there-at (relations_with all rs) gs g h
calls-entry all rs tables n ts gs (GoalEntry.later g) grown h = there-at (relations_with all rs) gs g h
calls-entry all rs tables n ts gs (GoalEntry.call r at k) grown h =
    ap (λ m. takes (slice_get (relations_with all rs) r) m) (arguments-length ts tables.arguments at k (leb-true (at + k) (length tables.arguments) grown)) ∙ taken all rs r k
  where
    take-length : {X : Type 0} (m : ℕ) (xs : List X) → m ≤ length xs → length (take m xs) ≡ m
    take-length zero xs within = refl
    take-length (suc m) [] within = omega (arith, within)
    take-length (suc m) (x ∷ xs) within = let rest = take-length m xs (omega (arith, within)) in omega (arith, rest)

    arguments-length : (us : List Template) (args : List ℕ) (from count : ℕ) → from + count ≤ length args → length (arguments_at us args from count) ≡ count
    arguments-length us args from count within =
        let left = length-drop from args in
        length-map (take count (drop from args)) (template_at us) ∙ take-length count (drop from args) (omega (arith, within, left))

-- so a test of the entries says whether all calls are there
calls-after : (all : List Goal) (rs : List RelationEntry) (tables : Tables) (n : ℕ) (ts : List Template) (gs : List Goal) (es : List GoalEntry) → goals_grown tables n es ≡ true →
    list_all (calls_there (relations_with all rs)) (goals_after ts tables.arguments gs es) ≡ (list_all (calls_there (relations_with all rs)) gs && list_all (call_there rs) es)
calls-after all rs tables n ts gs [] grown = and_true (list_all (calls_there (relations_with all rs)) gs)
  where
    and_true : (b : Bool) → b ≡ (b && true)
    and_true true = refl
    and_true false = refl
calls-after all rs tables n ts gs (e ∷ es) grown =
    let (first, rest) = and_parts (is_goal_grown tables n e) (goals_grown tables (suc n) es) grown in
    calls-after all rs tables (suc n) ts (gs ++ goal_of ts tables.arguments gs e ∷ []) es rest
    ∙ ap (λ b. b && list_all (call_there rs) es) (list_all-append (calls_there (relations_with all rs)) gs (goal_of ts tables.arguments gs e ∷ []))
    ∙ go (list_all (calls_there (relations_with all rs)) gs) (calls_there (relations_with all rs) (goal_of ts tables.arguments gs e)) (call_there rs e) (list_all (call_there rs) es)
    (calls-entry all rs tables n ts gs e first)
  where
    go : (b p q r : Bool) → (b ≡ true → p ≡ q) → ((b && (p && true)) && r) ≡ (b && (q && r))
    go false p q r f = refl
    go true true q r f = ap (λ x. x && r) (f refl)
    go true false q r f = ap (λ x. x && r) (f refl)

pub all-calls : (tables : Tables) → is_grown tables ≡ true →
    list_all (call_there tables.relations) tables.goals ≡ list_all (calls_there (program_of tables).relations) (goals_of tables)
all-calls tables grown = sym (calls-after (goals_of tables) tables.relations tables 0 (templates_of tables.terms) [] tables.goals (grown-parts tables grown).goals)

-- bodies that are there use only their slots
bodies : (gs : List Goal) (rs : List RelationEntry) (n : ℕ) → list_all (λ r. nat_lt r.body n) rs ≡ true →
    list_all (λ r. nat_lt r.body n && in_scope r.params (goal_at gs r.body)) rs ≡ list_all body_in_scope (relations_with gs rs)
bodies gs [] n h = refl
bodies gs (r ∷ rs) n h =
    let (first, rest) = and_parts (nat_lt r.body n) (list_all (λ q. nat_lt q.body n) rs) h in
    ap₂ (λ p q. p && q) (ap (λ p. p && in_scope r.params (goal_at gs r.body)) first) (bodies gs rs n rest)

pub all-bodies : (tables : Tables) → is_grown tables ≡ true →
    list_all (λ r. nat_lt r.body (length tables.goals) && in_scope r.params (goal_at (goals_of tables) r.body)) tables.relations ≡ list_all body_in_scope (program_of tables).relations
all-bodies tables grown = bodies (goals_of tables) tables.relations (length tables.goals) (grown-parts tables grown).relations

-- the goals of queries are there, and use only slot 0
queries : (gs : List Goal) (n : ℕ) (qs : List ℕ) →
    list_all (λ q. nat_lt q n && in_scope 1 (goal_at gs q)) qs ≡ (list_all (λ q. nat_lt q n) qs && list_all (in_scope 1) (map (goal_at gs) qs))
queries gs n [] = refl
queries gs n (q ∷ qs) = ap (λ r. (nat_lt q n && in_scope 1 (goal_at gs q)) && r) (queries gs n qs)
    ∙ mixed (nat_lt q n) (in_scope 1 (goal_at gs q)) (list_all (λ r. nat_lt r n) qs) (list_all (in_scope 1) (map (goal_at gs) qs))
  where
    mixed : (a b c d : Bool) → ((a && b) && (c && d)) ≡ ((a && c) && (b && d))
    mixed true true c d = refl
    mixed true false true d = refl
    mixed true false false d = refl
    mixed false b c d = refl

-- the four tests together say whether nothing is open
pub tests-say : (tables : Tables) (qs : List ℕ) (low calls bodies_fit : Bool) → is_grown tables ≡ true →
    low ≡ list_all is_low (templates_of tables.terms) → calls ≡ list_all (call_there tables.relations) tables.goals →
    bodies_fit ≡ list_all (λ r. nat_lt r.body (length tables.goals) && in_scope r.params (goal_at (goals_of tables) r.body)) tables.relations →
    (low && calls && bodies_fit && list_all (λ q. nat_lt q (length tables.goals) && in_scope 1 (goal_at (goals_of tables) q)) qs) ≡ are_closed tables qs
tests-say tables qs low calls bodies_fit grown is_low_test is_calls_test is_bodies_test =
    ap₂ (λ p q. p && q) (ap₂ (λ p q. p && q) (ap₂ (λ p q. p && q) is_low_test (is_calls_test ∙ all-calls tables grown)) (is_bodies_test ∙ all-bodies tables grown))
    (queries (goals_of tables) (length tables.goals) qs)
    ∙ moved (list_all is_low (templates_of tables.terms)) (list_all (calls_there (program_of tables).relations) (goals_of tables)) (list_all body_in_scope (program_of tables).relations)
    (list_all (λ g. nat_lt g (length tables.goals)) qs) (list_all (in_scope 1) (map (goal_at (goals_of tables)) qs))
  where
    moved : (a b c d e : Bool) → ((a && b && c) && (d && e)) ≡ (d && (a && b && c && e))
    moved true true true d e = refl
    moved true true false true e = refl
    moved true true false false e = refl
    moved true false c true e = refl
    moved true false c false e = refl
    moved false b c true e = refl
    moved false b c false e = refl

-- what a row's slots say of its goal, where there is such a row
pub row-uses : {R : Type 0} (f : R → ℕ) (rows : List R) (gs : List Goal) (at n : ℕ) (found : Option R) → map f rows ≡ map goal_slots gs → found ≡ slice_get rows at →
    (row : R) → Some row ≡ found → nat_le (f row) n ≡ (nat_lt at (length rows) && in_scope n (goal_at gs at))
row-uses f rows gs at n found all is row some =
    let there : slice_get rows at ≡ Some row = sym (some ∙ is) in
    ap (λ m. nat_le m n) (found-needs f rows gs at row all (some ∙ is)) ∙ sym (scope-slots n (goal_at gs at))
    ∙ ap (λ b. b && in_scope n (goal_at gs at)) (sym (lt-ltb at (length rows) (slice_get_within rows at row there)))
