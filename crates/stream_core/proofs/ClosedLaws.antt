-- Programs whose tables are grown, closed and small: the parts of their goals are goals of theirs, calls are there, and bodies find their slots.
use Rattle.std.proofs.Common.{◌≡◌, ℕ, zero, suc, ◌+◌, ◌<◌, ◌^◌, Bool, true, List, [], ◌∷◌, ◌++◌, length, map, refl, sym, ◌∙◌, ap, subst, arith}
use Rattle.std.specs.Prelude.{Option, Some, None, option_map, slice_get, nat_lt, Contains, ◌&&◌}
use Rattle.std.specs.List.{list_all}
use Rattle.std.proofs.lemmas.Bool.{and_parts, ltb-true}
use Rattle.std.proofs.lemmas.List.{length-append}
use Rattle.std.proofs.lemmas.List.Elements.{Contains-append_left}
use Rattle.std.proofs.lemmas.Option.{slice_get-map}
use Rattle.kan_model.specs.Programs.Goals.{Goal, Relation, Program, Template}
use Rattle.kan_model.specs.Programs.Scope.{width, is_narrow, is_small, is_low, calls_there, body_in_scope, in_scope}
use Rattle.kan_model.specs.Programs.Tables.{GoalEntry, RelationEntry, Tables, goal_at, goal_of, goals_after, goals_of, templates_of, program_of, is_grown, is_goal_grown, goals_grown, are_closed}
use Rattle.kan_model.specs.Programs.Closed as programs
use Rattle.kan_model.specs.declared.program.Program as code
use Rattle.kan_model.proofs.Programs.TableLaws.{grown-parts, goals-length}
use Rattle.kan_model.specs.Programs.Nodes.{goal_entry}
use Rattle.kan_model.specs.declared.nodes.GoalNode.{GoalNode}
use Rattle.kan_model.specs.declared.nodes.GoalNode.TheVariants.{Succeed, Fail, Same, Differ, Symbol, Number, Text, Absent, Both, Either, Fresh, Later, Call}
use Rattle.stream_core.specs.AtomicGoals.{is_atomic, ends_at_once}
use Rattle.kan_model.specs.Each.{Each}
use Rattle.kan_model.proofs.ListLaws.{Each-like, Each-append}

-- the parts of a goal are goals of the list
abbrev pub PartsIn : List Goal → Goal → Type 0
PartsIn gs (Goal.prim p) = Unit {0}
PartsIn gs Goal.succeed = Unit {0}
PartsIn gs Goal.fail = Unit {0}
PartsIn gs (Goal.both g h) = Contains gs g × Contains gs h
PartsIn gs (Goal.either g h) = Contains gs g × Contains gs h
PartsIn gs (Goal.fresh k g) = Contains gs g
PartsIn gs (Goal.later g) = Contains gs g
PartsIn gs (Goal.call r args) = Unit {0}

parts-more : (gs hs : List Goal) (g : Goal) → PartsIn gs g → PartsIn (gs ++ hs) g
parts-more gs hs (Goal.prim p) h = tt
parts-more gs hs Goal.succeed h = tt
parts-more gs hs Goal.fail h = tt
parts-more gs hs (Goal.both g k) (one, two) = (Contains-append_left gs hs g one, Contains-append_left gs hs k two)
parts-more gs hs (Goal.either g k) (one, two) = (Contains-append_left gs hs g one, Contains-append_left gs hs k two)
parts-more gs hs (Goal.fresh n g) h = Contains-append_left gs hs g h
parts-more gs hs (Goal.later g) h = Contains-append_left gs hs g h
parts-more gs hs (Goal.call r args) h = tt

-- the goal at a place of a list is in it
pub goal-there : (gs : List Goal) (i : ℕ) → i < length gs → Contains gs (goal_at gs i)
goal-there [] i low = let none : ⊥ = omega (arith, low) in absurd none
goal-there (g ∷ gs) zero low = (zero, omega arith, refl)
goal-there (g ∷ gs) (suc i) low = let (k, below, is) = goal-there gs i (omega (arith, low)) in (suc k, omega (arith, below), is)

entry-parts : (tables : Tables) (ts : List Template) (gs : List Goal) (e : GoalEntry) → is_goal_grown tables (length gs) e ≡ true → PartsIn gs (goal_of ts tables.arguments gs e)
entry-parts tables ts gs GoalEntry.succeed h = tt
entry-parts tables ts gs GoalEntry.fail h = tt
entry-parts tables ts gs (GoalEntry.same a b) h = tt
entry-parts tables ts gs (GoalEntry.differ a b) h = tt
entry-parts tables ts gs (GoalEntry.symbol a) h = tt
entry-parts tables ts gs (GoalEntry.number a) h = tt
entry-parts tables ts gs (GoalEntry.text a) h = tt
entry-parts tables ts gs (GoalEntry.absent tag a) h = tt
entry-parts tables ts gs (GoalEntry.both a b) h =
    let (one, two) = and_parts (nat_lt a (length gs)) (nat_lt b (length gs)) h in (goal-there gs a (ltb-true a (length gs) one), goal-there gs b (ltb-true b (length gs) two))
entry-parts tables ts gs (GoalEntry.either a b) h =
    let (one, two) = and_parts (nat_lt a (length gs)) (nat_lt b (length gs)) h in (goal-there gs a (ltb-true a (length gs) one), goal-there gs b (ltb-true b (length gs) two))
entry-parts tables ts gs (GoalEntry.fresh k a) h = goal-there gs a (ltb-true a (length gs) h)
entry-parts tables ts gs (GoalEntry.later a) h = goal-there gs a (ltb-true a (length gs) h)
entry-parts tables ts gs (GoalEntry.call r at k) h = tt

-- a table's goals have their parts in it
parts-after : (tables : Tables) (ts : List Template) (gs : List Goal) (es : List GoalEntry) → goals_grown tables (length gs) es ≡ true → Each (PartsIn gs) gs →
    Each (PartsIn (goals_after ts tables.arguments gs es)) (goals_after ts tables.arguments gs es)
parts-after tables ts gs [] grown parts = parts
parts-after tables ts gs (e ∷ es) grown parts =
    let (first, rest) = and_parts (is_goal_grown tables (length gs) e) (goals_grown tables (suc (length gs)) es) grown in
    let g = goal_of ts tables.arguments gs e in
    let more = gs ++ g ∷ [] in
    let one = length-append gs (g ∷ []) in
    let long : suc (length gs) ≡ length more = omega (arith, one) in
    parts-after tables ts more es (ap (λ n. goals_grown tables n es) (sym long) ∙ rest)
    (Each-append (PartsIn more) gs (g ∷ []) (Each-like (PartsIn gs) (PartsIn more) (λ h. parts-more gs (g ∷ []) h) gs parts) (parts-more gs (g ∷ []) g (entry-parts tables ts gs e first), tt))

each-has : {X : Type 0} (P : X → Type 0) (xs : List X) (x : X) → Each P xs → Contains xs x → P x
each-has P [] x h (k, low, is) = let none : ⊥ = omega (arith, low) in absurd none
each-has P (y ∷ xs) x (h, hs) (zero, low, is) = subst P is h
each-has P (y ∷ xs) x (h, hs) (suc k, low, is) = each-has P xs x hs (k, omega (arith, low), is)

all-has : {X : Type 0} (p : X → Bool) (xs : List X) (x : X) → list_all p xs ≡ true → Contains xs x → p x ≡ true
all-has p [] x h (k, low, is) = let none : ⊥ = omega (arith, low) in absurd none
all-has p (y ∷ xs) x h (zero, low, is) = ap p (sym is) ∙ (and_parts (p y) (list_all p xs) h).0
all-has p (y ∷ xs) x h (suc k, low, is) = all-has p xs x (and_parts (p y) (list_all p xs) h).1 (k, omega (arith, low), is)

-- what a relation of such a program has
pub record BodyIsClosed (program : Program) (rel : Relation) : Type 0 where
  pub there : Contains program.goals rel.body
  pub slots : in_scope rel.params rel.body ≡ true

-- what such a program has: its goals' parts and calls, and its bodies, are there, and each goal is narrow
pub record ProgramIsClosed (program : Program) : Type 0 where
  pub parts : (g : Goal) → Contains program.goals g → PartsIn program.goals g
  pub calls : (g : Goal) → Contains program.goals g → calls_there program.relations g ≡ true
  pub bodies : (r : ℕ) (rel : Relation) → slice_get program.relations r ≡ Some rel → BodyIsClosed program rel
  pub narrow : (g : Goal) → Contains program.goals g → width g < 2 ^ 21

-- a test of all entries holds of the one that was found
pub all-at : {X : Type 0} (p : X → Bool) (xs : List X) (i : ℕ) (x : X) → list_all p xs ≡ true → slice_get xs i ≡ Some x → p x ≡ true
all-at p [] i x h is = cc
all-at p (y ∷ xs) zero x h is = let same : y ≡ x = cc in ap p (sym same) ∙ (and_parts (p y) (list_all p xs) h).0
all-at p (y ∷ xs) (suc i) x h is = all-at p xs i x (and_parts (p y) (list_all p xs) h).1 is

body-there : (gs : List Goal) (entries : List RelationEntry) (n r : ℕ) (rel : Relation) (o : Option RelationEntry) → n ≡ length gs → list_all (λ e. nat_lt e.body n) entries ≡ true → slice_get entries r ≡ o →
    option_map (λ e. record { params = e.params; body = goal_at gs e.body }) o ≡ Some rel → Contains gs rel.body
body-there gs entries n r rel None long grown found is = cc
body-there gs entries n r rel (Some e) long grown found is =
    let low = ltb-true e.body n (all-at (λ e. nat_lt e.body n) entries r e grown found) in
    let same : record { params = e.params; body = goal_at gs e.body } ≡ rel = cc in
    subst (λ q. Contains gs q.body) same (goal-there gs e.body (omega (arith, low, long)))

body-found : (gs : List Goal) (entries : List RelationEntry) (n r : ℕ) (rel : Relation) → n ≡ length gs → list_all (λ e. nat_lt e.body n) entries ≡ true →
    slice_get (map (λ e. record { params = e.params; body = goal_at gs e.body }) entries) r ≡ Some rel → Contains gs rel.body
body-found gs entries n r rel long grown found =
    body-there gs entries n r rel (slice_get entries r) long grown refl (sym (slice_get-map (λ e. record { params = e.params; body = goal_at gs e.body }) entries r) ∙ found)

pub program-is-closed : (tables : Tables) → is_grown tables ≡ true → are_closed tables [] ≡ true → is_small (program_of tables) ≡ true → ProgramIsClosed (program_of tables)
program-is-closed tables grown closed small =
    let gs = goals_of tables in
    let rs = (program_of tables).relations in
    let facts = grown-parts tables grown in
    let long = goals-length (templates_of tables.terms) tables.arguments [] tables.goals in
    let (queries, rest) = and_parts (list_all (λ g. nat_lt g (length tables.goals)) []) (list_all is_low (templates_of tables.terms) && list_all (calls_there rs) gs && list_all body_in_scope rs && list_all (in_scope 1) (map (goal_at gs) [])) closed in
    let (three, asked) = and_parts (list_all is_low (templates_of tables.terms) && list_all (calls_there rs) gs && list_all body_in_scope rs) (list_all (in_scope 1) (map (goal_at gs) [])) rest in
    let (two, bodies_fit) = and_parts (list_all is_low (templates_of tables.terms) && list_all (calls_there rs) gs) (list_all body_in_scope rs) three in
    let (low, calls_fit) = and_parts (list_all is_low (templates_of tables.terms)) (list_all (calls_there rs) gs) two in
    record {
      parts = λ g there. each-has (PartsIn gs) gs g (parts-after tables (templates_of tables.terms) [] tables.goals facts.goals tt) there;
      calls = λ g there. all-has (calls_there rs) gs g calls_fit there;
      bodies = λ r rel found. record {
        there = body-found gs tables.relations (length tables.goals) r rel (omega (arith, long)) facts.relations found;
        slots = all-at body_in_scope rs r rel bodies_fit found;
      };
      narrow = λ g there. ltb-true (width g) (2 ^ 21) (all-has is_narrow gs g small there);
    }

-- the same of a program of the code
pub program-closed : (p : code.Program) → is_small (programs.meaning p) ≡ true → ProgramIsClosed (programs.meaning p)
program-closed p small = program-is-closed (programs.tables p) p.draft.grown p.closed small

-- a goal that is none of the three that run others is atomic
pub is-atomic : (node : GoalNode) → ((g h : ℕ) → node ≡ Both g h → ⊥) → ((g h : ℕ) → node ≡ Either g h → ⊥) → ((k g : ℕ) → node ≡ Fresh k g → ⊥) → is_atomic (goal_entry node) ≡ true
is-atomic Succeed b e f = refl
is-atomic Fail b e f = refl
is-atomic (Same x y) b e f = refl
is-atomic (Differ x y) b e f = refl
is-atomic (Symbol x) b e f = refl
is-atomic (Number x) b e f = refl
is-atomic (Text x) b e f = refl
is-atomic (Absent tag x) b e f = refl
is-atomic (Both g h) b e f = absurd (b g h refl)
is-atomic (Either g h) b e f = absurd (e g h refl)
is-atomic (Fresh k g) b e f = absurd (f k g refl)
is-atomic (Later g) b e f = refl
is-atomic (Call r at k) b e f = refl

-- an atomic goal that doesn't wait ends at once
pub at-once : (node : GoalNode) → is_atomic (goal_entry node) ≡ true → ((g : ℕ) → node ≡ Later g → ⊥) → ((r at k : ℕ) → node ≡ Call r at k → ⊥) → ends_at_once (goal_entry node) ≡ true
at-once Succeed h l c = h
at-once Fail h l c = h
at-once (Same x y) h l c = h
at-once (Differ x y) h l c = h
at-once (Symbol x) h l c = h
at-once (Number x) h l c = h
at-once (Text x) h l c = h
at-once (Absent tag x) h l c = h
at-once (Both g k) h l c = h
at-once (Either g k) h l c = h
at-once (Fresh k g) h l c = h
at-once (Later g) h l c = absurd (l g refl)
at-once (Call r at k) h l c = absurd (c r at k refl)

-- a goal that ends at once succeeds, fails or is a primitive
pub not-at-once : (node : GoalNode) → ends_at_once (goal_entry node) ≡ true → (node ≡ Succeed → ⊥) → (node ≡ Fail → ⊥) → ((a b : ℕ) → node ≡ Same a b → ⊥) → ((a b : ℕ) → node ≡ Differ a b → ⊥) →
    ((a : ℕ) → node ≡ Symbol a → ⊥) → ((a : ℕ) → node ≡ Number a → ⊥) → ((a : ℕ) → node ≡ Text a → ⊥) → ((tag a : ℕ) → node ≡ Absent tag a → ⊥) → ⊥
not-at-once Succeed ends s f e d y n t a = s refl
not-at-once Fail ends s f e d y n t a = f refl
not-at-once (Same x z) ends s f e d y n t a = e x z refl
not-at-once (Differ x z) ends s f e d y n t a = d x z refl
not-at-once (Symbol x) ends s f e d y n t a = y x refl
not-at-once (Number x) ends s f e d y n t a = n x refl
not-at-once (Text x) ends s f e d y n t a = t x refl
not-at-once (Absent tag x) ends s f e d y n t a = a tag x refl
not-at-once (Both g h) ends s f e d y n t a = cc
not-at-once (Either g h) ends s f e d y n t a = cc
not-at-once (Fresh k g) ends s f e d y n t a = cc
not-at-once (Later g) ends s f e d y n t a = cc
not-at-once (Call r at k) ends s f e d y n t a = cc
