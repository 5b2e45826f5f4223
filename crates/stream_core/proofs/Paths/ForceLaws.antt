-- What a suspension that may be forced lets its parts do.
use Rattle.std.proofs.Common.{◌≡◌, ℕ, ◌+◌, ◌≤◌, ◌<◌, ◌^◌, true, false, List, [], map, refl, sym, ◌∙◌, ap, subst, arith, length, ltb-true}
use Rattle.std.specs.Prelude.{Option, Some, option_map, slice_get, nat_lt}
use Rattle.std.specs.List.{list_all}
use Rattle.std.proofs.lemmas.Option.{slice_get-map}
use Rattle.kan_terms.specs.Tree.{Tm}
use Rattle.kan_model.specs.Programs.Goals.{Goal, Relation, Program}
use Rattle.kan_model.specs.Stores.Store.{Store}
use Rattle.kan_model.specs.Streams.Stream.{Stream, Thunk, heads, append, bind_all}
use Rattle.kan_model.specs.Streams.Running.{run, enter, force}
use Rattle.kan_model.specs.Programs.Scope.{all_below, in_scope}
use Rattle.kan_model.specs.Programs.Tables.{Tables, RelationEntry, goal_at, goals_of, templates_of, program_of, is_grown}
use Rattle.kan_model.specs.Streams.Bounds.{Fits, top, floor}
use Rattle.kan_model.proofs.Programs.TableLaws.{grown-parts, goals-length}
use Rattle.stream_core.specs.CounterBounds.{Between}
use Rattle.stream_core.specs.Tasks.{IsOf, AreBelowRest}
use Rattle.kan_model.specs.Each.{Each}
use Rattle.stream_core.specs.InnerSuspensions.{MayForce, has_inner, inner_of}
use Rattle.stream_core.specs.Suspensions.{goal_in, stream_of_parts}
use Rattle.stream_core.specs.Tables.{Table, OnlyAdds, GrowsBy, Told, IsTableOf, HasStream, IsForce, stream_in, thunk_in}
use Rattle.stream_core.specs.declared.streams.Thunk.{Thunk as Suspension}
use Rattle.stream_core.specs.declared.streams.Thunk.TheVariants.{Call, Pause, Swap, Bind}
use Rattle.stream_core.specs.declared.streams.Stream.{Stream as Listed}
use Rattle.kan_model.specs.Programs.Closed as programs
use Rattle.kan_model.specs.Programs.Environments.{terms_of}
use Rattle.kan_model.specs.declared.program.Program as code
use Rattle.kan_model.specs.declared.environment.Env.{Env}
use Rattle.stream_core.proofs.HeadLaws.{env-more}
use Rattle.kan_model.proofs.ListLaws.{Each-like}
use Rattle.stream_core.proofs.CounterLaws.{stream-top-above}
use Rattle.stream_core.proofs.ClosedLaws.{ProgramIsClosed, all-at, program-closed}
use Rattle.stream_core.proofs.StreamLaws.{heads-going}
use Rattle.stream_core.proofs.FitLaws.{force-fits, takes-params}
use Rattle.stream_core.proofs.TaskLaws.{below-rest}

-- a relation from its entry
abbrev pub relation_of : List Goal → RelationEntry → Relation
relation_of gs e = record { params = e.params; body = goal_at gs e.body }

-- what is inside may be forced too
pub swap-inner : (program : Program) (t : Stream) (i : Thunk) → MayForce program (Thunk.swap t i) → MayForce program i
swap-inner program t i ((first, fits), most) = let high = stream-top-above t (top i) in (fits, omega (arith, high, most))

pub bind-inner : (program : Program) (g : Goal) (env : List Tm) (i : Thunk) → MayForce program (Thunk.bind g env i) → MayForce program i
bind-inner program g env i ((there, slots, below, fits), most) = (fits, omega (arith, most))

-- what is inside a suspension that may be forced may be forced
pub inner-may : (program : Program) (t : Thunk) → MayForce program t → MayForce program (inner_of t)
inner-may program (Thunk.call r args st) may = may
inner-may program (Thunk.pause g env st) may = may
inner-may program (Thunk.swap t i) may = swap-inner program t i may
inner-may program (Thunk.bind g env i) may = bind-inner program g env i may

-- the relation that was found is the program's
pub relation-found : (tables : Tables) (r : ℕ) (e : RelationEntry) → Some e ≡ slice_get tables.relations r → slice_get (program_of tables).relations r ≡ Some (relation_of (goals_of tables) e)
relation-found tables r e is = slice_get-map (relation_of (goals_of tables)) tables.relations r ∙ ap (option_map (relation_of (goals_of tables))) (sym is)

-- its body is in the table
pub body-placed : (tables : Tables) (r : ℕ) (e : RelationEntry) → is_grown tables ≡ true → Some e ≡ slice_get tables.relations r → e.body < length (goals_of tables)
body-placed tables r e grown is =
    let low = ltb-true e.body (length tables.goals) (all-at (λ x. nat_lt x.body (length tables.goals)) tables.relations r e (grown-parts tables grown).relations (sym is)) in
    let long = goals-length (templates_of tables.terms) tables.arguments [] tables.goals in omega (arith, low, long)

-- and finds its slots among the arguments
pub body-slots : (program : Program) (r : ℕ) (args : List Tm) (st : Store) (rel : Relation) → ProgramIsClosed program → Fits program (Thunk.call r args st) → slice_get program.relations r ≡ Some rel →
    in_scope (length args) rel.body ≡ true
body-slots program r args st rel closed (takes_them, below) found =
    ap (λ n. in_scope n rel.body) (sym (takes-params rel (slice_get program.relations r) (length args) found takes_them)) ∙ (closed.bodies r rel found).slots

-- the goal of a bound suspension may be bound to the force of what is inside
pub record MayBindForce (program : Program) (g : Goal) (env : List Tm) (s : Stream) (hs : List Store) : Type 0 where
  pub is : IsOf program g env
  pub room : Each (λ st. (list_all (all_below st.counter) env ≡ true) × (st.counter ≤ 2 ^ 62)) hs
  pub below : AreBelowRest env s

bind-force : (program : Program) (g : Goal) (env : List Tm) (i : Thunk) → ProgramIsClosed program → MayForce program (Thunk.bind g env i) → MayBindForce program g env (force program i) (heads (force program i))
bind-force program g env i closed ((there, slots, below, fits), most) =
    let made = force-fits program i closed fits in
    record {
      is = (there, slots);
      room = Each-like (Between (floor i) (top i)) (λ st. (list_all (all_below st.counter) env ≡ true) × (st.counter ≤ 2 ^ 62))
          (λ a (low, high). (env-more (floor i) a.counter low env below, omega (arith, high, most))) (heads (force program i)) made.heads;
      below = below-rest program (floor i) (top i + 2 ^ 21) env (force program i) below made.tail;
    }

-- the same in the words of the code
pub climb-binds : (program : Program) (g : Goal) (env : List Tm) (i t : Thunk) (s : Stream) (hs : List Store) → ProgramIsClosed program → t ≡ Thunk.bind g env i → MayForce program t →
    s ≡ force program (inner_of t) → heads s ≡ hs → MayBindForce program g env s hs
climb-binds program g env i t s hs closed is may made has =
    let inside : force program i ≡ s = ap (λ u. force program (inner_of u)) (sym is) ∙ sym made in
    let there = subst (λ r. MayBindForce program g env r (heads r)) inside (bind-force program g env i closed (subst (MayForce program) is may)) in
    subst (MayBindForce program g env s) has there

module _ {I St : Type 0} (t : Table I) (p : code.Program) (means : St → Store) (is : IsTableOf p t) where
  -- a suspension of the code that binds, and the force of what is inside it
  pub around-binds : (thunk : Suspension I St) (goal : ℕ) (env : Env) (inner : I) (inside : Listed I St) → thunk ≡ Bind goal env inner → MayForce t.program (thunk_in t means thunk) →
      IsForce t means (inner_of (thunk_in t means thunk)) inside → MayBindForce (programs.meaning p) (programs.goal p goal) (terms_of env) (stream_in t means inside) (map means inside.heads)
  around-binds thunk goal env inner inside bound may forced =
      climb-binds (programs.meaning p) (programs.goal p goal) (terms_of env) (t.tree inner) (thunk_in t means thunk) (stream_in t means inside) (map means inside.heads) (program-closed p is.small)
      (ap (thunk_in t means) bound ∙ ap (λ q. Thunk.bind (goal_in q goal) (terms_of env) (t.tree inner)) is.program) (subst (λ q. MayForce q (thunk_in t means thunk)) is.program may)
      (forced.1 ∙ ap (λ q. force q (inner_of (thunk_in t means thunk))) is.program) (heads-going (map means inside.heads) (option_map t.tree inside.tail))

  pub bound-force : (thunk : Suspension I St) (goal : ℕ) (env : Env) (inner : I) (inside : Listed I St) (made : Stream) → thunk ≡ Bind goal env inner → IsForce t means (inner_of (thunk_in t means thunk)) inside →
      made ≡ bind_all (run (programs.goal p goal) (terms_of env)) (programs.goal p goal) (terms_of env) (stream_in t means inside) → made ≡ force t.program (thunk_in t means thunk)
  bound-force thunk goal env inner inside made bound forced built =
      built
      ∙ ap (λ q. bind_all (run (goal_in q goal) (terms_of env)) (goal_in q goal) (terms_of env) (stream_in t means inside)) (sym is.program)
      ∙ ap (bind_all (run (goal_in t.program goal) (terms_of env)) (goal_in t.program goal) (terms_of env)) (forced.1 ∙ ap (λ u. force t.program (inner_of (thunk_in t means u))) bound)
      ∙ ap (λ u. force t.program (thunk_in t means u)) (sym bound)

  -- one that waits before another
  pub swapped-force : (thunk : Suspension I St) (heads : List St) (tail : Option I) (inner : I) (inside : Listed I St) (made : Stream) → thunk ≡ Swap heads tail inner →
      IsForce t means (inner_of (thunk_in t means thunk)) inside → made ≡ append (stream_of_parts t.tree means heads tail) (stream_in t means inside) → made ≡ force t.program (thunk_in t means thunk)
  swapped-force thunk heads tail inner inside made swapped forced built =
      built
      ∙ ap (append (stream_of_parts t.tree means heads tail)) (forced.1 ∙ ap (λ u. force t.program (inner_of (thunk_in t means u))) swapped)
      ∙ ap (λ u. force t.program (thunk_in t means u)) (sym swapped)

  -- one without one inside
  pub call-may : (thunk : Suspension I St) (rel : ℕ) (args : Env) (store : St) → thunk ≡ Call rel args store → MayForce t.program (thunk_in t means thunk) →
      MayForce (programs.meaning p) (Thunk.call rel (terms_of args) (means store))
  call-may thunk rel args store called may = subst (λ q. MayForce q (Thunk.call rel (terms_of args) (means store))) is.program (subst (λ u. MayForce t.program (thunk_in t means u)) called may)

  pub called-force : (thunk : Suspension I St) (rel : ℕ) (args : Env) (store : St) (made : Stream) → thunk ≡ Call rel args store →
      made ≡ enter (slice_get (programs.meaning p).relations rel) (terms_of args) (means store) → made ≡ force t.program (thunk_in t means thunk)
  called-force thunk rel args store made called built =
      built ∙ ap (λ q. enter (slice_get q.relations rel) (terms_of args) (means store)) (sym is.program) ∙ ap (λ u. force t.program (thunk_in t means u)) (sym called)

  -- a goal that pauses may be run
  pub record MayResume (goal : ℕ) (env : Env) (store : St) : Type 0 where
    pub found : IsOf (programs.meaning p) (programs.goal p goal) (terms_of env)
    pub below : list_all (all_below (means store).counter) (terms_of env) ≡ true
    pub room : (means store).counter ≤ 2 ^ 62

  pub pause-may : (thunk : Suspension I St) (goal : ℕ) (env : Env) (store : St) → thunk ≡ Pause goal env store → MayForce t.program (thunk_in t means thunk) → MayResume goal env store
  pause-may thunk goal env store paused may =
      let ((there, slots, below), most) = subst (λ q. MayForce q (Thunk.pause (goal_in q goal) (terms_of env) (means store))) is.program (subst (λ u. MayForce t.program (thunk_in t means u)) paused may) in
      record { found = (there, slots); below = below; room = omega (arith, most) }

  pub paused-force : (thunk : Suspension I St) (goal : ℕ) (env : Env) (store : St) (made : Stream) → thunk ≡ Pause goal env store →
      made ≡ run (programs.goal p goal) (terms_of env) (means store) → made ≡ force t.program (thunk_in t means thunk)
  paused-force thunk goal env store made paused built =
      built ∙ ap (λ q. run (goal_in q goal) (terms_of env) (means store)) (sym is.program) ∙ ap (λ u. force t.program (thunk_in t means u)) (sym paused)

module _ {I St : Type 0} (t : Table I) (means : St → Store) where
  -- suspensions of the code with and without one inside
  pub no-leaf : (thunk : Suspension I St) → has_inner (thunk_in t means thunk) ≡ false → ((rel : ℕ) (args : Env) (store : St) → thunk ≡ Call rel args store → ⊥) →
      ((goal : ℕ) (env : Env) (store : St) → thunk ≡ Pause goal env store → ⊥) → ⊥
  no-leaf (Call rel args store) last c q = c rel args store refl
  no-leaf (Pause goal env store) last c q = q goal env store refl
  no-leaf (Swap heads tail inner) last c q = cc
  no-leaf (Bind goal env inner) last c q = cc

  pub no-around : (thunk : Suspension I St) → has_inner (thunk_in t means thunk) ≡ true → ((heads : List St) (tail : Option I) (inner : I) → thunk ≡ Swap heads tail inner → ⊥) →
      ((goal : ℕ) (env : Env) (inner : I) → thunk ≡ Bind goal env inner → ⊥) → ⊥
  no-around (Call rel args store) around s b = cc
  no-around (Pause goal env store) around s b = cc
  no-around (Swap heads tail inner) around s b = s heads tail inner refl
  no-around (Bind goal env inner) around s b = b goal env inner refl

module _ {I St : Type 0} (means : St → Store) where
  -- what is made of an id's suspension while suspensions are added is its force
  pub made-force : (t u : Table I) (at : I) (suspension : Thunk) (made : Listed I St) → OnlyAdds t u → t.belongs at → suspension ≡ t.tree at → HasStream u made →
      stream_in u means made ≡ force t.program suspension → IsForce u means (u.tree at) made
  made-force t u at suspension made adds there is belong built =
      (belong, built ∙ ap (force t.program) (is ∙ sym (adds.ids at there).1) ∙ ap (λ q. force q (u.tree at)) (sym adds.program))

  pub force-same : (R : Told I → Told I → Type 0) (t u v : Table I) (at : I) (made : Listed I St) → GrowsBy R t u → t.belongs at → IsForce v means (u.tree at) made → IsForce v means (t.tree at) made
  force-same R t u v at made grew there forced = subst (λ x. IsForce v means x made) (grew.ids at there).1 forced
