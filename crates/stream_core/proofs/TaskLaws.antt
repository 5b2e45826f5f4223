-- One task after the other gives what the definition gives.
use Rattle.std.proofs.Common.{◌≡◌, ℕ, ◌+◌, ◌≤◌, ◌<◌, ◌^◌, true, List, [], ◌∷◌, ◌++◌, length, map, refl, sym, subst, ◌∙◌, ap, arith}
use Rattle.std.specs.Prelude.{Contains}
use Rattle.std.specs.List.{list_all}
use Rattle.std.proofs.lemmas.Bool.{and_from, and_parts}
use Rattle.std.proofs.lemmas.List.Folds.{list_all-append}
use Rattle.kan_terms.specs.Tree.{Tm}
use Rattle.kan_model.specs.Programs.Goals.{Goal, Program}
use Rattle.kan_model.specs.Stores.Store.{Store, with_fresh}
use Rattle.kan_model.specs.Streams.Stream.{Stream, Thunk, heads, append, append_each, empty, one}
use Rattle.kan_model.specs.Streams.Running.{run, variables}
use Rattle.kan_model.specs.Programs.Scope.{width, all_below, in_scope}
use Rattle.kan_model.specs.Streams.Bounds.{floor}
use Rattle.stream_core.specs.CounterBounds.{Between, RestFits}
use Rattle.stream_core.specs.Tasks.{Task, streams_after, HasRoom, IsOf, AreBelowRest, AreReady, for_each, count, tasks_to_do, Becomes, run_each, bound_last}
use Rattle.kan_model.specs.Each.{Each}
use Rattle.stream_core.proofs.HeadLaws.{run-between, env-more, variables-below}
use Rattle.kan_model.proofs.ListLaws.{Each-like}
use Rattle.stream_core.proofs.ClosedLaws.{ProgramIsClosed}
use Rattle.stream_core.proofs.FitLaws.{run-fits, wider-slots}

-- variables below a store's counter are there for what comes after it
pub below-rest : (program : Program) (low high : ℕ) (env : List Tm) (s : Stream) → list_all (all_below low) env ≡ true → RestFits program low high s → AreBelowRest env s
below-rest program low high env (Stream.ends hs) below rest = tt
below-rest program low high env (Stream.goes_on hs i) below (fits, least, most) = env-more low (floor i) least env below

-- a goal at each of some stores, and at one more
pub each-last : {St : Type 0} (means : St → Store) (g : Goal) (env : List Tm) (stores rest : List St) (last : St) (ts : List Task) → stores ≡ rest ++ last ∷ [] →
    Task.run_at g env (means last) ∷ Task.append_two ∷ run_each g env (map means rest) ts ≡ run_each g env (map means stores) ts
each-last means g env stores rest last ts split = go rest ts ∙ ap (λ xs. run_each g env (map means xs) ts) (sym split)
  where
    go : (xs : List _) (ts : List Task) → Task.run_at g env (means last) ∷ Task.append_two ∷ run_each g env (map means xs) ts ≡ run_each g env (map means (xs ++ last ∷ [])) ts
    go [] ts = refl
    go (x ∷ xs) ts = go xs (Task.run_at g env (means x) ∷ Task.append_two ∷ ts)

module _ (program : Program) where
  -- both goals: the second is bound to what the first gives
  pub becomes-both : ProgramIsClosed program → (g h : Goal) (env : List Tm) (st : Store) (ts : List Task) (vs : List Stream) →
      Becomes program (Task.run_at (Goal.both g h) env st ∷ ts) vs (Task.run_at g env st ∷ Task.bind_to h env ∷ ts) vs
  becomes-both closed g h env st ts vs = record {
    same = refl;
    ready = λ (((there, slots), (below, room)), rest).
        let (first, second) = closed.parts (Goal.both g h) there in
        let (one_slots, two_slots) = and_parts (in_scope (length env) g) (in_scope (length env) h) slots in (
          ((first, one_slots), (below, omega (arith, room))),
          (
            (
              (second, two_slots),
              Each-like (Between st.counter (st.counter + width g)) (HasRoom h env) (λ a (low, high). (env-more st.counter a.counter low env below, omega (arith, room, high))) (heads (run g env st)) (run-between g env st),
              below-rest program st.counter (st.counter + width g + 2 ^ 21) env (run g env st) below (run-fits program g env st closed first one_slots below).tail,
            ),
            rest,
          ),
        );
    fewer = λ ready. omega arith;
  }

  pub becomes-either : ProgramIsClosed program → (g h : Goal) (env : List Tm) (st : Store) (ts : List Task) (vs : List Stream) →
      Becomes program (Task.run_at (Goal.either g h) env st ∷ ts) vs (Task.run_at h env st ∷ Task.run_at g env st ∷ Task.append_two ∷ ts) vs
  becomes-either closed g h env st ts vs = record {
    same = refl;
    ready = λ (((there, slots), (below, room)), rest).
        let (first, second) = closed.parts (Goal.either g h) there in
        let (one_slots, two_slots) = and_parts (in_scope (length env) g) (in_scope (length env) h) slots in
        (((second, two_slots), (below, omega (arith, room))), (((first, one_slots), (below, omega (arith, room))), rest));
    fewer = λ ready. omega arith;
  }

  pub becomes-fresh : ProgramIsClosed program → (k : ℕ) (g : Goal) (env : List Tm) (st : Store) (ts : List Task) (vs : List Stream) →
      Becomes program (Task.run_at (Goal.fresh k g) env st ∷ ts) vs (Task.run_at g (env ++ variables st.counter k) (with_fresh st k) ∷ ts) vs
  becomes-fresh closed k g env st ts vs = record {
    same = refl;
    ready = λ (((there, slots), (below, room)), rest). (
      (
        (closed.parts (Goal.fresh k g) there, wider-slots env st.counter k g slots),
        (
          list_all-append (all_below (st.counter + k)) env (variables st.counter k)
              ∙ and_from _ _ (env-more st.counter (st.counter + k) (omega arith) env below) (variables-below st.counter k),
          omega (arith, room),
        ),
      ),
      rest,
    );
    fewer = λ ready. omega arith;
  }

  -- a goal whose stream is there at once
  pub becomes-stream : (g : Goal) (env : List Tm) (st : Store) (ts : List Task) (vs : List Stream) → 0 < count g env st →
      Becomes program (Task.run_at g env st ∷ ts) vs ts (run g env st ∷ vs)
  becomes-stream g env st ts vs some = record { same = refl; ready = λ (room, rest). rest; fewer = λ ready. omega (arith, some) }

  pub becomes-appended : (s t : Stream) (ts : List Task) (vs : List Stream) → Becomes program (Task.append_two ∷ ts) (s ∷ t ∷ vs) ts (append s t ∷ vs)
  becomes-appended s t ts vs = record { same = refl; ready = λ rest. rest; fewer = λ ready. omega arith }

  pub becomes-closed : (s : Stream) (ts : List Task) (vs : List Stream) → Becomes program (Task.append_empty ∷ ts) (s ∷ vs) ts (append s empty ∷ vs)
  becomes-closed s ts vs = record { same = refl; ready = λ rest. rest; fewer = λ ready. omega arith }

  -- a goal at each store
  streams_after-each : (g : Goal) (env : List Tm) (hs : List Store) (last : Stream) (ts : List Task) (vs : List Stream) →
      streams_after (run_each g env hs ts) (last ∷ vs) ≡ streams_after ts (append_each (run g env) hs last ∷ vs)
  streams_after-each g env [] last ts vs = refl
  streams_after-each g env (st ∷ hs) last ts vs = streams_after-each g env hs last (Task.run_at g env st ∷ Task.append_two ∷ ts) vs

  ready-each : (g : Goal) (env : List Tm) (hs : List Store) (last : Stream) (ts : List Task) (vs : List Stream) → IsOf program g env → Each (HasRoom g env) hs →
      AreReady program ts (append_each (run g env) hs last ∷ vs) → AreReady program (run_each g env hs ts) (last ∷ vs)
  ready-each g env [] last ts vs is room rest = rest
  ready-each g env (st ∷ hs) last ts vs is (here, room) rest = ready-each g env hs last (Task.run_at g env st ∷ Task.append_two ∷ ts) vs is room ((is, here), rest)

  tasks_to_do-each : (g : Goal) (env : List Tm) (hs : List Store) (last : Stream) (ts : List Task) (vs : List Stream) →
      tasks_to_do (run_each g env hs ts) (last ∷ vs) ≡ for_each (count g env) hs + tasks_to_do ts (append_each (run g env) hs last ∷ vs)
  tasks_to_do-each g env [] last ts vs = omega arith
  tasks_to_do-each g env (st ∷ hs) last ts vs =
      let rest = tasks_to_do-each g env hs last (Task.run_at g env st ∷ Task.append_two ∷ ts) vs in rest ∙ omega arith

  pub becomes-bound : (g : Goal) (env : List Tm) (s : Stream) (ts : List Task) (vs : List Stream) →
      Becomes program (Task.bind_to g env ∷ ts) (s ∷ vs) (run_each g env (heads s) ts) (bound_last g env s ∷ vs)
  becomes-bound g env (Stream.ends hs) ts vs = record {
    same = streams_after-each g env hs empty ts vs;
    ready = λ ((is, room, below), rest). ready-each g env hs empty ts vs is room rest;
    fewer = λ ready. let more = tasks_to_do-each g env hs empty ts vs in omega (arith, more);
  }
  becomes-bound g env (Stream.goes_on hs i) ts vs = record {
    same = streams_after-each g env hs (Stream.goes_on [] (Thunk.bind g env i)) ts vs;
    ready = λ ((is, room, below), rest). ready-each g env hs (Stream.goes_on [] (Thunk.bind g env i)) ts vs is room rest;
    fewer = λ ready. let more = tasks_to_do-each g env hs (Stream.goes_on [] (Thunk.bind g env i)) ts vs in omega (arith, more);
  }

  -- a task alone, where its goal is the program's
  pub run-ready : ProgramIsClosed program → (g : Goal) (env again : List Tm) (st : Store) (ts : List Task) (vs : List Stream) → Contains program.goals g → in_scope (length env) g ≡ true →
      list_all (all_below st.counter) env ≡ true → st.counter ≤ 2 ^ 62 → ts ≡ Task.run_at g again st ∷ [] → again ≡ env → AreReady program ts vs
  run-ready closed g env again st ts vs there slots below room is same =
      let low = closed.narrow g there in rw (is, same) (((there, slots), (below, omega (arith, low, room))), tt)

  pub bind-ready : ProgramIsClosed program → (g : Goal) (env again : List Tm) (s : Stream) (hs : List Store) (ts : List Task) (vs : List Stream) → IsOf program g env →
      heads s ≡ hs → Each (λ st. (list_all (all_below st.counter) env ≡ true) × (st.counter ≤ 2 ^ 62)) hs → AreBelowRest env s →
      ts ≡ Task.bind_to g again ∷ [] → vs ≡ s ∷ [] → again ≡ env → AreReady program ts vs
  bind-ready closed g env again s hs ts vs (there, slots) has room below is one same =
      let low = closed.narrow g there in
      rw (is, same, one, has) (
        ((there, slots), Each-like (λ st. (list_all (all_below st.counter) env ≡ true) × (st.counter ≤ 2 ^ 62)) (HasRoom g env) (λ st (fit, most). (fit, omega (arith, low, most))) hs room, below),
        tt,
      )

  -- one task after another
  becomes-after : (ts us ws : List Task) (vs xs ys : List Stream) → Becomes program ts vs us xs → Becomes program us xs ws ys → Becomes program ts vs ws ys
  becomes-after ts us ws vs xs ys first second = record {
    same = second.same ∙ first.same;
    ready = λ ready. second.ready (first.ready ready);
    fewer = λ ready. let less = first.fewer ready in let least = second.fewer (first.ready ready) in omega (arith, less, least);
  }

  -- both goals, where the first one's stream ends: the second is run at its stores
  becomes-both-ended : ProgramIsClosed program → (g h : Goal) (env : List Tm) (st : Store) (hs : List Store) (ts : List Task) (vs : List Stream) →
      0 < count g env st → Stream.ends hs ≡ run g env st →
      Becomes program (Task.run_at (Goal.both g h) env st ∷ ts) vs (run_each h env hs ts) (empty ∷ vs)
  becomes-both-ended closed g h env st hs ts vs some is =
      let split = becomes-both closed g h env st ts vs in
      let ran = becomes-stream g env st (Task.bind_to h env ∷ ts) vs some in
      let bound = becomes-bound h env (run g env st) ts vs in
      let all = becomes-after _ _ _ _ _ _ split (becomes-after _ _ _ _ _ _ ran bound) in
      subst (λ s. Becomes program (Task.run_at (Goal.both g h) env st ∷ ts) vs (run_each h env (heads s) ts) (bound_last h env s ∷ vs)) (sym is) all

  -- where it has none, the stream of both is empty
  pub becomes-both-none : ProgramIsClosed program → (g h : Goal) (env : List Tm) (st : Store) (ts : List Task) (vs : List Stream) →
      0 < count g env st → empty ≡ run g env st → Becomes program (Task.run_at (Goal.both g h) env st ∷ ts) vs ts (empty ∷ vs)
  becomes-both-none closed g h env st ts vs some is = becomes-both-ended closed g h env st [] ts vs some is

  -- where it has one, nothing else comes behind the stream of the second
  pub becomes-both-one : ProgramIsClosed program → (g h : Goal) (env : List Tm) (st next : Store) (ts : List Task) (vs : List Stream) →
      0 < count g env st → one next ≡ run g env st →
      Becomes program (Task.run_at (Goal.both g h) env st ∷ ts) vs (Task.run_at h env next ∷ Task.append_empty ∷ ts) vs
  becomes-both-one closed g h env st next ts vs some is =
      let all = becomes-both-ended closed g h env st (next ∷ []) ts vs some is in
      record { same = all.same; ready = all.ready; fewer = all.fewer }
