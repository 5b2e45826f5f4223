-- How many stores come within some pulls.
use Rattle.std.proofs.Common.{◌≡◌, ℕ, zero, suc, ◌+◌, ◌*◌, ◌≤◌, List, [], ◌∷◌, ◌++◌, length, Bool, true, false, Option, Some, None, slice_get, refl, ap, ◌∙◌, arith}
use Rattle.std.proofs.lemmas.List.{length-append}
use Rattle.std.proofs.Math.Nat.{suc-mul, add-mul, mul-le-mul, le_trans, le_refl}
use Rattle.kan_terms.specs.Tree.{Tm}
use Rattle.kan_model.specs.Programs.Goals.{Goal, Program, Relation, on_sides}
use Rattle.kan_model.specs.Stores.Store.{Store, with_prim, with_fresh}
use Rattle.kan_model.specs.Streams.Stream.{Stream, Thunk, empty, one, append, append_each, bind_all}
use Rattle.kan_model.specs.Streams.Running.{run, enter, force, instance, instances, name_pairs, variables}
use Rattle.kan_model.specs.Stores.Kept.{is_kept}
use Rattle.kan_model.specs.Streams.Pulls.{answers_by, answers_behind}
use Rattle.kan_model.specs.Streams.Taking.{stores_within}
use Rattle.pull_bounds.specs.Coming.{AnswersAreBounded}
use Rattle.pull_bounds.proofs.Within.{within_ends, within_none, within_pull}

module _ (program : Program) where
  unfoldable pub count : ℕ → Stream → ℕ
  count d s = length (stores_within program d s)

  pub count_ends : (d : ℕ) (hs : List Store) → count d (Stream.ends hs) ≡ length hs
  unfolding count
  count_ends d hs = ap length (within_ends program d hs)

  pub count_none : (hs : List Store) (i : Thunk) → count 0 (Stream.goes_on hs i) ≡ length hs
  unfolding count
  count_none hs i = ap length (within_none program hs i)

  pub count_pull : (d : ℕ) (hs : List Store) (i : Thunk) → count (suc d) (Stream.goes_on hs i) ≡ length hs + count d (force program i)
  unfolding count
  count_pull d hs i = ap length (within_pull program d hs i) ∙ length-append hs (stores_within program d (force program i))

  -- with one pull more there are no fewer
  pub count_grows : (d : ℕ) (s : Stream) → count d s ≤ count (suc d) s
  count_grows d (Stream.ends hs) = omega (arith, count_ends d hs, count_ends (suc d) hs)
  count_grows zero (Stream.goes_on hs i) = omega (arith, count_none hs i, count_pull 0 hs i)
  count_grows (suc d) (Stream.goes_on hs i) = omega (arith, count_pull d hs i, count_pull (suc d) hs i, count_grows d (force program i))

  -- two streams that are appended have no more than both
  pub count_append : (d : ℕ) (s t : Stream) → count d (append s t) ≤ count d s + count d t
  count_append d (Stream.ends hs) (Stream.ends ks) = omega (arith, count_ends d hs, count_ends d ks, count_ends d (hs ++ ks), length-append hs ks)
  count_append zero (Stream.ends hs) (Stream.goes_on ks i) = omega (arith, count_ends 0 hs, count_none ks i, count_none (hs ++ ks) i, length-append hs ks)
  count_append (suc d) (Stream.ends hs) (Stream.goes_on ks i) =
      omega (arith, count_ends (suc d) hs, count_pull d ks i, count_pull d (hs ++ ks) i, length-append hs ks)
  count_append zero (Stream.goes_on hs i) t = omega (arith, count_none hs i, count_none hs (Thunk.swap t i))
  count_append (suc d) (Stream.goes_on hs i) t =
      omega (arith, count_pull d hs i, count_pull d hs (Thunk.swap t i), count_append d t (force program i), count_grows d t)

  -- a goal that gives at most m at each store gives at most m for each of several
  pub count_each : (d m : ℕ) (goal_at : Store → Stream) → ((st : Store) → count d (goal_at st) ≤ m) → (hs : List Store) (t : Stream) →
      count d (append_each goal_at hs t) ≤ length hs * m + count d t
  count_each d m goal_at bounded [] t = omega arith
  count_each d m goal_at bounded (st ∷ sts) t =
      omega (arith, count_append d (goal_at st) (append_each goal_at sts t), bounded st, count_each d m goal_at bounded sts t, suc-mul (length sts) m)

  -- and at most m for each store of a stream
  pub count_bind : (d m : ℕ) (g : Goal) (env : List Tm) → ((st : Store) → count d (run g env st) ≤ m) → (s : Stream) →
      count d (bind_all (run g env) g env s) ≤ count d s * m
  count_bind d m g env bounded (Stream.ends hs) =
      let each = count_each d m (run g env) bounded hs empty in
      let none = count_ends d [] in
      let all = ap (λ k. k * m) (count_ends d hs) in
      omega (arith, each, none, all)
  count_bind zero m g env bounded (Stream.goes_on hs i) =
      let each = count_each 0 m (run g env) bounded hs (Stream.goes_on [] (Thunk.bind g env i)) in
      let none = count_none [] (Thunk.bind g env i) in
      let all = ap (λ k. k * m) (count_none hs i) in
      omega (arith, each, none, all)
  count_bind (suc d) m g env bounded (Stream.goes_on hs i) =
      let each = count_each (suc d) m (run g env) bounded hs (Stream.goes_on [] (Thunk.bind g env i)) in
      let rest = count_pull d [] (Thunk.bind g env i) in
      let below = count_bind d m g env (λ st. omega (arith, count_grows d (run g env st), bounded st)) (force program i) in
      let all = ap (λ k. k * m) (count_pull d hs i) ∙ add-mul (length hs) (count d (force program i)) m in
      omega (arith, each, rest, below, all)

  -- a bound on what goals give behind one pull
  abbrev BoundsBehind : ℕ → (Goal → ℕ) → Type 0
  BoundsBehind d after_pull = (i : Thunk) (g : Goal) (env : List Tm) (st : Store) → force program i ≡ run g env st → count d (Stream.goes_on [] i) ≤ after_pull g

  count_nothing : (d : ℕ) (i : Thunk) → force program i ≡ empty → count d (Stream.goes_on [] i) ≤ 0
  count_nothing zero i e = omega (arith, count_none [] i)
  count_nothing (suc d) i e = omega (arith, count_pull d [] i, ap (count d) e, count_ends d [])

  -- a call gives what the body gives
  count_call : (d : ℕ) (after_pull : Goal → ℕ) → BoundsBehind d after_pull → (r : ℕ) (args : List Tm) (st : Store) →
      count d (Stream.goes_on [] (Thunk.call r args st)) ≤ elim (slice_get program.relations r) [ Some rel ↦ after_pull rel.body | None ↦ 0 ]
  count_call d after_pull behind r args st = by (slice_get program.relations r) refl
    where
      by : (found : Option Relation) → slice_get program.relations r ≡ found →
          count d (Stream.goes_on [] (Thunk.call r args st)) ≤ elim found [ Some rel ↦ after_pull rel.body | None ↦ 0 ]
      by None e = count_nothing d (Thunk.call r args st) (ap (λ rel. enter rel args st) e)
      by (Some rel) e = behind (Thunk.call r args st) rel.body args st (ap (λ rel. enter rel args st) e)

  -- a goal has no more answers than are counted for it
  count_run : (d : ℕ) (after_pull : Goal → ℕ) → BoundsBehind d after_pull → (g : Goal) (env : List Tm) (st : Store) →
      count d (run g env st) ≤ answers_by after_pull program g
  count_run d after_pull behind (Goal.prim p) env st = by (is_kept (with_prim st (on_sides (instance env) p)))
    where
      by : (kept : Bool) → count d (elim kept [ true ↦ one (with_prim st (on_sides (instance env) p)) | false ↦ empty ]) ≤ 1
      by true = omega (arith, count_ends d (with_prim st (on_sides (instance env) p) ∷ []))
      by false = omega (arith, count_ends d [])
  count_run d after_pull behind Goal.succeed env st = omega (arith, count_ends d (st ∷ []))
  count_run d after_pull behind Goal.fail env st = omega (arith, count_ends d [])
  count_run d after_pull behind (Goal.both g h) env st =
      le_trans (count_bind d (answers_by after_pull program h) h env (λ s. count_run d after_pull behind h env s) (run g env st))
      (mul-le-mul (count_run d after_pull behind g env st) (le_refl (answers_by after_pull program h)))
  count_run d after_pull behind (Goal.either g h) env st =
      omega (arith, count_append d (run g env st) (run h env st), count_run d after_pull behind g env st, count_run d after_pull behind h env st)
  count_run d after_pull behind (Goal.fresh k g) env st = count_run d after_pull behind g (env ++ variables st.counter k) (with_fresh st k)
  count_run d after_pull behind (Goal.later g) env st = behind (Thunk.pause g env st) g env st refl
  count_run d after_pull behind (Goal.call r args) env st =
      count_call d after_pull behind r (name_pairs st (instances env args)).values (name_pairs st (instances env args)).store

  count_behind : (d : ℕ) → BoundsBehind d (answers_behind program d)
  count_behind zero i g env st e = omega (arith, count_none [] i)
  count_behind (suc d) i g env st e = omega (arith, count_pull d [] i, ap (count d) e, count_run d (answers_behind program d) (count_behind d) g env st)

pub answers_are_bounded : AnswersAreBounded
unfolding count
answers_are_bounded program g env st d = count_run program d (answers_behind program d) (count_behind program d) g env st
