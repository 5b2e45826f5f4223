-- Streams of the endless program's goals have no variables.
use Rattle.std.proofs.Common.{◌≡◌, ◌∙◌, ◌≤◌, ◌<◌, ◌+◌, ◌^◌, ℕ, zero, suc, List, [], ◌∷◌, length, refl, sym, ap, subst, arith, map}
use Rattle.std.specs.Prelude.{Option, Some, None, option_map, true, IfSome}
use Rattle.std.specs.List.{list_all}
use Rattle.kan_terms.specs.Tree.{Tm}
use Rattle.kan_model.specs.Programs.Goals.{Program}
use Rattle.kan_model.specs.Programs.Closed as programs
use Rattle.kan_model.specs.Programs.Tables.{Tables, goal_at, goals_of}
use Rattle.kan_model.specs.Programs.Scope.{width, in_scope, all_below}
use Rattle.kan_model.specs.Stores.Store as facts
use Rattle.kan_model.specs.Streams.Stream as model
use Rattle.kan_model.specs.declared.program.Program as code
use Rattle.stream_core.specs.CounterBounds.{Between, TailFits, RestFits, FitsAsBoth, FitsAsBound}
use Rattle.stream_core.specs.Suspensions.{going_on}
use Rattle.stream_core.specs.Tables.{Table, Grows, OnlyAdds, IsTableOf, HasStream, stream_in}
use Rattle.stream_core.specs.Tasks.{IsOf, AreBelow, AreBelowRest}
use Rattle.kan_model.specs.Each.{Each}
use Rattle.stream_core.specs.declared.streams.Stream.{Stream}
use Rattle.stream_core.proofs.ClosedLaws.{goal-there}
use Rattle.stream_core.proofs.FitLaws.{fits-moved, fits-wider}
use Rattle.stream_core.proofs.StreamLaws.{all-belong, stream-stays, heads-going}
use Rattle.stream_core.proofs.TableLaws.{table_stays}
use Rattle.engine_tests.specs.Small.{endless_tables}
use Rattle.engine_tests.specs.Bare.{IsBare, HasRoom}

-- a goal is in tables, needs no slots and takes no variables
record IsPlain (t : Tables) (i : ℕ) : Type 0 where
  pub there : i < length (goals_of t)
  pub slots : (n : ℕ) → in_scope n (goal_at (goals_of t) i) ≡ true
  pub narrow : width (goal_at (goals_of t) i) ≡ 0

endless_plain : (i : ℕ) → i < 4 → IsPlain endless_tables i
endless_plain zero h = record { there = omega arith; slots = λ n. refl; narrow = refl }
endless_plain (suc zero) h = record { there = omega arith; slots = λ n. refl; narrow = refl }
endless_plain (suc (suc zero)) h = record { there = omega arith; slots = λ n. refl; narrow = refl }
endless_plain (suc (suc (suc zero))) h = record { there = omega arith; slots = λ n. refl; narrow = refl }
endless_plain (suc (suc (suc (suc i)))) h = absurd (omega (arith, h))

plain : (p : code.Program) (i : ℕ) → programs.tables p ≡ endless_tables → i < 4 → IsPlain (programs.tables p) i
plain p i same low = subst (λ t. IsPlain t i) (sym same) (endless_plain i low)

-- what running and binding such a goal ask
pub plain_there : (p : code.Program) (i : ℕ) → programs.tables p ≡ endless_tables → i < 4 → i < length (programs.goals p)
plain_there p i same low = (plain p i same low).there

pub plain_slots : (p : code.Program) (i n : ℕ) → programs.tables p ≡ endless_tables → i < 4 → in_scope n (programs.goal p i) ≡ true
plain_slots p i n same low = (plain p i same low).slots n

pub plain_of : (p : code.Program) (i : ℕ) (env : List Tm) → programs.tables p ≡ endless_tables → i < 4 → IsOf (programs.meaning p) (programs.goal p i) env
plain_of p i env same low = (goal-there (programs.goals p) i (plain_there p i same low), plain_slots p i (length env) same low)

pub none_below : (env : List Tm) (n : ℕ) → env ≡ [] → list_all (all_below n) env ≡ true
none_below env n none = rw none refl

module _ {I : Type 0} where
  -- a table is of its program still
  pub adds_stay : (p : code.Program) (t u : Table I) → IsTableOf p t → OnlyAdds t u → IsTableOf p u
  adds_stay p t u is adds = table_stays _ p t u adds is

  pub grows_stay : (p : code.Program) (t u : Table I) → IsTableOf p t → Grows t u → IsTableOf p u
  grows_stay p t u is grows = table_stays _ p t u grows is

-- stores without variables may be bound, and what goes on with them may be forced
each_below : (env : List Tm) (hs : List facts.Store) → env ≡ [] → Each (Between 0 0) hs → Each (AreBelow env) hs
each_below env [] none h = tt
each_below env (st ∷ hs) none ((low, high), rest) = ((none_below env st.counter none, omega (arith, high)), each_below env hs none rest)

rest_below : (env : List Tm) (s : model.Stream) → env ≡ [] → AreBelowRest env s
rest_below env (model.Stream.ends hs) none = tt
rest_below env (model.Stream.goes_on hs i) none = none_below env _ none

tail_room : {I : Type 0} (t : Table I) (program : Program) (hs : List facts.Store) (o : Option I) → IfSome o t.belongs → RestFits program 0 (0 + 2 ^ 21) (going_on hs (option_map t.tree o)) → IfSome o (HasRoom t)
tail_room t program hs None belong fits = tt
tail_room t program hs (Some id) belong (there, low, high) = (belong, omega (arith, high))

module _ {I St : Type 0} where
  -- a stream has no variables still
  pub bare_stays : (t u : Table I) (means : St → facts.Store) (s : Stream I St) → OnlyAdds t u → IsBare t means s → IsBare u means s
  bare_stays t u means s adds bare = record {
    belong = (all-belong t.belongs u.belongs t.tree u.tree adds.ids (s ∷ []) (bare.belong, tt)).0;
    fits = fits-moved t.program u.program 0 0 (stream_in t means s) (stream_in u means s) adds.program (stream-stays t.belongs u.belongs t.tree u.tree means adds.ids s bare.belong) bare.fits;
  }

  -- the stream of a goal, two that are appended, and a goal that is bound
  pub bare_run : (p : code.Program) (t u : Table I) (means : St → facts.Store) (i : ℕ) (st : facts.Store) (s : Stream I St) → IsTableOf p t → OnlyAdds t u →
      programs.tables p ≡ endless_tables → i < 4 → st ≡ facts.bare 0 → HasStream u s →
      TailFits (programs.meaning p) st.counter (st.counter + width (programs.goal p i)) (stream_in u means s) → IsBare u means s
  bare_run p t u means i st s is adds same low empty belong fits =
      let none : st.counter ≡ 0 = ap (λ (x : facts.Store). x.counter) empty in
      let wide : width (programs.goal p i) ≡ 0 = (plain p i same low).narrow in
      record {
        belong = belong;
        fits = fits-moved (programs.meaning p) u.program 0 0 (stream_in u means s) (stream_in u means s) (adds.program ∙ is.program) refl
            (fits-wider (programs.meaning p) st.counter (st.counter + width (programs.goal p i)) 0 0 (stream_in u means s) (omega arith) (omega (arith, none, wide)) fits);
      }

  pub bare_both : (t u : Table I) (means : St → facts.Store) (left right made : Stream I St) → IsBare t means left → IsBare t means right → OnlyAdds t u → HasStream u made →
      FitsAsBoth t.program (stream_in t means left) (stream_in t means right) (stream_in u means made) → IsBare u means made
  bare_both t u means left right made one two adds belong fits = record {
    belong = belong;
    fits = fits-moved t.program u.program 0 0 (stream_in u means made) (stream_in u means made) adds.program refl (fits 0 0 one.fits two.fits);
  }

  pub bare_bound : (p : code.Program) (t u : Table I) (means : St → facts.Store) (i : ℕ) (env : List Tm) (s made : Stream I St) → IsTableOf p t → OnlyAdds t u →
      programs.tables p ≡ endless_tables → i < 4 → env ≡ [] → IsBare t means s → HasStream u made →
      FitsAsBound (programs.meaning p) (programs.goal p i) env (stream_in t means s) (stream_in u means made) → IsBare u means made
  bare_bound p t u means i env s made is adds same low none bare belong fits =
      let wide : width (programs.goal p i) ≡ 0 = (plain p i same low).narrow in
      let before = fits-moved t.program (programs.meaning p) 0 0 (stream_in t means s) (stream_in t means s) (sym is.program) refl bare.fits in
      record {
        belong = belong;
        fits = fits-moved (programs.meaning p) u.program 0 0 (stream_in u means made) (stream_in u means made) (adds.program ∙ is.program) refl
            (fits-wider (programs.meaning p) 0 (0 + width (programs.goal p i)) 0 0 (stream_in u means made) (omega arith) (omega (arith, wide)) (fits 0 0 (none_below env 0 none) before));
      }

  -- a goal may be bound to it
  pub bare_heads : (t : Table I) (means : St → facts.Store) (env : List Tm) (s : Stream I St) → env ≡ [] → IsBare t means s → Each (AreBelow env) (map means s.heads)
  bare_heads t means env s none bare =
      subst (Each (AreBelow env)) (heads-going (map means s.heads) (option_map t.tree s.tail)) (each_below env (model.heads (stream_in t means s)) none bare.fits.heads)

  pub bare_rest : (t : Table I) (means : St → facts.Store) (env : List Tm) (s : Stream I St) → env ≡ [] → AreBelowRest env (stream_in t means s)
  bare_rest t means env s none = rest_below env (stream_in t means s) none

  -- its suspension may be forced
  pub bare_room : (t : Table I) (means : St → facts.Store) (s : Stream I St) → IsBare t means s → IfSome s.tail (HasRoom t)
  bare_room t means s bare = tail_room t t.program (map means s.heads) s.tail bare.belong bare.fits.tail
