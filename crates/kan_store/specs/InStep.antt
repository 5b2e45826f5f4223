-- Bindings, types, absences and disequalities in step with the primitives of a store.
use Rattle.std.specs.Prelude.{◌≡◌, ℕ, true, List, Some, None}
use Rattle.std.specs.List.{list_all}
use Rattle.kan_terms.specs.Tree.{Tm}
use Rattle.kan_terms.specs.Bound.{bound_to}
use Rattle.kan_model.specs.Programs.Goals.{Primitive}
use Rattle.kan_model.specs.Stores.Store.{Store}
use Rattle.kan_model.specs.Stores.Solve.{Replacement, apply, solve_store}
use Rattle.kan_model.specs.Stores.Kept.{allows, has_type}
use Rattle.kan_model.specs.Answers.Answer.{has_absence}
use Rattle.kan_model.specs.declared.prims.Kind.{Kind}
use Rattle.unify_core.specs.Cycles.{HasNoCycle}
use Rattle.unify_core.specs.Walking.{Pairs, full}
use Rattle.type_absence.specs.Tags.{is_listed}
use Rattle.type_absence.specs.Types.{Types}
use Rattle.type_absence.specs.Absent.{TagsOf}
use Rattle.diseq.specs.Disequalities.{Brought}
use Rattle.diseq.specs.Kept.{AreWatched, Disequalities}
use Rattle.kan_store.specs.AskedDifferences.{asked_differences}

-- the types of variables that aren't bound are those that the store's primitives give them
abbrev pub TypesInStep : Pairs → Types → Replacement → List (Primitive Tm) → Type 0
TypesInStep bound types s ps =
    (v : ℕ) → bound_to v bound ≡ None → (k : Kind) → (types v ≡ Some k → has_type k s ps v ≡ true)
    × (has_type k s ps v ≡ true → types v ≡ Some k)

-- the tags of variables that aren't bound are those whose absence the store's primitives give them
abbrev pub TagsInStep : Pairs → TagsOf → Replacement → List (Primitive Tm) → Type 0
TagsInStep bound tags s ps =
    (v : ℕ) → bound_to v bound ≡ None → (tag : ℕ) →
    (is_listed tag (tags v) ≡ true → has_absence s ps tag v ≡ true)
    × (has_absence s ps tag v ≡ true → is_listed tag (tags v) ≡ true)

-- The bindings make of each term what the answer s of the store's equations makes of it, types and
-- absences of unbound variables are those that
-- the primitives give, the disequalities are brought up to the bindings and watched, and each
-- primitive is allowed.
pub record InStep (bound : Pairs) (types : Types) (tags : TagsOf) (lists : Disequalities)
    (st : Store) : Type 0 where
  pub answer : Replacement
  pub no_cycle : HasNoCycle bound
  pub solved : solve_store st ≡ Some answer
  pub fulls : (t : Tm) → full bound t ≡ apply answer t
  pub typed : TypesInStep bound types answer st.prims
  pub tagged : TagsInStep bound tags answer st.prims
  pub differ : Brought bound (asked_differences st.prims) lists.asserted
  pub watched : AreWatched bound lists.asserted lists.watching
  pub allowed : list_all (allows answer) st.prims ≡ true
