-- What a search gives misses no solution of its run.
use Rattle.std.proofs.Common.{◌≡◌, ℕ, List, sym, ap, subst}
use Rattle.std.specs.Prelude.{Option, Any, Contains, ◌++◌}
use Rattle.std.proofs.Math.Logic.{◌⊎◌, inl, inr}
use Rattle.std.proofs.lemmas.List.Elements.{Contains-append_cases}
use Rattle.kan_terms.specs.Tree.{Gd}
use Rattle.kan_model.specs.Programs.Goals.{Program, Query}
use Rattle.kan_model.specs.Stores.Store.{Store}
use Rattle.kan_model.specs.Streams.Taking.{Taken, take_query}
use Rattle.pull_bounds.specs.Finding.{IsSolvedAt, IsTaken}
use Rattle.pull_bounds.proofs.TakenSolutions.{none_is_missed}
use Rattle.kan_search.specs.Batches.{Advances}
use Rattle.kan_search.specs.SolutionsLeft.{KeepsSolutions, MissesNone}
use Rattle.kan_search.specs.declared.batch.Ended.{Ended}

pub run_misses_none : (program : Program) (q : Query) (fuel : ℕ) (t : Taken) → t ≡ take_query program fuel q → MissesNone program q fuel t
run_misses_none program q fuel t is = subst (MissesNone program q fuel) (sym is) (none_is_missed program q fuel)

-- a store of two lists joined is one of the one or of the other
in_either : (u : Gd) (xs ys : List Store) → Any (IsSolvedAt u) (xs ++ ys) → Any (IsSolvedAt u) xs ⊎ Any (IsSolvedAt u) ys
in_either u xs ys (k, st, within, is, solved) = by (Contains-append_cases xs ys st (k, within, is))
  where
    by : Contains xs st ⊎ Contains ys st → Any (IsSolvedAt u) xs ⊎ Any (IsSolvedAt u) ys
    by (inl (i, there, at)) = inl (i, st, there, at, solved)
    by (inr (i, there, at)) = inr (i, st, there, at, solved)

pub advance_keeps : (round pulls pulls_after : ℕ) (before after : Taken) (answers : List Store) (ended : Option Ended) → Advances round before pulls answers ended after pulls_after →
    KeepsSolutions before answers after
advance_keeps round pulls pulls_after before after answers ended h = record {
  each = λ u taken. in_either u answers after.stores (subst (λ (t : Taken). IsTaken u t) h.joins taken);
  ending = sym (ap (λ (t : Taken). t.ending) h.joins);
}
