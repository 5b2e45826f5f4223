-- The answers of a run cover its solutions alone, and all of them but for a limit or the fuel.
use Rattle.std.proofs.Common.{◌⊎◌, ℕ, Contains, inl, inr, subst}
use Rattle.kan_terms.specs.Table.{Table}
use Rattle.kan_terms.specs.Tree.{Gd}
use Rattle.kan_model.specs.Meaning.Derivations.{IsRunSolution}
use Rattle.kan_model.specs.Programs.Goals.{Program, Query}
use Rattle.kan_model.specs.Stores.Store.{Store}
use Rattle.kan_model.specs.Streams.Pulls.{pulls_for}
use Rattle.kan_model.specs.Streams.Running.{start}
use Rattle.kan_model.specs.Streams.Taking.{take_query}
use Rattle.pull_bounds.specs.Finding.{IsSolvedAt, IsTaken, IsCutBefore}
use Rattle.pull_bounds.proofs.TakenSolutions.{none_is_missed, end_has_all}
use Rattle.kan_meaning.specs.Answers.{AnswersAreSolutions, IsCovered, SolutionsAreAnswered, EndCoversAll}
use Rattle.kan_meaning.proofs.CoveredSolutions.{solutions_are_covered}
use Rattle.kan_meaning.proofs.Instances.SolvedInstances.{instances_are_values}
use Rattle.kan_meaning.proofs.StandingStores.{Stands, StreamStands, force_stands, start_stands}
use Rattle.kan_meaning.proofs.TakenLaws.{taken_are_solutions}
use Rattle.kan_meaning.proofs.TakingLaws.{one_of_each, take_each}

taken_stands : (program : Program) (q : Query) (fuel : ℕ) (st : Store) → Contains (take_query program fuel q).stores st → Stands 1 st
taken_stands program q fuel st there =
    one_of_each (Stands 1) (take_query program fuel q).stores st
    (take_each program (Stands 1) (λ s. StreamStands s 1) (λ hs h. h) (λ hs i (h, behind). (h, force_stands program 1 i behind)) fuel (start q.goal) q.limit (start_stands q.goal)) there

pub answers_are_solutions : AnswersAreSolutions
answers_are_solutions program q fuel table st u there covers = by ((instances_are_values table st u stands.kept stands.counted stands.above).0 covers)
  where
    stands : Stands 1 st
    stands = taken_stands program q fuel st there

    by : IsSolvedAt u st → IsRunSolution program q.goal u
    by (us, solves, at) = subst (IsRunSolution program q.goal) at (taken_are_solutions program q fuel st us there solves)

-- a solution that is taken is covered
taken_is_covered : (program : Program) (q : Query) (fuel : ℕ) (table : Table) (u : Gd) → IsTaken u (take_query program fuel q) → IsCovered table (take_query program fuel q).stores u
taken_is_covered program q fuel table u (k, st, within, is, solved) = (k, st, within, is, solutions_are_covered table st u (taken_stands program q fuel st (k, within, is)).kept solved)

pub solutions_are_answered : SolutionsAreAnswered
solutions_are_answered program q fuel table u d h = by (none_is_missed program q fuel u d h)
  where
    by : IsTaken u (take_query program fuel q) ⊎ IsCutBefore (pulls_for program q.goal d) fuel (take_query program fuel q).ending →
        IsCovered table (take_query program fuel q).stores u ⊎ IsCutBefore (pulls_for program q.goal d) fuel (take_query program fuel q).ending
    by (inl taken) = inl (taken_is_covered program q fuel table u taken)
    by (inr cut) = inr cut

covered_is_solution : (program : Program) (q : Query) (fuel : ℕ) (table : Table) (u : Gd) → IsCovered table (take_query program fuel q).stores u → IsRunSolution program q.goal u
covered_is_solution program q fuel table u (k, st, within, is, covers) = answers_are_solutions program q fuel table st u (k, within, is) covers

pub end_covers_all : EndCoversAll
end_covers_all program q fuel table u ended =
    (covered_is_solution program q fuel table u, λ solution. taken_is_covered program q fuel table u (end_has_all program q fuel u ended solution))
