-- A stream that is a goal's finds what the goal's own stream finds.
use Rattle.std.proofs.Common.{◌≡◌, true, List, sym, subst}
use Rattle.std.specs.List.{list_all}
use Rattle.kan_terms.specs.Tree.{Tm}
use Rattle.kan_model.specs.Programs.Goals.{Goal, Program}
use Rattle.kan_model.specs.Programs.Scope.{all_below, is_counted}
use Rattle.kan_model.specs.Stores.Store.{Store}
use Rattle.kan_model.specs.Streams.Stream.{Stream}
use Rattle.kan_model.specs.Streams.Running.{run}
use Rattle.pull_bounds.proofs.CountLaws.{answers_are_bounded}
use Rattle.pull_bounds.proofs.FoundSolutions.{derivation_is_found}
use Rattle.stream_core.specs.SolutionsFound.{FindsSolutions, GivesFew}

pub finds_solutions : (program : Program) (g : Goal) (env : List Tm) (st : Store) (s : Stream) → s ≡ run g env st → is_counted st ≡ true → list_all (all_below st.counter) env ≡ true →
    FindsSolutions program g env st s
finds_solutions program g env st s is counted below =
    subst (FindsSolutions program g env st) (sym is) (λ us d solves h. derivation_is_found program g env st us d (counted, below) solves h)

pub gives_few : (program : Program) (g : Goal) (env : List Tm) (st : Store) (s : Stream) → s ≡ run g env st → GivesFew program g s
gives_few program g env st s is = subst (GivesFew program g) (sym is) (answers_are_bounded program g env st)
