use Rattle.std.proofs.Common.{◌∙◌, ap, arith}
use Rattle.kan_model.specs.Programs.Closed as programs
use Rattle.kan_model.specs.Streams.Taking.{take}
use Rattle.kan_search.proofs.SolutionLaws.{run_misses_none}
use Rattle.kan_search.proofs.searching.Search.open.Goals as goal

pub start-requires-clause-table : goal.start-requires-clause-table
start-requires-clause-table g c = record { program = c.requires.table; small = c.requires.small }

pub invariant_of-result : goal.invariant_of-result
invariant_of-result g c = record {
  table = record { program = c.start.ensures.grows.program ∙ c.requires.table; small = c.requires.small };
  belongs = c.in_ok-pulled.ensures.belong;
  room = c.in_ok-pulled.ensures.room;
  few = let most = c.requires.fuel.1 in omega (arith, most);
}

pub returns-clause-left : goal.returns-clause-left
returns-clause-left g c = ap (λ s. take (programs.meaning c.args.program.now) c.args.fuel s c.args.query.now.limit) c.in_ok-pulled.ensures.made

pub returns-clause-misses_none : goal.returns-clause-misses_none
returns-clause-misses_none g c =
    run_misses_none (programs.meaning c.args.program.now) (programs.query_of c.args.program.now c.args.query.now) c.args.fuel _ (returns-clause-left g c)
