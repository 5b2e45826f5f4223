use Rattle.susp_cells.specs.Tables.{IsIn}
use Rattle.susp_cells_tests.proofs.chains.chain.Given as goal

abbrev pub invariant-loop : goal.invariant-loop
invariant-loop g l = IsIn l.fn.table l.last
