use Rattle.susp_cells.specs.Tables.{IsIn}
use Rattle.worker_tests.proofs.chains.compared.Given as goal

-- the suspension that comes next is of the table
abbrev pub invariant-loop-count : goal.invariant-loop-count
invariant-loop-count g l = IsIn l.fn.table l.at
