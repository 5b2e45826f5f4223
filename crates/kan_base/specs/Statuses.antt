-- The exit codes of the statuses.
use Rattle.std.specs.Prelude.{ℕ}
use Rattle.kan_base.specs.declared.status.Status.{Status}
use Rattle.kan_base.specs.declared.status.Status.TheVariants.{Done, Fuel, Usage, Text, ReadFault}
use Rattle.kan_base.specs.declared.status.Status.TheVariants.{WriteFault, TooLong, Memory}

-- 0 where everything was done, and a number for each other status
abbrev pub status_code : Status → ℕ
status_code Done = 0
status_code Fuel = 1
status_code Usage = 2
status_code (Text at kind) = 3
status_code ReadFault = 4
status_code WriteFault = 5
status_code TooLong = 6
status_code Memory = 7
