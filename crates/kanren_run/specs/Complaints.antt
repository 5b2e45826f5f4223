-- What standard error says of a call that came to nothing.
use Rattle.std.specs.Prelude.{ℕ, List, Option, None, Some, codes}
use Rattle.kan_base.specs.declared.status.Status.{Status}
use Rattle.kan_base.specs.declared.status.Status.TheVariants.{Usage, ReadFault, WriteFault, TooLong}
use Rattle.kan_base.specs.declared.status.Status.TheVariants.{Memory}

-- the line of a status, where it has one
abbrev pub complaint : Status → Option (List ℕ)
complaint Usage =
    Some (codes "usage: kanren [--workers N] [--fuel N] [--ahead N] [--round N] [--dialect D] [--lib] [--gen N] [FILE]")
complaint ReadFault = Some (codes "kanren: read fault")
complaint WriteFault = Some (codes "kanren: write fault")
complaint TooLong = Some (codes "kanren: text too long")
complaint Memory = Some (codes "kanren: out of memory")
complaint _ = None
