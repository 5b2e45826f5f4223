-- Want of memory.
use Rattle.kan_terms.specs.declared.terms.Memory.{Memory}

-- the one value of Memory
abbrev pub memory : Memory
memory = record {}
