-- What a source in memory has open.
use Rattle.std.specs.Prelude.{ℕ, List, [], String, Vec}
use Rattle.std.specs.declared.alloc.Global.{Global}
use Rattle.kan_base.specs.Files.{bytes_at}
use Rattle.kan_base.specs.declared.memory_source.Opened.{Opened}
use Rattle.kan_base.specs.declared.memory_source.Opened.TheVariants.{Nothing, Input, File}

-- the bytes of what is open, from its beginning
abbrev pub opened_bytes : Opened → List ℕ → List (String Global × Vec ℕ Global) → List ℕ
opened_bytes Nothing input files = []
opened_bytes Input input files = input
opened_bytes (File at) input files = bytes_at files at
