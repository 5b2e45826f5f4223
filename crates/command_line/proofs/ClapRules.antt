-- The command as clap sees it.
use Rattle.std.proofs.Common.{◌≡◌, true, List, codes, refl}
use Rattle.clap.specs.Walk.{Rule}
use Rattle.clap.specs.Simple.{Shape, built}
use Rattle.clap.specs.Faults.{is_simple_and_free}
use Rattle.command_line.specs.Clap.{app}
use Rattle.command_line.specs.Parts.{Text}
use Rattle.command_line.specs.Parts.{Setting}
use Rattle.command_line.specs.Parts.{Workers, Fuel, Ahead, Round, Dialect, Gen}

pub is_exact : is_simple_and_free app ≡ true
is_exact = refl

abbrev pub shape : Shape
shape = (built app).top

abbrev pub rules : List Rule
rules = shape.rules

abbrev pub name_of : Setting → Text
name_of Workers = codes "workers"
name_of Fuel = codes "fuel"
name_of Ahead = codes "ahead"
name_of Round = codes "round"
name_of Dialect = codes "dialect"
name_of Gen = codes "gen"
