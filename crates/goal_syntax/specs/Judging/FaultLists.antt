-- What the faults of the code stand for.
use Rattle.std.specs.Prelude.{◌≡◌, List, ◌++◌, map}
use Rattle.kan_grammar.specs.Data.Faults as faults
use Rattle.goal_syntax.specs.declared.fault.Fault.{Fault}

abbrev pub fault_of : Fault → faults.Fault
fault_of f = faults.fault f.at f.refusal

abbrev pub fault_list : List Fault → List faults.Fault
fault_list fs = map fault_of fs

-- these faults were noted behind those that were noted before
abbrev pub AddsFaults : List Fault → List Fault → List faults.Fault → Type 0
AddsFaults old new noted = fault_list new ≡ fault_list old ++ noted
