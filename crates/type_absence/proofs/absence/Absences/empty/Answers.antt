use Rattle.std.proofs.Common.{[], ap}
use Rattle.std.specs.Prelude.{unwrap_or}
use Rattle.type_absence.proofs.absence.Absences.empty.Goals as goal

pub returns : goal.returns
returns c = λ v. ap (λ listed. unwrap_or listed []) (c.empty.ensures v)
