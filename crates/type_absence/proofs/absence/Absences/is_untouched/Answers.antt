use Rattle.std.proofs.Common.{[], ap}
use Rattle.std.specs.Prelude.{unwrap_or}
use Rattle.type_absence.proofs.absence.Absences.is_untouched.Goals as goal

pub returns : goal.returns
returns c h v = ap (λ o. unwrap_or o []) (c.is_untouched.ensures h v)
