use Rattle.goal_forms.proofs.PlaceLaws.{string_named}
use Rattle.std.proofs.Common.{ap, sym}
use Rattle.std.specs.Prelude.{is_some}
use Rattle.goal_forms.specs.Unnamed.{lack}
use Rattle.goal_forms.proofs.flatten.text_part.Goals as goal

pub returns-in-Some-clause-part : goal.returns-in-Some-clause-part
returns-in-Some-clause-part c = λ ds at. string_named c.args.names.now c.args.text at _ c.in-Some.ensures.distinct c.in-Some.ensures.text

pub returns-in-Some-clause-named : goal.returns-in-Some-clause-named
returns-in-Some-clause-named c = λ ds at. ap (λ o. lack (is_some o)) (sym c.in-Some.ensures.text)
