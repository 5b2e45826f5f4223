use Rattle.std.proofs.Common.{ap}
use Rattle.std.proofs.Common.{◌∙◌}
use Rattle.std.specs.List.{list_all}
use Rattle.kan_model.specs.Programs.Drafts.{tables}
use Rattle.kan_model.specs.Programs.Scope.{is_narrow}
use Rattle.kan_model.specs.Programs.Tables.{Tables, goals_of}
use Rattle.goal_syntax.proofs.Building.WidthLaws.{all_narrow}
use Rattle.goal_syntax.proofs.compiler.close.Goals as goal

pub returns-clause-small : goal.returns-clause-small
returns-clause-small c = ap (λ (ts : Tables). list_all is_narrow (goals_of ts)) c.in-Ok.ensures.0 ∙ all_narrow (goals_of (tables c.args.draft)) c.requires.narrow
