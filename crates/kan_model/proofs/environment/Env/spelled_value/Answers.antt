use Rattle.kan_model.proofs.LettersLaws.{spells_one, spelled_ok}
use Rattle.kan_model.proofs.environment.Env.spelled_value.Goals as goal

pub build-requires : goal.build-requires
build-requires c = spells_one _ _ c.in_ok-letters.ensures

pub returns : goal.returns
returns c = spelled_ok _ _ _ c.in_ok-letters.ensures c.build.ensures
