use Rattle.kan_model.proofs.LettersLaws.{joins_top, last_off}
use Rattle.kan_model.proofs.letters.join_top.Goals as goal

pub returns : goal.returns
returns c =
    joins_top _ _ _ _ _ _ _ (last_off _ _ _ _ c.unwrap-first.ensures c.pop.ensures.items) (last_off _ _ _ _ c.unwrap-rest.ensures c.pop-2.ensures.items)
    c.in_ok-push.ensures.items c.in_ok-pair.ensures
