use Rattle.std.proofs.Common.{ap, ap₂, ◌∙◌}
use Rattle.std.specs.Prelude.{◌&&◌}
use Rattle.std.specs.List.{list_all}
use Rattle.kan_terms.specs.Terms.{tree}
use Rattle.reify.specs.Keeping.{letter_named}
use Rattle.reify.proofs.KeepLaws.{letters_named}
use Rattle.reify.proofs.keeping.is_pair_named.Goals as goal

pub returns : goal.returns
returns c =
    ap₂ (λ a b. a && b) c.stands.ensures
    (c.are_letters_named.ensures ∙ ap (list_all (letter_named c.args.naming.now)) (c.deref.ensures.value ∙ c.in_ok-letters.ensures) ∙ letters_named c.args.naming.now (tree c.args.pair.now.by))
