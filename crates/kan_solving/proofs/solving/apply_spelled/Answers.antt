use Rattle.std.proofs.Common.{◌∙◌, map}
use Rattle.kan_terms.specs.Terms.{tree}
use Rattle.kan_solving.specs.Solving.{replaced_by}
use Rattle.kan_model.specs.Stores.Solve.{apply}
use Rattle.kan_model.proofs.LettersLaws.{applied_spells, spells_one, spelled_ok}
use Rattle.kan_solving.proofs.solving.apply_spelled.Goals as goal

pub build-requires : goal.build-requires
build-requires c =
    spells_one (apply (map replaced_by c.args.replacement.now) (tree c.args.term.now)) _
    (applied_spells (map replaced_by c.args.replacement.now) (tree c.args.term.now) _ _ (c.deref.ensures.value ∙ c.in_ok-letters.ensures) c.in_ok-made.ensures)

pub returns : goal.returns
returns c =
    spelled_ok _ (apply (map replaced_by c.args.replacement.now) (tree c.args.term.now)) _
    (applied_spells (map replaced_by c.args.replacement.now) (tree c.args.term.now) _ _ (c.deref.ensures.value ∙ c.in_ok-letters.ensures) c.in_ok-made.ensures) c.build.ensures
