use Rattle.std.proofs.Common.{◌∙◌, ap, map}
use Rattle.kan_terms.specs.Terms.{tree}
use Rattle.kan_model.specs.Stores.Kept.{may_be}
use Rattle.kan_plain.proofs.LookingLaws.{type_seen}
use Rattle.kan_solving.specs.Solving.{replaced_by}
use Rattle.kan_plain.proofs.keeping.may_stand_for.Goals as goal

pub returns : goal.returns
returns c =
    c.may_be.ensures ∙ ap (may_be c.args.kind) c.looked.ensures ∙ type_seen c.args.kind (map replaced_by c.args.answer.now) (tree c.args.term.now)
