use Rattle.std.proofs.Common.{◌∙◌, ap, not}
use Rattle.std.specs.List.{list_any}
use Rattle.kan_terms.specs.Terms.{tree}
use Rattle.kan_terms.specs.Tree.{has_symbol}
use Rattle.kan_plain.specs.Looking.{is_symbol_of}
use Rattle.kan_plain.proofs.KeepingLaws.{symbol-letters}
use Rattle.kan_plain.proofs.keeping.is_without.Goals as goal

pub returns : goal.returns
returns c =
    ap not (c.has_letter.ensures ∙ ap (list_any (is_symbol_of c.args.tag)) (c.deref.ensures.value ∙ c.in_ok-letters.ensures) ∙ symbol-letters c.args.tag (tree c.in_ok-image.image)
    ∙ ap (has_symbol c.args.tag) c.in_ok-image.ensures)
