use Rattle.std.proofs.Common.{ap, map}
use Rattle.kan_terms.specs.Terms.{tree}
use Rattle.kan_solving.specs.Solving.{replaced_by}
use Rattle.kan_plain.proofs.LookingLaws.{looked_up}
use Rattle.kan_plain.proofs.looking.looked.Goals as goal

pub returns-in-Var : goal.returns-in-Var
returns-in-Var c =
    looked_up (map replaced_by c.args.answer.now) c.in-Var.var _ _ c.found.result (ap tree c.in-Var.is) c.found.ensures c.unwrap_or.ensures
