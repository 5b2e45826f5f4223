use Rattle.std.proofs.Common.{arith}
use Rattle.goal_syntax.proofs.Building.NamedLaws.{tag_site}
use Rattle.goal_forms.proofs.UnnamedLaws.{at_unnamed}
use Rattle.goal_forms.specs.Parts.{sites, site_at}
use Rattle.std.proofs.Common.{ap}
use Rattle.goal_forms.specs.Unnamed.{symbol_unnamed}
use Rattle.goal_syntax.proofs.build_node.build_node.Goals as goal

pub returns-in_ok-term-in-Absent-clause-tag : goal.returns-in_ok-term-in-Absent-clause-tag
returns-in_ok-term-in-Absent-clause-tag c =
    omega (
      arith,
      tag_site c.args.context.now.names.now c.args.context.now.names.now (site_at (sites c.args.context.now.flat.now) c.in-Absent.tag),
      at_unnamed c.args.context.now.names.now (sites c.args.context.now.flat.now) c.in-Absent.tag,
      ap (symbol_unnamed c.args.context.now.names.now) c.tag_symbol.ensures,
    )
