use Rattle.susp_cells.proofs.TableLaws.{inside-of}
use Rattle.susp_cells.proofs.laws.susp_is_inside.Goals as goal

pub returns : goal.returns
returns g c =
    inside-of c.args.table.now c.args.susp.now c.token-token.result.now c.in-Some.field-0.now c.requires c.token-token.ensures.token (c.in-Some.ensures.found c.index.ensures) c.in-Some.ensures.kept
    c.token-token.ensures.fits
