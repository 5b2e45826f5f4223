use Rattle.susp_cells.proofs.KnownLaws.{home-of, found-is}
use Rattle.susp_cells.proofs.tables.Table.look.Goals as goal

pub returns : goal.returns
returns g c =
    let t = c.args.self.now in
    found-is t c.args.susp.now c.in_ok-value.value.now _ c.token-token.result.now c.token.result.now t.small c.requires c.token-token.ensures.token c.token-token.ensures.shown c.again.ensures c.in_ok-cell.ensures.0
    (home-of _ _ _ _ _ c.in_ok-value.ensures.home c.in_ok-entry.ensures.kept t.tagged) c.token.ensures.token c.agrees.ensures c.in_ok-value.ensures.seen.1
