use Rattle.susp_cells.proofs.KnownLaws.{home-of, found-is, theirs-is}
use Rattle.susp_cells.proofs.tables.Table.settle.Goals as goal

pub returns : goal.returns
returns g c =
    let t = c.args.self.now in
    let found =
    found-is t c.args.susp.now c.in-Some-read.value.now _ c.token-token.result.now c.token-2.result.now t.small c.requires.susp c.token-token.ensures.token c.token-token.ensures.shown c.again-2.ensures c.in-Some.ensures.0
    (home-of _ _ _ _ _ c.in-Some-read.ensures.home c.in-Some-get_seen.ensures.kept t.tagged) c.token-2.ensures.token c.agrees-2.ensures c.in-Some-read.ensures.seen.1 in
    let (knows, forced) = theirs-is t c.args.susp.now c.in-Some-read.value.now _ found in
    (knows, forced, c.in-Err.ensures.back)
