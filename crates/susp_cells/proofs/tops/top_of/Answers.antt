use Rattle.kan_model.specs.Programs.Closed as programs
use Rattle.susp_cells.proofs.TopLaws.{swap-noted}
use Rattle.susp_cells.proofs.tops.top_of.Goals as goal

pub returns-in-Swap : goal.returns-in-Swap
returns-in-Swap g c =
    swap-noted (programs.meaning c.args.program.now) g.St.Store.meaning c.args.thunk.now c.in-Swap.heads c.items.result.now c.in-Swap.tail c.in-Swap.inner
    c.top.result c.with_tail.result c.highest_noted.result c.in-Swap.is c.items.ensures c.top.ensures c.with_tail.ensures c.highest_noted.ensures
