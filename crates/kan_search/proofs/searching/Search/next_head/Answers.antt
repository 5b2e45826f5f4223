use Rattle.std.proofs.Common.{◌∙◌, sym, ap}
use Rattle.kan_model.specs.Programs.Closed as programs
use Rattle.kan_search.specs.Searches.{answers_left}
use Rattle.kan_search.proofs.HeadLaws.{head-given}
use Rattle.kan_search.proofs.searching.Search.next_head.Goals as goal

pub returns-clause-some : goal.returns-clause-some
returns-clause-some g c =
    let s = c.self.inside in
    ap answers_left (sym c.self.view_is)
    ∙ head-given (g.N.Nodes.table s.nodes).tree g.St.Store.meaning (programs.meaning s.program.now) s.fuel s.heads.items c.pop.new.self.items c.in_ok-store.store s.tail s.limit c.less_one-self-inside.result
    (sym c.is_reached.ensures ∙ c.if-is_reached.false) c.less_one-self-inside.ensures c.in_ok-store.ensures.items
