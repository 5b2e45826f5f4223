use Rattle.std.proofs.Common.{◌∙◌, sym, ap, map, arith}
use Rattle.kan_search.specs.Batches.{greatest_batch, batch_then}
use Rattle.kan_search.specs.Searches.{answers_left}
use Rattle.kan_search.proofs.JoinLaws.{batch_then-answer, longer-few}
use Rattle.kan_search.proofs.searching.Search.give_heads.Goals as goal

pub returns-in-None-clause-joined : goal.returns-in-None-clause-joined
returns-in-None-clause-joined g c pulls = c.loop-self.invariant.joined pulls ∙ ap (batch_then (map g.St.Store.meaning c.loop-self.answers) pulls) (sym c.in-None.ensures.none.1)

pub loop-self-preserved : goal.loop-self-preserved
loop-self-preserved g c =
    let kept = c.next_head.ensures in
    let inv = c.loop-self.invariant in
    record {
      joined = λ pulls. inv.joined pulls ∙ batch_then-answer g.St.Store.meaning c.loop-self.answers c.put_last.new.stores c.in-Some.store (answers_left c.loop-self.self) (answers_left c.next_head.new.self) pulls c.in_ok-put_last-in-Some.ensures c.in-Some.ensures.some;
      few = longer-few c.loop-self.answers c.put_last.new.stores c.in-Some.store greatest_batch c.in_ok-put_last-in-Some.ensures (omega arith);
      pulls = kept.pulls ∙ inv.pulls;
      round = kept.round ∙ inv.round;
      spent = kept.spent ∙ inv.spent;
    }
