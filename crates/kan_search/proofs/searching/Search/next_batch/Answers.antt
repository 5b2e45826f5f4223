use Rattle.std.proofs.Common.{◌∙◌, sym, ap, arith, map}
use Rattle.std.proofs.Math.Logic.{inl, inr}
use Rattle.kan_search.specs.Searches.{round_of}
use Rattle.kan_search.proofs.JoinLaws.{advances-on, advances-end, batch_then-pull}
use Rattle.kan_search.proofs.searching.Search.next_batch.Goals as goal

pub returns-then-len-eq-GREATEST_BATCH-clause-batch : goal.returns-then-len-eq-GREATEST_BATCH-clause-batch
returns-then-len-eq-GREATEST_BATCH-clause-batch g c =
    let inv = c.loop-answers.invariant in
    let gave = c.in_ok-give_heads.ensures in
    advances-on g.St.Store.meaning c.args.self.now.round c.args.self.now.pulls c.loop-answers.made _ _ c.give_heads.new.answers _
    (inv.joins ∙ gave.joined c.loop-answers.made) (gave.pulls ∙ inv.counted) gave.few inv.within (inl (sym c.len.ensures ∙ c.if-len-eq-GREATEST_BATCH.true))

pub returns-in-Ends-clause-batch : goal.returns-in-Ends-clause-batch
returns-in-Ends-clause-batch g c =
    let inv = c.loop-answers.invariant in
    let gave = c.in_ok-give_heads.ensures in
    advances-end g.St.Store.meaning c.args.self.now.round c.args.self.now.pulls c.loop-answers.made _ _ c.give_heads.new.answers _ c.in-Ends.ended
    (inv.joins ∙ gave.joined c.loop-answers.made) (gave.pulls ∙ inv.counted) gave.few inv.within c.in-Ends.ensures

pub returns-then-made-self-clause-batch : goal.returns-then-made-self-clause-batch
returns-then-made-self-clause-batch g c =
    let inv = c.loop-answers.invariant in
    let gave = c.in_ok-give_heads.ensures in
    advances-on g.St.Store.meaning c.args.self.now.round c.args.self.now.pulls c.loop-answers.made _ _ c.give_heads.new.answers _
    (inv.joins ∙ gave.joined c.loop-answers.made) (gave.pulls ∙ inv.counted) gave.few inv.within (inr (c.if-made-self.true ∙ ap round_of c.self.view_is ∙ gave.round ∙ inv.round))

pub loop-answers-preserved : goal.loop-answers-preserved
loop-answers-preserved g c =
    let inv = c.loop-answers.invariant in
    let gave = c.in_ok-give_heads.ensures in
    let pulled = c.in_ok-make_pull-in-Pulls.ensures in
    let same = gave.round ∙ inv.round in
    let round = ap round_of c.self.view_is ∙ same in
    let other = c.if-made-self.false in
    record {
      joins = inv.joins ∙ gave.joined c.loop-answers.made ∙ batch_then-pull (map g.St.Store.meaning c.give_heads.new.answers) c.loop-answers.made _ _ pulled.pulled;
      counted = omega (arith, pulled.pulls, gave.pulls, inv.counted);
      few = gave.few;
      within = omega (arith, round, inv.within, other);
      round = pulled.round ∙ same;
      spent = pulled.spent ∙ gave.spent ∙ inv.spent;
    }
