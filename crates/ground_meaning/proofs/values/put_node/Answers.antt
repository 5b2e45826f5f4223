use Rattle.std.proofs.Common.{sym, subst}
use Rattle.kan_terms.specs.Valuations.{value}
use Rattle.kan_model.specs.Programs.Closed as programs
use Rattle.kan_model.specs.Programs.Nodes.{term_entry}
use Rattle.kan_model.specs.Programs.Tables.{template_of}
use Rattle.ground_meaning.specs.Values.{Puts, value_of}
use Rattle.ground_meaning.proofs.ValueLaws.{pair_put}
use Rattle.ground_meaning.proofs.values.put_node.Goals as goal

pub returns-in_ok-push-in-Pair-3 : goal.returns-in_ok-push-in-Pair-3
returns-in_ok-push-in-Pair-3 c =
    let p = c.args.program.now in
    subst (λ node. Puts (value_of p c.args.values.now) (value c.args.values.now (template_of (programs.templates p) (term_entry node))) c.args.marks.now.items c.push.new.self.items c.args.waiting.now.items c.push-in-Pair-2.new.self.items)
    (sym c.in-Pair.is)
    (pair_put (value_of p c.args.values.now) c.in-Pair.first c.in-Pair.rest _ _ _ _ _ c.in_ok-push-in-Pair.ensures.items c.in_ok-push-in-Pair-2.ensures.items c.in_ok-push-in-Pair-3.ensures.items)
