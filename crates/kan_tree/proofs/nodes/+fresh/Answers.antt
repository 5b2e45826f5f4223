use Rattle.std.proofs.Common.{◌∙◌, ap, eqb, None}
use Rattle.std.specs.Option.{option_map}
use Rattle.std.specs.Arc.{arc_value}
use Rattle.kan_tree.specs.Nodes.{look}
use Rattle.kan_tree.proofs.SlotLaws.{after_with}
use Rattle.kan_tree.proofs.LookLaws.{inner_made}
use Rattle.kan_tree.proofs.nodes.+fresh.Goals as goal

pub returns : goal.returns
returns g t c = inner_made g.T.Again.meaning (λ _. None) c.put-2.new.self (arc_value c.in_ok-below.below) c.args.level c.args.key c.digit-2.result (g.T.Again.meaning c.args.value) c.if-level-eq0.false c.digit-2.ensures.result
    (λ e. after_with arc_value (eqb e c.digit-2.result) c.in_ok-below.below _ _ None (c.in_ok-put-2.ensures.ok e) (ap (option_map arc_value) (c.empty-slots.ensures e)))
    (λ k. ap (look g.T.Again.meaning _ k) c.in_ok-below.ensures.ok ∙ c.in_ok-fresh.ensures k)
