use Rattle.kan_tree.specs.Slots.{at}
use Rattle.std.proofs.Common.{rules, sym, ◌∙◌, ap, eqb, refl, arith, ◌-◌}
use Rattle.std.specs.Option.{option_map}
use Rattle.std.specs.Arc.{arc_value}
use Rattle.std.proofs.lemmas.Result.{on_ok_weaker}
use Rattle.kan_tree.specs.Lending.{with_entry}
use Rattle.kan_tree.proofs.SlotLaws.{after_with, at_with}
use Rattle.kan_tree.proofs.LookLaws.{leaf_high, inner_low, inner_put, inner_kept, inner_same, below_some, below_none, on_err_map}
use Rattle.std.specs.Prelude.{slice_get, Some, if◌then◌else◌}
use Rattle.kan_tree.specs.Nodes.{look, agree}
use Rattle.kan_tree.proofs.nodes.+put.Goals.{put_node-in-Leaf+else-level-eq0, put_node-in-Inner+else-level-ne0}
use Rattle.kan_tree.proofs.nodes.+put.Goals as goal

pub put_below-returns-in-Some-clause-ok : goal.put_below-returns-in-Some-clause-ok
put_below-returns-in-Some-clause-ok g t c =
    let d = c.digit-place.result in
    on_ok_weaker c.put_arc.result (λ h. inner_put g.T.Again.meaning c.args.slots.now (with_entry c.args.slots.now c.index_of-index.result c.put_arc.new.node) (arc_value c.put_arc.new.node) c.args.level c.args.key d (g.T.Again.meaning c.args.value) (λ e. omega (arith, c.requires.high, e)) c.digit-place.ensures.result
    (λ e. after_with arc_value (eqb e d) c.put_arc.new.node _ _ _ (at_with c.args.slots.now c.index_of-index.result d c.in-Some.below.now c.put_arc.new.node (search rules) (search rules) c.digit-place.ensures.small c.index_of-index.ensures.index c.in-Some.ensures.value e) refl)
    (below_some g.T.Again.meaning (c.args.level - 1) c.args.key (g.T.Again.meaning c.args.value) (arc_value c.put_arc.new.node) (arc_value c.in-Some.below.now) (arc_value c.put_arc.new.node) c.in-Some.below.now _ h refl (c.in-Some.ensures.value ∙ ap (slice_get c.args.slots.now.entries.items) c.index_of-index.ensures.index) refl)) c.put_arc.ensures.ok

pub put_below-returns-in-Some-clause-err : goal.put_below-returns-in-Some-clause-err
put_below-returns-in-Some-clause-err g t c =
    let d = c.digit-place.result in
    on_err_map c.put_arc.result (λ h. inner_kept g.T.Again.meaning c.args.slots.now (with_entry c.args.slots.now c.index_of-index.result c.put_arc.new.node) c.in-Some.below.now c.put_arc.new.node c.args.level d (λ e. omega (arith, c.requires.high, e))
    (at_with c.args.slots.now c.index_of-index.result d c.in-Some.below.now c.put_arc.new.node (search rules) (search rules) c.digit-place.ensures.small c.index_of-index.ensures.index c.in-Some.ensures.value)
    (c.in-Some.ensures.value ∙ ap (slice_get c.args.slots.now.entries.items) c.index_of-index.ensures.index) h) c.put_arc.ensures.err

pub put_below-returns-in_ok-below-in-None-clause-ok : goal.put_below-returns-in_ok-below-in-None-clause-ok
put_below-returns-in_ok-below-in-None-clause-ok g t c =
    let m = g.T.Again.meaning in
    on_ok_weaker c.put.result (λ h. inner_put m c.args.slots.now c.put.new.self (arc_value c.in_ok-below-in-None.below) c.args.level c.args.key c.digit-place.result (m c.args.value) (λ e. omega (arith, c.requires.high, e)) c.digit-place.ensures.result
    (λ e. after_with arc_value (eqb e c.digit-place.result) c.in_ok-below-in-None.below _ _ _ (h e) refl)
    (below_none m (c.args.level - 1) c.args.key (m c.args.value) c.in_ok-fresh-in-None.field-0 (arc_value c.in_ok-below-in-None.below) (at c.args.slots.now c.digit-place.result) c.in_ok-fresh-in-None.ensures (c.in-None.ensures.value ∙ ap (slice_get c.args.slots.now.entries.items) c.index_of-index.ensures.index) c.in_ok-below-in-None.ensures.ok)) c.put.ensures.ok

pub put_below-returns-in_ok-below-in-None-clause-err : goal.put_below-returns-in_ok-below-in-None-clause-err
put_below-returns-in_ok-below-in-None-clause-err g t c =
    on_err_map c.put.result (λ h. inner_same g.T.Again.meaning c.args.slots.now c.put.new.self (λ e. ap (option_map arc_value) (h e)) c.args.level) c.put.ensures.err

pub put_node-returns-clause-ok : goal.put_node-returns-clause-ok
put_node-returns-clause-ok g t c k =
    let m = g.T.Again.meaning in
    c.in_ok-node.ensures k ∙ ap (λ o. if agree c.args.level k c.args.key then Some (m c.args.value) else o)
    (sym (elim c.match-node.branch [
      | put_node-in-Leaf+else-level-eq0 w ↦ ap (look m c.args.level k) w.in-Leaf.is ∙ leaf_high m c.args.level k w.in-Leaf.slots w.if-level-eq0.false
      | put_node-in-Inner+else-level-ne0 w ↦ ap (look m c.args.level k) w.in-Inner.is ∙ inner_low m c.args.level k w.in-Inner.slots w.if-level-ne0.false
    ]))
