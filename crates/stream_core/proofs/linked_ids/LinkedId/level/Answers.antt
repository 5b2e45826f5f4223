use Rattle.std.proofs.Common.{ℕ, ap, ◌∙◌, sym, subst}
use Rattle.std.proofs.lemmas.Result.{IfOk-weaker}
use Rattle.std.specs.Arc.{arc_value}
use Rattle.kan_model.specs.Programs.Goals.{Goal}
use Rattle.stream_core.specs.TableKinds.LinkedThunks.{thunk_of, linked_layers, linked_around, IsLevel}
use Rattle.stream_core.proofs.TableKinds.LinkedLaws.{read-id, read-node, up}
use Rattle.stream_core.proofs.linked_ids.LinkedId.level.Goals as goal

pub returns-in-Inside : goal.returns-in-Inside
returns-in-Inside g c goal =
    let means = g.St.Store.meaning in
    up means goal c.args.self c.in-Inside.around _ (thunk_of (arc_value c.in-Some.node)) (thunk_of (arc_value c.enter_node.new.node)) c.args.inside c.in-Inside.heads
    (read-id means goal c.args.self c.in-Some.node c.in-Some.is) (read-node means goal c.enter_node.new.node) (c.in-Inside.ensures goal)

pub returns-in_ok-thunk-in-Outside : goal.returns-in_ok-thunk-in-Outside
returns-in_ok-thunk-in-Outside g c =
    let means = g.St.Store.meaning in
    IfOk-weaker c.level_of.result _ (λ level. (at : ℕ → Goal) → IsLevel means at (linked_around means at c.args.self) c.args.inside level)
    (λ level is at.
    let kept = c.in-Outside.ensures at in
    let same = ap (λ r. r.around) (read-id means at c.args.self c.in-Some.node c.in-Some.is) ∙ ap (linked_layers means at) (sym kept.0) ∙ sym (c.in_ok-thunk-in-Outside.ensures at) in
    subst (λ around. IsLevel means at around c.args.inside level) (sym same) (subst (λ s. IsLevel means at (linked_layers means at c.in_ok-thunk-in-Outside.thunk) s level) kept.1 (is at)))
    c.level_of.ensures
