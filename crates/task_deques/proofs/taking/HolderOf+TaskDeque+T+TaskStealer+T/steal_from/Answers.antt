use Rattle.std.proofs.Common.{ap, subst, sym, ◌∙◌, ◌++◌, append_assoc}
use Rattle.std.proofs.lemmas.Option.{IfSome_then}
use Rattle.task_deques.specs.Holders.{pushed_through, taken_through, pushed_to, taken_from, deque_part}
use Rattle.task_deques.proofs.Lists.{steady, grown, after, then, like}
use Rattle.task_deques.proofs.GatherLaws.{stole_shape, listed, stole_none}
use mathlib.Core.Option.{some-injective}
use Rattle.crossbeam_deque.proofs.Lists.{set_else}
use Rattle.crossbeam_deque.specs.Handles.{view}
use Rattle.task_deques.specs.declared.holders.TaskStealer.{TaskStealer}
use Rattle.task_deques.specs.Shares.{WasEmpty}
use Rattle.task_deques.proofs.taking.HolderOf+TaskDeque+T+TaskStealer+T.steal_from.Goals as goal

pub returns-clause-same : goal.returns-clause-same
returns-clause-same g c =
    let others = c.args.self.now.others.items in
    let at = listed others c.args.other c.index_mut.result.now _ c.requires c.index_mut.ensures.value in
    ap (λ l. (deque_part c.args.self.now.deque, l)) (stole_shape others c.args.other c.index_mut.result.now c.steal.new.self at c.steal.ensures.same)

pub returns-clause-pushed : goal.returns-clause-pushed
returns-clause-pushed g c =
    let others = c.args.self.now.others.items in
    let at = listed others c.args.other c.index_mut.result.now _ c.requires c.index_mut.ensures.value in
    ap (λ l. pushed_to c.args.self.now.deque ++ l) (steady pushed_through others c.args.other c.index_mut.result.now c.steal.new.self at c.steal.ensures.pushed)

pub returns-clause-some : goal.returns-clause-some
returns-clause-some g c =
    let others = c.args.self.now.others.items in
    let at = listed others c.args.other c.index_mut.result.now _ c.requires c.index_mut.ensures.value in
    IfSome_then c.steal.result c.steal.ensures.some
    (λ x e. then (after (taken_from c.args.self.now.deque) (grown taken_through others c.args.other c.index_mut.result.now c.steal.new.self _ at e)) (like _ _ (sym (append_assoc (taken_from c.args.self.now.deque) _ _))))

pub returns-clause-none : goal.returns-clause-none
returns-clause-none g c =
    let others = c.args.self.now.others.items in
    let at = listed others c.args.other c.index_mut.result.now _ c.requires c.index_mut.ensures.value in
    stole_none c.steal.result c.steal.ensures.none (λ e. ap (λ l. taken_from c.args.self.now.deque ++ l) (steady taken_through others c.args.other c.index_mut.result.now c.steal.new.self at e))

pub returns-clause-only : goal.returns-clause-only
returns-clause-only g c = λ k n. set_else c.args.self.now.others.items c.args.other k c.steal.new.self n

pub returns-clause-empty : goal.returns-clause-empty
returns-clause-empty g c =
    let others = c.args.self.now.others.items in
    let at = listed others c.args.other c.index_mut.result.now _ c.requires c.index_mut.ensures.value in
    stole_none c.steal.result c.steal.ensures.empty (λ e. λ s here. subst (λ (x : TaskStealer _). WasEmpty (view x.pass)) (some-injective c.index_mut.result.now s (sym at ∙ here)) e)
