use Rattle.std.proofs.Common.{refl, ◌∙◌}
use Rattle.task_deques.specs.Holders.{IsUnusedHolder}
use Rattle.task_deques.proofs.DealLaws.{has_part, cut_ready, cut_parts, in_list, every_at}
use Rattle.task_deques.proofs.TurnLaws.{cut_given}
use Rattle.task_deques.proofs.dealing.cut.Goals as goal

pub stealer-requires : goal.stealer-requires
stealer-requires g c =
    let n = c.args.home.now.numbers in
    record { parts = has_part n c.args.holders.now.items c.args.number c.index_mut.result.now c.requires.ready c.requires.few (in_list n _ _ _ _ c.requires.within.0 c.index_mut.ensures.value) }

pub returns-clause-ready : goal.returns-clause-ready
returns-clause-ready g c =
    let n = c.args.home.now.numbers in
    let hs = c.args.holders.now.items in
    let x = c.index_mut.result.now in
    let at = in_list n hs c.args.number x _ c.requires.within.0 c.index_mut.ensures.value in
    let was = (every_at (IsUnusedHolder n) hs c.args.number x c.requires.ready.unused at).0 in
    let e = c.in-Ok.ensures in
    cut_ready n hs c.args.number x _ _ c.requires.ready c.requires.few at e.part e.stealer refl (e.pushed ∙ was.0, e.taken ∙ was.1, e.home ∙ was.2)

pub returns-clause-unused : goal.returns-clause-unused
returns-clause-unused g c =
    let n = c.args.home.now.numbers in
    let hs = c.args.holders.now.items in
    let x = c.index_mut.result.now in
    let at = in_list n hs c.args.number x _ c.requires.within.0 c.index_mut.ensures.value in
    let was = (every_at (IsUnusedHolder n) hs c.args.number x c.requires.ready.unused at).0 in
    let e = c.in-Ok.ensures.unused in
    (e.0, e.1, e.2 ∙ was.2)

pub returns-clause-parts : goal.returns-clause-parts
returns-clause-parts g c =
    let n = c.args.home.now.numbers in
    cut_parts n c.args.holders.now.items c.args.number c.index_mut.result.now _ (in_list n _ _ _ _ c.requires.within.0 c.index_mut.ensures.value) refl

pub returns-clause-turns : goal.returns-clause-turns
returns-clause-turns g c =
    let n = c.args.home.now.numbers in
    λ count own given. cut_given count own given c.args.holders.now.items c.args.number c.index_mut.result.now _ (in_list n _ _ _ _ c.requires.within.0 c.index_mut.ensures.value) refl
