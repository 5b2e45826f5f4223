use Rattle.std.proofs.Common.{refl}
use Rattle.task_deques.proofs.DealLaws.{give_ready, give_parts, in_list}
use Rattle.task_deques.proofs.TurnLaws.{give_given}
use Rattle.task_deques.proofs.dealing.give.Goals as goal

pub returns-clause-ready : goal.returns-clause-ready
returns-clause-ready g c =
    let n = c.args.home.now.numbers in
    give_ready n c.args.holders.now.items c.args.own c.index_mut.result.now _ c.args.stealer c.requires.ready c.requires.unused (in_list n _ _ _ _ c.requires.within c.index_mut.ensures.value) refl c.in-Ok.ensures.items

pub returns-clause-parts : goal.returns-clause-parts
returns-clause-parts g c =
    let n = c.args.home.now.numbers in
    give_parts n c.args.holders.now.items c.args.own c.index_mut.result.now _ c.args.stealer (in_list n _ _ _ _ c.requires.within c.index_mut.ensures.value) c.in-Ok.ensures.items

pub returns-clause-turns : goal.returns-clause-turns
returns-clause-turns g c =
    let n = c.args.home.now.numbers in
    λ count given. give_given count c.args.own given c.args.holders.now.items c.index_mut.result.now _ c.args.stealer (in_list n _ _ _ _ c.requires.within c.index_mut.ensures.value) c.in-Ok.ensures.items
