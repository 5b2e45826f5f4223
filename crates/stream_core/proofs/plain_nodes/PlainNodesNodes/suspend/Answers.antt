use Rattle.std.proofs.Common.{◌≡◌, length, refl, rules}
use Rattle.kan_model.specs.Programs.Closed as programs
use Rattle.stream_core.proofs.TableKinds.PlainRowLaws.{rows-grown, pushed-adds, pushed-empty, pushed-longer, pushed-belongs}
use Rattle.stream_core.proofs.plain_nodes.PlainNodesNodes.suspend.Goals as goal

pub invariant_of-self : goal.invariant_of-self
invariant_of-self g c =
    record { grown = rows-grown g.St.Store.meaning (programs.meaning c.args.self.now.program.now) c.args.self.now.rows.items c.push.new.self.items _ _ c.push.ensures.items c.args.self.now.grown c.requires.belong }

pub returns-in_err-push-clause-adds : goal.returns-in_err-push-clause-adds
returns-in_err-push-clause-adds g c =
    pushed-adds g.St.Store.meaning (programs.meaning c.args.self.now.program.now) c.args.self.now.rows.items c.push.new.self.items _ _ c.push.ensures.items refl

pub returns-clause-stands : goal.returns-clause-stands
returns-clause-stands g c =
    let place : c.len-at.result ≡ length c.args.self.now.rows.items = search rules in
    pushed-belongs g.St.Store.meaning (programs.meaning c.args.self.now.program.now) c.args.self.now.rows.items c.push.new.self.items _ _ c.in_ok-push.ensures.items refl place c.requires.belong c.requires.fits

pub returns-clause-nothing_kept : goal.returns-clause-nothing_kept
returns-clause-nothing_kept g c =
    let place : c.len-at.result ≡ length c.args.self.now.rows.items = search rules in
    pushed-empty g.St.Store.meaning (programs.meaning c.args.self.now.program.now) c.args.self.now.rows.items c.push.new.self.items _ _ c.in_ok-push.ensures.items refl place

pub returns-clause-adds : goal.returns-clause-adds
returns-clause-adds g c =
    pushed-adds g.St.Store.meaning (programs.meaning c.args.self.now.program.now) c.args.self.now.rows.items c.push.new.self.items _ _ c.push.ensures.items refl

pub returns-clause-larger : goal.returns-clause-larger
returns-clause-larger g c = pushed-longer g.St.Store.meaning (programs.meaning c.args.self.now.program.now) c.args.self.now.rows.items c.push.new.self.items _ c.in_ok-push.ensures.items
