use Rattle.std.proofs.Common.{rules, ◌≡◌, [], map, subst}
use Rattle.task_deques.specs.Whole.{IsAll}
use Rattle.task_deques.specs.Holders.{pushed_to, taken_from, pushed_through, taken_through, deque_part, stealer_part}
use Rattle.task_deques.proofs.Lists.{then}
use Rattle.task_deques.proofs.GatherLaws.{victim_below, victim_is, absorbed_all, absorbed_list, whole_deques}
use Rattle.task_deques.proofs.gathering.absorb_all.Goals as goal

pub index_mut-requires : goal.index_mut-requires
index_mut-requires g c = let p = victim_below c.loop-stealer.deques.items c.loop-stealer.stealers.items c.pop.new.self.items c.in-Some.stealer c.in-Some.ensures.items c.loop-stealer.invariant.all in search (rules, p)

pub absorb-requires : goal.absorb-requires
absorb-requires g c = record { same = victim_is c.loop-stealer.deques.items c.loop-stealer.stealers.items c.pop.new.self.items c.in-Some.stealer _ c.index_mut.result.now c.index_mut.ensures.value c.in-Some.ensures.items c.loop-stealer.invariant.all }

pub loop-stealer-preserved : goal.loop-stealer-preserved
loop-stealer-preserved g c =
    let ds = c.loop-stealer.deques.items in
    let ss = c.loop-stealer.stealers.items in
    let rest = c.pop.new.self.items in
    let s = c.in-Some.stealer in
    let is = c.in-Some.ensures.items in
    let h = c.loop-stealer.invariant in
    record {
      all = absorbed_all ds ss rest s _ c.index_mut.result.now c.absorb.new.self c.index_mut.ensures.value is h.all c.absorb.ensures.part;
      pushed = then h.pushed (absorbed_list pushed_to pushed_through ds ss rest s _ c.index_mut.result.now c.absorb.new.self c.index_mut.ensures.value is h.all c.absorb.ensures.pushed);
      taken = then h.taken (absorbed_list taken_from taken_through ds ss rest s _ c.index_mut.result.now c.absorb.new.self c.index_mut.ensures.value is h.all c.absorb.ensures.taken);
    }

pub returns-clause-all : goal.returns-clause-all
returns-clause-all g c =
    let none : c.loop-stealer.stealers.items ≡ [] = search rules in
    whole_deques c.loop-stealer.deques.items (subst (λ s. IsAll (map deque_part c.loop-stealer.deques.items) (map stealer_part s)) none c.loop-stealer.invariant.all)
