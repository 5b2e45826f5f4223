-- What is offered, one after the other.
use Rattle.std.proofs.Common.{◌≡◌, List, [], ◌∷◌, ◌++◌, Option, None, Some, Ok, Err, Result, refl, sym, ap, ◌∙◌, subst, append_assoc}
use Rattle.std.specs.Prelude.{OnOk, IfErr, option_map}
use Rattle.std.specs.Option.{option_to_list}
use Rattle.std.proofs.lemmas.List.{append-nil, map-append}
use Rattle.kan_terms.specs.Tree.{Tm}
use Rattle.kan_model.specs.Programs.Goals.{Goal}
use Rattle.kan_model.specs.Stores.Store as facts
use Rattle.kan_model.specs.Streams.Stream as model
use Rattle.stream_core.specs.Suspensions.{going_on}
use Rattle.susp_cells.specs.Places.{Place, label_tree}
use Rattle.task_deques.specs.declared.holders.TaskDeque.{TaskDeque}
use Rattle.task_deques.specs.Holders.{Holder, deque_of, pushed_to, taken_from, deque_part, stealer_parts}
use Rattle.crew.specs.declared.tasks.Offered.{Offered}
use Rattle.crew.specs.Offers.{IsPartOf, Offers, tail_of, tree_of, offered_trees, offered_inside, offered_for}
use Rattle.crew.specs.Offers.IsPartOf.{none, with, without}

part_none : {X : Type 0} (ys : List X) → IsPartOf [] ys
part_none [] = none
part_none (y ∷ ys) = without (part_none ys)

part_join : {X : Type 0} {xs ys us vs : List X} → IsPartOf xs ys → IsPartOf us vs → IsPartOf (xs ++ us) (ys ++ vs)
part_join none q = q
part_join (with p) q = with (part_join p q)
part_join (without p) q = without (part_join p q)

tail_is : (hs : List facts.Store) (o : Option model.Thunk) → tail_of (going_on hs o) ≡ o
tail_is hs None = refl
tail_is hs (Some t) = refl

module _ {St : Type 0} where
  -- the holder with another deque
  abbrev with_deque : Holder (Offered St) → TaskDeque (Offered St) → Holder (Offered St)
  with_deque h d = record { deque = d; others = h.others }

  -- nothing was pushed
  none_pushed : (h : Holder (Offered St)) (d : TaskDeque (Offered St)) (trees : List model.Thunk) →
      pushed_to d ≡ pushed_to h.deque → deque_part d ≡ deque_part h.deque → taken_from d ≡ taken_from h.deque →
      Offers h (with_deque h d) trees
  none_pushed h d trees same part kept = record {
    given = [];
    some = part_none trees;
    pushed_more = same ∙ sym (append-nil (pushed_to h.deque));
    part = ap (λ p. (p, stealer_parts h)) part;
    taken_same = kept;
    others = refl;
  }

  pub no_offer : (h : Holder (Offered St)) (trees : List model.Thunk) → Offers h h trees
  no_offer h trees = none_pushed h h.deque trees refl refl refl

  -- one was pushed, or handed back
  pub one_offered : (h : Holder (Offered St)) (d : TaskDeque (Offered St)) (copy susp : Place) (r : Result (Unit {0}) (Offered St)) →
      copy ≡ susp → OnOk r (pushed_to d ≡ pushed_to h.deque ++ record { susp = copy } ∷ []) →
      IfErr r (λ back. (back ≡ record { susp = copy }) × (pushed_to d ≡ pushed_to h.deque)) →
      deque_part d ≡ deque_part h.deque → taken_from d ≡ taken_from h.deque →
      Offers h (record { deque = d; others = h.others }) (label_tree susp ∷ [])
  one_offered h d copy susp (Ok x) is ok err part kept = record {
    given = record { susp = copy } ∷ [];
    some = subst (λ (p : Place). IsPartOf (label_tree copy ∷ []) (label_tree p ∷ [])) is (with none);
    pushed_more = ok;
    part = ap (λ p. (p, stealer_parts h)) part;
    taken_same = kept;
    others = refl;
  }
  one_offered h d copy susp (Err back) is ok err part kept = none_pushed h d (label_tree susp ∷ []) err.1 part kept

  -- first some of these, and then some of those
  pub both_offered : (before between after : Holder (Offered St)) (trees more : List model.Thunk) →
      Offers before between trees → Offers between after more → Offers before after (trees ++ more)
  both_offered before between after trees more p q = record {
    given = p.given ++ q.given;
    some = subst (λ l. IsPartOf l (trees ++ more)) (sym (map-append (λ (t : Offered St). tree_of t) p.given q.given)) (part_join p.some q.some);
    pushed_more = q.pushed_more ∙ ap (λ l. l ++ q.given) p.pushed_more ∙ append_assoc (pushed_to (deque_of before)) p.given q.given;
    part = q.part ∙ p.part;
    taken_same = q.taken_same ∙ p.taken_same;
    others = q.others ∙ p.others;
  }

  -- what stands inside a stream that waits, and inside a goal that does
  pub swap_offered : (before between after : Holder (Offered St)) (hs : List facts.Store) (tail : Option Place) (inner : Place) (t : model.Thunk) →
      model.Thunk.swap (going_on hs (option_map label_tree tail)) (label_tree inner) ≡ t →
      Offers before between (label_tree inner ∷ []) → Offers between after (option_to_list (option_map label_tree tail)) →
      Offers before after (offered_inside t)
  swap_offered before between after hs tail inner t is p q =
      subst (Offers before after)
      (ap (λ o. label_tree inner ∷ option_to_list o) (sym (tail_is hs (option_map label_tree tail))) ∙ ap offered_inside is)
      (both_offered before between after (label_tree inner ∷ []) (option_to_list (option_map label_tree tail)) p q)

  pub bind_offered : (before after : Holder (Offered St)) (goal : Goal) (env : List Tm) (inner : Place) (t : model.Thunk) →
      model.Thunk.bind goal env (label_tree inner) ≡ t → Offers before after (label_tree inner ∷ []) →
      Offers before after (offered_inside t)
  bind_offered before after goal env inner t is p = subst (Offers before after) (ap offered_inside is) p

  -- what is offered for a tail
  pub behind_offered : (before after : Holder (Offered St)) (t : model.Thunk) (o : Option model.Thunk) →
      Some t ≡ o → Offers before after (offered_trees t) → Offers before after (offered_for o)
  behind_offered before after t o is p = subst (λ o. Offers before after (offered_for o)) is p
