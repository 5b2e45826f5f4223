-- Stealers are given in turn.
use Rattle.std.proofs.Common.{◌≡◌, ◌≢◌, ◌⊎◌, inl, inr, ⊎_elim, ℕ, suc, ◌+◌, ◌-◌, ◌<◌, ◌≤◌, List, [], ◌∷◌, ◌++◌, length, set, map, cond, eqb, true, false, sym, refl, ap, ◌∙◌, subst, arith}
use Rattle.std.specs.Prelude.{nat_lt}
use Rattle.std.proofs.lemmas.Bool.Decides.{eqb_tells, leb_tells}
use Rattle.std.proofs.lemmas.List.{map-append}
use mathlib.Core.Option.{some}
use lib.ListN.{get_elem?}
use Rattle.crossbeam_deque.proofs.Lists.{at_set}
use Rattle.task_deques.specs.declared.holders.TaskStealer.{TaskStealer}
use Rattle.task_deques.specs.Whole.{Every}
use Rattle.task_deques.specs.Holders.{Holder, others_of, victim_of, victims, IsLoneHolder}
use Rattle.task_deques.specs.Turns.{after, turns, given_to}
use Rattle.task_deques.specs.InTurn.{AreGiven, AreInTurn}
use Rattle.task_deques.proofs.DealLaws.{every_at}
use Rattle.task_deques.proofs.WholeLaws.{at_below}

less : (a b : ℕ) → a < b → nat_lt a b ≡ true
less a b p = ⊎_elim (λ x. x.0) (λ x. let q = x.1 in absurd (omega (arith, p, q))) (leb_tells (suc a) b)

not_less : (a b : ℕ) → b ≤ a → nat_lt a b ≡ false
not_less a b p = ⊎_elim (λ x. let q = x.1 in absurd (omega (arith, p, q))) (λ x. x.0) (leb_tells (suc a) b)

same : (a b : ℕ) → a ≡ b → eqb a b ≡ true
same a b p = ⊎_elim (λ x. x.0) (λ x. absurd (x.1 p)) (eqb_tells a b)

apart : (a b : ℕ) → a ≢ b → eqb a b ≡ false
apart a b p = ⊎_elim (λ x. absurd (p x.1)) (λ x. x.0) (eqb_tells a b)

below_own : (count own given number : ℕ) → number < own → given_to count own given number ≡ count - 1
below_own count own given number p = ap (λ b. cond b (count - 1) (cond (eqb number own) given 0)) (less number own p)

at_own : (count own given : ℕ) → given_to count own given own ≡ given
at_own count own given = ap (λ b. cond b (count - 1) (cond (eqb own own) given 0)) (not_less own own (omega arith)) ∙ ap (λ b. cond b given 0) (same own own refl)

above_own : (count own given number : ℕ) → own < number → given_to count own given number ≡ 0
above_own count own given number p =
    ap (λ b. cond b (count - 1) (cond (eqb number own) given 0)) (not_less number own (omega (arith, p)))
    ∙ ap (λ b. cond b given 0) (apart number own (λ e. absurd (omega (arith, p, e))))

-- what another holder has doesn't depend on what this one has
elsewhere : (count own given more number : ℕ) → number ≢ own → given_to count own given number ≡ given_to count own more number
elsewhere count own given more number p = ap (λ b. cond (nat_lt number own) (count - 1) (cond b given 0)) (apart number own p) ∙ ap (λ b. cond (nat_lt number own) (count - 1) (cond b more 0)) (sym (apart number own p))

-- where this one has all, it is as if the next one had none
next_own : (count own number : ℕ) → given_to count own (count - 1) number ≡ given_to count (own + 1) 0 number
next_own count own number = by (leb_tells (suc number) own)
  where
    by : ((nat_lt number own ≡ true) × (number < own)) ⊎ ((nat_lt number own ≡ false) × (own < suc number)) → given_to count own (count - 1) number ≡ given_to count (own + 1) 0 number
    by (inl x) = let p = x.1 in below_own count own (count - 1) number p ∙ sym (below_own count (own + 1) 0 number (omega (arith, p)))
    by (inr x) = ⊎_elim
        (λ y. subst (λ n. given_to count own (count - 1) n ≡ given_to count (own + 1) 0 n) (sym y.1) (at_own count own (count - 1) ∙ sym (below_own count (own + 1) 0 own (omega arith))))
        (λ y. let p = x.1 in let n = y.1 in above_own count own (count - 1) number (omega (arith, p, n)) ∙ sym (none_behind (omega (arith, p, n))))
        (eqb_tells number own)
      where
        none_behind : own < number → given_to count (own + 1) 0 number ≡ 0
        none_behind p =
            ap (λ b. cond b (count - 1) (cond (eqb number (own + 1)) 0 0)) (not_less number (own + 1) (omega (arith, p)))
            ∙ ⊎_elim (λ y. ap (λ b. cond b 0 0) y.0) (λ y. ap (λ b. cond b 0 0) y.0) (eqb_tells number (own + 1))

module _ {T : Type 0} where
  -- a holder's deque changes, and its stealers don't
  pub cut_given : (count own given : ℕ) (hs : List (Holder T)) (at : ℕ) (x y : Holder T) → get_elem? hs at ≡ some x → others_of y ≡ others_of x → AreGiven count own given hs → AreGiven count own given (set hs at y)
  cut_given count own given hs at x y here others h number z there = ⊎_elim
      (λ (e : (number ≡ at) × (y ≡ z)).
      subst (λ (n : ℕ). victims z ≡ turns count n (given_to count own given n)) (sym e.0)
      (ap (λ (u : Holder T). victims u) (sym e.1) ∙ ap (map victim_of) others ∙ h at x here))
      (λ (e : (number ≢ at) × (get_elem? hs number ≡ some z)). h number z e.1)
      (at_set hs at number y z there)

  -- a holder gets its next stealer
  give_next : (count own given : ℕ) (hs : List (Holder T)) (x y : Holder T) (s : TaskStealer T) → get_elem? hs own ≡ some x → others_of y ≡ others_of x ++ s ∷ [] → s.victim ≡ after count own (suc given) → AreGiven count own given hs → AreGiven count own (suc given) (set hs own y)
  give_next count own given hs x y s here others next h number z there = ⊎_elim
      (λ (e : (number ≡ own) × (y ≡ z)).
      let had : victims x ≡ turns count own given = h own x here ∙ ap (turns count own) (at_own count own given) in
      let has : victims y ≡ turns count own (suc given) = ap (map victim_of) others ∙ map-append victim_of (others_of x) (s ∷ []) ∙ (λ i. had i ++ next i ∷ []) in
      subst (λ (n : ℕ). victims z ≡ turns count n (given_to count own (suc given) n)) (sym e.0)
      (ap (λ (u : Holder T). victims u) (sym e.1) ∙ has ∙ ap (turns count own) (sym (at_own count own (suc given)))))
      (λ (e : (number ≢ own) × (get_elem? hs number ≡ some z)). h number z e.1 ∙ ap (turns count number) (elsewhere count own given (suc given) number e.0))
      (at_set hs own number y z there)

  pub give_given : (count own given : ℕ) (hs : List (Holder T)) (x y : Holder T) (s : TaskStealer T) → get_elem? hs own ≡ some x → others_of y ≡ others_of x ++ s ∷ [] → s.victim ≡ after count own (given + 1) → AreGiven count own given hs → AreGiven count own (given + 1) (set hs own y)
  give_given count own given hs x y s here others =
      let e : suc given ≡ given + 1 = omega arith in
      subst (λ (n : ℕ). s.victim ≡ after count own n → AreGiven count own given hs → AreGiven count own n (set hs own y)) e (give_next count own given hs x y s here others)

  -- a turn of the loop over steps
  pub step_given : (count own step victim : ℕ) (hs hs' : List (Holder T)) → ((given : ℕ) → victim ≡ after count own (given + 1) → AreGiven count own given hs → AreGiven count own (given + 1) hs') → 1 ≤ step → victim ≡ after count own step → AreGiven count own (step - 1) hs → AreGiven count own (step + 1 - 1) hs'
  step_given count own step victim hs hs' gives some_step is h =
      let back : step ≡ step - 1 + 1 = omega (arith, some_step) in
      let next : step - 1 + 1 ≡ step + 1 - 1 = omega (arith, some_step) in
      subst (λ n. AreGiven count own n hs') next (gives (step - 1) (subst (λ n. victim ≡ after count own n) back is) h)

  pub next_given : (count own : ℕ) (hs : List (Holder T)) → AreGiven count own (count - 1) hs → AreGiven count (own + 1) 0 hs
  next_given count own hs h number z there = h number z there ∙ ap (turns count number) (next_own count own number)

  pub none_given : (home : List ℕ) (count : ℕ) (hs : List (Holder T)) → Every (IsLoneHolder home) hs → AreGiven count 0 0 hs
  none_given home count hs h number z there =
      let none : victims z ≡ [] = ap (map victim_of) (every_at (IsLoneHolder home) hs number z h there).2 in
      none ∙ ap (turns count number) (sym (⊎_elim (λ y. subst (λ n. given_to count 0 0 n ≡ 0) (sym y.1) (at_own count 0 0)) (λ y. let n = y.1 in above_own count 0 0 number (omega (arith, n))) (eqb_tells number 0)))

  pub all_given : (count : ℕ) (hs : List (Holder T)) → length hs ≡ count → AreGiven count count 0 hs → AreInTurn hs
  all_given count hs long h number z there =
      let below = at_below hs number z there in
      subst (λ (n : ℕ). victims z ≡ turns n number (n - 1)) (sym long) (h number z there ∙ ap (turns count number) (below_own count count 0 number (omega (arith, below, long))))
