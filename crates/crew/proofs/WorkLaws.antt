-- What a worker did, one task after the other.
use Rattle.std.proofs.Common.{◌≡◌, ℕ, ◌+◌, Bool, true, false, cond, List, [], ◌∷◌, ◌++◌, refl, sym, ap, ◌∙◌, subst, append_assoc, arith}
use Rattle.std.specs.Prelude.{flat_map, IsPermutation}
use Rattle.std.proofs.lemmas.List.{append-nil}
use Rattle.kan_model.specs.Programs.Goals.{Program}
use Rattle.task_deques.specs.Holders.{Holder, holder_part, deque_of, others_of, pushed_to, pushed_by, pushed_through, taken_by, taken_through}
use Rattle.task_deques.proofs.Lists.{like, then, before, to_end}
use Rattle.crew.specs.declared.tasks.Offered.{Offered}
use Rattle.crew.specs.Offers.{Offers, tree_of}
use Rattle.crew.specs.Working.{offered_behind, HasServed, IsHandled}
use Rattle.crew.specs.Working.Serves.{nothing, forces, drops}

-- behind others stand more
more : {T : Type 0} (now was old some new : List T) → IsPermutation now (was ++ new) → IsPermutation was (old ++ some) →
    IsPermutation now (old ++ (some ++ new))
more now was old some new p q = then p (then (before new q) (like _ _ (append_assoc old some new)))

module _ {St : Type 0} where
  -- nothing was done yet
  pub none_served : (p : Program) (h : Holder (Offered St)) → HasServed p h h 0 0
  none_served p h = record {
    took = [];
    gave = [];
    serves = nothing;
    taken = like _ _ (sym (append-nil (taken_by h)));
    pushed = like _ _ (sym (append-nil (pushed_by h)));
    part = refl;
  }

  one_dropped : (p : Program) (start here after : Holder (Offered St)) (task : Offered St) (n m : ℕ) →
      HasServed p start here n m → IsPermutation (taken_by after) (taken_by here ++ task ∷ []) → pushed_by after ≡ pushed_by here →
      holder_part after ≡ holder_part here → HasServed p start after n (m + 1)
  one_dropped p start here after task n m s took same part = record {
    took = s.took ++ task ∷ [];
    gave = s.gave;
    serves = drops task s.serves;
    taken = more (taken_by after) (taken_by here) (taken_by start) s.took (task ∷ []) took s.taken;
    pushed = then (like _ _ same) s.pushed;
    part = part ∙ s.part;
  }

  one_forced : (p : Program) (start here between after : Holder (Offered St)) (task : Offered St) (n m : ℕ) →
      HasServed p start here n m → IsPermutation (taken_by between) (taken_by here ++ task ∷ []) → pushed_by between ≡ pushed_by here →
      holder_part between ≡ holder_part here → Offers between after (offered_behind p (tree_of task)) →
      HasServed p start after (n + 1) m
  one_forced p start here between after task n m s took same part o = record {
    took = s.took ++ task ∷ [];
    gave = s.gave ++ o.given;
    serves = forces task o.given s.serves o.some;
    taken =
        then (like _ _ (λ i. o.taken_same i ++ flat_map taken_through (o.others i)))
        (more (taken_by between) (taken_by here) (taken_by start) s.took (task ∷ []) took s.taken);
    pushed =
        then (like _ _ (λ i. o.pushed_more i ++ flat_map pushed_through (o.others i)))
        (then (to_end (pushed_to (deque_of between)) o.given (flat_map pushed_through (others_of between)))
        (more (pushed_by between ++ o.given) (pushed_by here) (pushed_by start) s.gave o.given (like _ _ (ap (λ l. l ++ o.given) same)) s.pushed));
    part = o.part ∙ part ∙ s.part;
  }

  -- a task was taken, and handled
  pub served_on : (p : Program) (start here between after : Holder (Offered St)) (task : Offered St) (b : Bool) (n m forced dropped : ℕ) →
      IsPermutation (taken_by between) (taken_by here ++ task ∷ []) → pushed_by between ≡ pushed_by here →
      holder_part between ≡ holder_part here → IsHandled p task between after b →
      forced ≡ n + cond b 1 0 → dropped ≡ m + cond b 0 1 →
      HasServed p start here n m → HasServed p start after forced dropped
  served_on p start here between after task true n m forced dropped took same part is e f s =
      let g : m ≡ dropped = omega (arith, f) in
      subst (λ d. HasServed p start after forced d) g
      (subst (λ d. HasServed p start after d m) (sym e) (one_forced p start here between after task n m s took same part is))
  served_on p start here between after task false n m forced dropped took same part is e f s =
      let g : n ≡ forced = omega (arith, e) in
      subst (λ d. HasServed p start after d dropped) g
      (subst (λ d. HasServed p start after n d) (sym f)
      (subst (λ h. HasServed p start h n (m + 1)) (sym is) (one_dropped p start here between task n m s took same part)))

  -- there was no task
  pub none_taken : (p : Program) (start here after : Holder (Offered St)) (n m : ℕ) →
      IsPermutation (taken_by after) (taken_by here ++ []) → pushed_by after ≡ pushed_by here →
      holder_part after ≡ holder_part here → HasServed p start here n m → HasServed p start after n m
  none_taken p start here after n m took same part s = record {
    took = s.took;
    gave = s.gave;
    serves = s.serves;
    taken = then took (then (like _ _ (append-nil (taken_by here))) s.taken);
    pushed = then (like _ _ same) s.pushed;
    part = part ∙ s.part;
  }
