-- What comes back at the end.
use Rattle.std.proofs.Common.{◌≡◌, ℕ, zero, suc, ◌+◌, ◌<◌, List, [], ◌∷◌, ◌++◌, length, set, map, get_or, sym, refl, ap, ◌∙◌, subst, append_assoc, arith}
use Rattle.std.specs.Prelude.{flat_map, IsPermutation, Option, Some, None, IfNone}
use Rattle.std.proofs.lemmas.List.{append-nil, map-append, map-set}
use Rattle.std.proofs.lemmas.List.Concat.{flat_map-append}
use Rattle.std.proofs.lemmas.List.Sorted.{IsPermutation-refl, IsPermutation-sym, IsPermutation-append_comm}
use mathlib.Core.Option.{some, some-injective, some-ne-none}
use lib.ListN.{get_elem?}
use Rattle.crossbeam_deque.proofs.Lists.{at_map}
use Rattle.crossbeam_deque.specs.Handles.{worker_view}
use Rattle.task_deques.specs.declared.holders.TaskDeque.{TaskDeque}
use Rattle.task_deques.specs.declared.holders.TaskStealer.{TaskStealer}
use Rattle.task_deques.specs.Shares.{whole, WasEmpty}
use Rattle.task_deques.specs.Whole.{DequePart, Every, StealerPart, IsOfDeque, IsAll}
use Rattle.task_deques.specs.Holders.{Holder, pushed_to, taken_from, pushed_through, taken_through, deque_part, stealer_part, deque_of, others_of, holder_part, pushed_by, taken_by, AreWhole, IsWholeDeque}
use Rattle.task_deques.proofs.Lists.{like, then, after, before, to_end, grown}
use Rattle.task_deques.proofs.BalancedLaws.{settled}
use Rattle.task_deques.proofs.WholeLaws.{at_below, every_last, absorbs}

-- one of a list's images is the image of one
there : {X Y : Type 0} (f : X → Y) (xs : List X) (i : ℕ) (y : Y) → get_elem? (map f xs) i ≡ some y → (x : X) × (get_elem? xs i ≡ some x) × (f x ≡ y)
there f [] i y e = absurd (some-ne-none y (sym e))
there f (x ∷ xs) zero y e = (x, refl, some-injective (f x) y e)
there f (x ∷ xs) (suc i) y e = there f xs i y e

pub got : {X : Type 0} (xs : List X) (i : ℕ) (x d : X) → get_elem? xs i ≡ some x → get_or xs i d ≡ x
got [] i x d e = absurd (some-ne-none x (sym e))
got (y ∷ ys) zero x d e = some-injective y x e
got (y ∷ ys) (suc i) x d e = got ys i x d e

module _ {T : Type 0} where
  -- the deque of the last stealer
  pub victim : (ds : List (TaskDeque T)) (ss rest : List (TaskStealer T)) (s : TaskStealer T) → ss ≡ rest ++ s ∷ [] → IsAll (map deque_part ds) (map stealer_part ss)
      → (d : TaskDeque T) × (get_elem? ds s.victim ≡ some d) × ((deque_part d).0 ≡ (stealer_part s).1.0)
  victim ds ss rest s is h =
      let known = subst (λ l. IsAll (map deque_part ds) l) (ap (map stealer_part) is ∙ map-append stealer_part rest (s ∷ [])) h in
      let k = every_last (IsOfDeque (map deque_part ds)) (map stealer_part rest) (stealer_part s) known.known in
      let d = there deque_part ds s.victim k.0 k.1 in
      (d.0, d.1, ap (λ (y : DequePart). y.0) d.2 ∙ k.2)

  pub victim_below : (ds : List (TaskDeque T)) (ss rest : List (TaskStealer T)) (s : TaskStealer T) → ss ≡ rest ++ s ∷ [] → IsAll (map deque_part ds) (map stealer_part ss) → s.victim < length ds
  victim_below ds ss rest s is h = let d = victim ds ss rest s is h in at_below ds s.victim d.0 d.1

  pub victim_is : (ds : List (TaskDeque T)) (ss rest : List (TaskStealer T)) (s : TaskStealer T) (e x : TaskDeque T) → x ≡ get_or ds s.victim e → ss ≡ rest ++ s ∷ [] → IsAll (map deque_part ds) (map stealer_part ss)
      → (deque_part x).0 ≡ (stealer_part s).1.0
  victim_is ds ss rest s e x o is h = let d = victim ds ss rest s is h in ap (λ (x : TaskDeque T). (deque_part x).0) o ∙ ap (λ (x : TaskDeque T). (deque_part x).0) (got ds s.victim d.0 e d.1) ∙ d.2

  -- all is here after it was absorbed
  pub absorbed_all : (ds : List (TaskDeque T)) (ss rest : List (TaskStealer T)) (s : TaskStealer T) (e x d' : TaskDeque T) → x ≡ get_or ds s.victim e → ss ≡ rest ++ s ∷ [] → IsAll (map deque_part ds) (map stealer_part ss)
      → deque_part d' ≡ ((deque_part x).0, (deque_part x).1 + (stealer_part s).1.1)
      → IsAll (map deque_part (set ds s.victim d')) (map stealer_part rest)
  absorbed_all ds ss rest s e x d' o is h shape =
      let d = victim ds ss rest s is h in
      let whole' = subst (λ l. IsAll (map deque_part ds) l) (ap (map stealer_part) is ∙ map-append stealer_part rest (s ∷ [])) h in
      let shape' : deque_part d' ≡ ((deque_part d.0).0, (deque_part d.0).1 + (stealer_part s).1.1) = shape ∙ ap (λ (x : TaskDeque T). ((deque_part x).0, (deque_part x).1 + (stealer_part s).1.1)) (o ∙ got ds s.victim d.0 e d.1) in
      subst (λ l. IsAll l (map stealer_part rest)) (sym (map-set deque_part ds s.victim d')) (absorbs (map deque_part ds) (map stealer_part rest) (stealer_part s) (deque_part d.0) (deque_part d') whole' (at_map deque_part ds s.victim d.0 d.1) shape')

  -- and no task is lost
  pub absorbed_list : (f : TaskDeque T → List T) (g : TaskStealer T → List T) (ds : List (TaskDeque T)) (ss rest : List (TaskStealer T)) (s : TaskStealer T) (e x d' : TaskDeque T)
      → x ≡ get_or ds s.victim e → ss ≡ rest ++ s ∷ [] → IsAll (map deque_part ds) (map stealer_part ss) → f d' ≡ f x ++ g s
      → IsPermutation (flat_map f ds ++ flat_map g ss) (flat_map f (set ds s.victim d') ++ flat_map g rest)
  absorbed_list f g ds ss rest s e x d' o is h is' =
      let d = victim ds ss rest s is h in
      let F : List T = flat_map f ds in
      let G : List T = flat_map g rest in
      let shorter : flat_map g ss ≡ G ++ g s = ap (flat_map g) is ∙ flat_map-append g rest (s ∷ []) ∙ ap (λ l. G ++ l) (append-nil (g s)) in
      let f' : f d' ≡ f d.0 ++ g s = is' ∙ ap (λ x. f x ++ g s) (o ∙ got ds s.victim d.0 e d.1) in
      then (like _ _ (ap (λ l. F ++ l) shorter ∙ sym (append_assoc F G (g s))))
      (then (to_end F G (g s)) (before G (IsPermutation-sym _ _ (grown f ds s.victim d.0 d' (g s) d.1 f'))))

  pub drained : (td td' l0 t0 l l' : List T) (x : T) → td' ≡ td ++ x ∷ [] → l' ≡ l ++ x ∷ [] → IsPermutation (td ++ l0) (t0 ++ l) → IsPermutation (td' ++ l0) (t0 ++ l')
  drained td td' l0 t0 l l' x e e' h = then (like _ _ (ap (λ y. y ++ l0) e)) (then (to_end td (x ∷ []) l0) (then (before (x ∷ []) h) (like _ _ (append_assoc t0 l (x ∷ []) ∙ ap (λ y. t0 ++ y) (sym e')))))

  pub drained_whole : (d : TaskDeque T) (p l0 t0 l : List T) → (deque_part d).1 ≡ whole → WasEmpty (worker_view d.worker) → pushed_to d ≡ p → IsPermutation (taken_from d ++ l0) (t0 ++ l) → IsPermutation (l0 ++ p) (t0 ++ l)
  drained_whole d p l0 t0 l all none same h =
      then (after l0 (subst (λ q. IsPermutation q (taken_from d)) same (settled (worker_view d.worker) all none))) (then (IsPermutation-append_comm l0 (taken_from d)) h)

  pub drained_more : (f g : TaskDeque T → List T) (ys : List (TaskDeque T)) (d : TaskDeque T) (l l' : List T) → IsPermutation (flat_map f ys) (flat_map g ys ++ l) → IsPermutation (l ++ f d) (g d ++ l')
      → IsPermutation (flat_map f (ys ++ d ∷ [])) (flat_map g (ys ++ d ∷ []) ++ l')
  drained_more f g ys d l l' h k =
      let more : (e : TaskDeque T → List T) → flat_map e (ys ++ d ∷ []) ≡ flat_map e ys ++ e d = (λ e. flat_map-append e ys (d ∷ []) ∙ ap (λ x. flat_map e ys ++ x) (append-nil (e d))) in
      then (like _ _ (more f))
      (then (before (f d) h)
      (then (like _ _ (append_assoc (flat_map g ys) l (f d)))
      (then (after (flat_map g ys) k) (like _ _ (sym (append_assoc (flat_map g ys) (g d) l') ∙ ap (λ x. x ++ l') (sym (more g)))))))

  deques_same : (hs : List (Holder T)) → map (λ (s : DequePart × List StealerPart). s.0) (map holder_part hs) ≡ map deque_part (map deque_of hs)
  deques_same [] = refl
  deques_same (h ∷ hs) = ap (λ l. deque_part (deque_of h) ∷ l) (deques_same hs)

  stealers_same : (hs : List (Holder T)) → flat_map (λ (s : DequePart × List StealerPart). s.1) (map holder_part hs) ≡ map stealer_part (flat_map others_of hs)
  stealers_same [] = refl
  stealers_same (h ∷ hs) = ap (λ l. map stealer_part (others_of h) ++ l) (stealers_same hs) ∙ sym (map-append stealer_part (others_of h) (flat_map others_of hs))

  pub parted_all : (hs : List (Holder T)) → AreWhole (map holder_part hs) → IsAll (map deque_part (map deque_of hs)) (map stealer_part (flat_map others_of hs))
  parted_all hs h = subst (λ (x : List DequePart × List StealerPart). IsAll x.0 x.1) (λ i. (deques_same hs i, stealers_same hs i)) h

  -- what is by holder is by deque and stealer
  pub parted : (f : TaskDeque T → List T) (g : TaskStealer T → List T) (hs : List (Holder T))
      → IsPermutation (flat_map (λ (h : Holder T). f (deque_of h) ++ flat_map g (others_of h)) hs) (flat_map f (map deque_of hs) ++ flat_map g (flat_map others_of hs))
  parted f g [] = IsPermutation-refl []
  parted f g (h ∷ hs) =
      let a : List T = f (deque_of h) in
      let b : List T = flat_map g (others_of h) in
      let F : List T = flat_map f (map deque_of hs) in
      let G : List T = flat_map g (flat_map others_of hs) in
      then (after (a ++ b) (parted f g hs))
      (then (like _ _ (sym (append_assoc (a ++ b) F G)))
      (then (before G (to_end a b F)) (like _ _ (append_assoc (a ++ F) b G ∙ ap (λ l. (a ++ F) ++ l) (sym (flat_map-append g (others_of h) (flat_map others_of hs)))))))

  pub whole_deques : (ds : List (TaskDeque T)) → IsAll (map deque_part ds) [] → Every IsWholeDeque ds
  whole_deques ds h = by ds (λ j d at. let p = h.parts j (deque_part d) (at_map deque_part ds j d at) in omega (arith, p))
    where
      by : (l : List (TaskDeque T)) → ((j : ℕ) (d : TaskDeque T) → get_elem? l j ≡ some d → IsWholeDeque d) → Every IsWholeDeque l
      by [] f = tt
      by (x ∷ xs) f = (f 0 x refl, by xs (λ j. f (suc j)))

  -- what was pushed by all holders is what they took, and what is left
  pub gathered : (hs : List (Holder T)) (ds ds' : List (TaskDeque T)) (ss : List (TaskStealer T)) (left : List T) → ds ≡ map deque_of hs → ss ≡ flat_map others_of hs
      → IsPermutation (flat_map pushed_to ds ++ flat_map pushed_through ss) (flat_map pushed_to ds') → IsPermutation (flat_map taken_from ds ++ flat_map taken_through ss) (flat_map taken_from ds')
      → IsPermutation (flat_map pushed_to ds') (flat_map taken_from ds' ++ left)
      → IsPermutation (flat_map pushed_by hs) (flat_map taken_by hs ++ left)
  gathered hs ds ds' ss left d s p t h =
      let p' : IsPermutation (flat_map pushed_by hs) (flat_map pushed_to ds ++ flat_map pushed_through ss) = then (parted pushed_to pushed_through hs) (like _ _ (λ i. flat_map pushed_to (sym d i) ++ flat_map pushed_through (sym s i))) in
      let t' : IsPermutation (flat_map taken_by hs) (flat_map taken_from ds ++ flat_map taken_through ss) = then (parted taken_from taken_through hs) (like _ _ (λ i. flat_map taken_from (sym d i) ++ flat_map taken_through (sym s i))) in
      then p' (then p (then h (before left (then (IsPermutation-sym _ _ t) (IsPermutation-sym _ _ t')))))

  pub whole_all : (hs : List (Holder T)) (ds : List (TaskDeque T)) (ss : List (TaskStealer T)) → ds ≡ map deque_of hs → ss ≡ flat_map others_of hs → AreWhole (map holder_part hs) → IsAll (map deque_part ds) (map stealer_part ss)
  whole_all hs ds ss d s h = subst (λ (x : List (TaskDeque T) × List (TaskStealer T)). IsAll (map deque_part x.0) (map stealer_part x.1)) (λ i. (sym d i, sym s i)) (parted_all hs h)

  -- one of the stealers takes
  pub stole_shape : (ss : List (TaskStealer T)) (k : ℕ) (s s' : TaskStealer T) → get_elem? ss k ≡ some s → stealer_part s' ≡ stealer_part s → map stealer_part (set ss k s') ≡ map stealer_part ss
  stole_shape [] k s s' at e = refl
  stole_shape (u ∷ us) zero s s' at e = ap (λ t. t ∷ map stealer_part us) (e ∙ ap stealer_part (sym (some-injective u s at)))
  stole_shape (u ∷ us) (suc k) s s' at e = ap (λ l. stealer_part u ∷ l) (stole_shape us k s s' at e)

  pub listed : (ss : List (TaskStealer T)) (k : ℕ) (s d : TaskStealer T) → k < length ss → s ≡ get_or ss k d → get_elem? ss k ≡ some s
  listed [] k s d lt e = absurd (omega arith)
  listed (y ∷ ys) zero s d lt e = ap some (sym e)
  listed (y ∷ ys) (suc k) s d lt e = listed ys k s d (omega arith) e

pub stole_none : {X : Type 0} (r : Option X) {P Q : Type 0} → IfNone r P → (P → Q) → IfNone r Q
stole_none None h f = f h
stole_none (Some x) h f = tt
