-- Each move of a deque keeps each task there once.
use Rattle.std.proofs.Common.{◌≡◌, ◌≢◌, ℕ, zero, suc, ◌+◌, ◌<◌, ◌≤◌, List, [], ◌∷◌, ◌++◌, length, set, sym, refl, ap, ◌∙◌, subst, ⊎_elim, append_assoc, arith}
use Rattle.std.specs.Prelude.{flat_map, IsPermutation}
use Rattle.std.proofs.lemmas.List.{append-nil, length-append}
use Rattle.std.proofs.lemmas.List.Concat.{flat_map-append}
use Rattle.std.proofs.lemmas.List.Sorted.{IsPermutation-sym, length_permutation}
use mathlib.Core.Option.{some, some-injective, some-ne-none}
use lib.ListN.{get_elem?}
use Rattle.crossbeam_deque.proofs.Lists.{at_set, at_snoc}
use Rattle.task_deques.specs.declared.shares.Share.{Share}
use Rattle.task_deques.specs.Shares.{whole, total, share, IdleIsUnused, Balanced, WasEmpty}
use Rattle.task_deques.proofs.Lists.{like, then, before, steady, grown, moved, total_set, total_snoc, total_at}

module _ {T : Type 0} where
  abbrev pub put_of : Share T → List T
  put_of v = v.put

  abbrev pub taken_of : Share T → List T
  taken_of v = v.taken

  abbrev pub parts_of : Share T → ℕ
  parts_of v = v.parts

  abbrev IsIdle : Share T → Type 0
  IsIdle v = v.parts ≡ 0 → (v.put ≡ []) × (v.taken ≡ [])

  idle_set : (views : List (Share T)) (by : ℕ) (w : Share T) → IsIdle w → IdleIsUnused views → IdleIsUnused (set views by w)
  idle_set views by w mine others j u e = ⊎_elim (λ (x : (j ≡ by) × (w ≡ u)). subst IsIdle x.1 mine) (λ (x : (j ≢ by) × (get_elem? views j ≡ some u)). others j u x.1) (at_set views by j w u e)

  idle_snoc : (views : List (Share T)) (w : Share T) → IsIdle w → IdleIsUnused views → IdleIsUnused (views ++ w ∷ [])
  idle_snoc views w mine others j u e = ⊎_elim (λ (x : get_elem? views j ≡ some u). others j u x) (λ (x : w ≡ u). subst IsIdle x mine) (at_snoc views w u j e)

  pub begun : (home : List ℕ) → Balanced {T = T} [] (share whole home [] [] ∷ [])
  begun home = record {
    parts = refl;
    same = like _ _ refl;
    idle = idle_snoc [] (share whole home [] []) (λ none. (refl, refl)) (λ by v at. absurd (some-ne-none v (sym at)));
  }

  pub put_on : (items : List T) (views : List (Share T)) (by : ℕ) (v : Share T) (xs : List T) → 0 < v.parts → Balanced items views → get_elem? views by ≡ some v → Balanced (items ++ xs) (set views by (share v.parts v.home (v.put ++ xs) v.taken))
  put_on items views by v xs part b at = let w : Share T = share v.parts v.home (v.put ++ xs) v.taken in record {
    parts = let s = total_set parts_of views by v w at in let p = b.parts in omega arith;
    same = then (grown put_of views by v w xs at refl)
        (then (before xs b.same)
        (like _ _ (append_assoc (flat_map taken_of views) items xs ∙ ap (λ l. l ++ (items ++ xs)) (sym (steady taken_of views by v w at refl)))));
    idle = idle_set views by w (λ none. absurd (omega arith)) b.idle;
  }

  pub taken_off : (xs items : List T) (views : List (Share T)) (by : ℕ) (v : Share T) → 0 < v.parts → Balanced (xs ++ items) views → get_elem? views by ≡ some v → Balanced items (set views by (share v.parts v.home v.put (v.taken ++ xs)))
  taken_off xs items views by v part b at = let w : Share T = share v.parts v.home v.put (v.taken ++ xs) in record {
    parts = let s = total_set parts_of views by v w at in let p = b.parts in omega arith;
    same = then (like _ _ (steady put_of views by v w at refl))
        (then b.same
        (then (like _ _ (sym (append_assoc (flat_map taken_of views) xs items)))
        (before items (IsPermutation-sym _ _ (grown taken_of views by v w xs at refl)))));
    idle = idle_set views by w (λ none. absurd (omega arith)) b.idle;
  }

  -- a pass with lists as before, and beside it one that has put and taken nothing
  pub split_off : (items : List T) (views : List (Share T)) (by : ℕ) (v l r : Share T) → 0 < l.parts → l.parts + r.parts ≡ v.parts → l.put ≡ v.put → l.taken ≡ v.taken → r.put ≡ [] → r.taken ≡ [] → Balanced items views → get_elem? views by ≡ some v
      → Balanced items (set views by l ++ r ∷ [])
  split_off items views by v l r part sum put taken none none' b at =
      let vs : List (Share T) = set views by l in
      let longer : (f : Share T → List T) → f l ≡ f v → f r ≡ [] → flat_map f (vs ++ r ∷ []) ≡ flat_map f views = (λ f e n. flat_map-append f vs (r ∷ []) ∙ ap (λ x. flat_map f vs ++ (x ++ [])) n ∙ append-nil (flat_map f vs) ∙ steady f views by v l at e) in
      record {
        parts = let s = total_set parts_of views by v l at in let t = total_snoc parts_of vs r in let p = b.parts in omega (arith, s, t, p, sum);
        same = then (like _ _ (longer put_of put none)) (then b.same (like _ _ (ap (λ x. x ++ items) (sym (longer taken_of taken none')))));
        idle = idle_snoc vs r (λ _. (none, none')) (idle_set views by l (λ e. absurd (omega (arith, e, part))) b.idle);
      }

  pub joined : (items : List T) (views : List (Share T)) (by other : ℕ) (v u : Share T) → 0 < v.parts → Balanced items views → get_elem? views by ≡ some v → other ≢ by → get_elem? (set views by (share (v.parts + u.parts) v.home (v.put ++ u.put) (v.taken ++ u.taken))) other ≡ some u
      → Balanced items (set (set views by (share (v.parts + u.parts) v.home (v.put ++ u.put) (v.taken ++ u.taken))) other (share 0 [] [] []))
  joined items views by other v u part b at apart at' =
      let both : Share T = share (v.parts + u.parts) v.home (v.put ++ u.put) (v.taken ++ u.taken) in
      let spent : Share T = share 0 [] [] [] in
      let vs : List (Share T) = set views by both in
      let was : get_elem? views other ≡ some u = ⊎_elim (λ x. absurd (apart x.0)) (λ x. x.1) (at_set views by other both u at') in
      record {
        parts = let s = total_set parts_of views by v both at in let t = total_set parts_of vs other u spent at' in let p = b.parts in omega arith;
        same = then (moved put_of views by other v u both spent at apart was refl refl) (then b.same (before items (IsPermutation-sym _ _ (moved taken_of views by other v u both spent at apart was refl refl))));
        idle = idle_set vs other spent (λ _. (refl, refl)) (idle_set views by both (λ none. absurd (omega arith)) b.idle);
      }

  -- where no pass has a part, nothing was put or taken
  abbrev Rests : (Share T → List T) → List (Share T) → Type 0
  Rests f views = (by : ℕ) (v : Share T) → get_elem? views by ≡ some v → v.parts ≡ 0 → f v ≡ []

  nothing : (f : Share T → List T) (views : List (Share T)) → Rests f views → total parts_of views ≡ 0 → flat_map f views ≡ []
  nothing f [] idle e = refl
  nothing f (u ∷ us) idle e = (λ i. idle 0 u refl (omega (arith, e)) i ++ nothing f us (λ by. idle (suc by)) (omega (arith, e)) i)

  -- where one has all parts, all is its own
  alone : (f : Share T → List T) (views : List (Share T)) (by : ℕ) (v : Share T) → get_elem? views by ≡ some v → Rests f views → total parts_of views ≡ v.parts → flat_map f views ≡ f v
  alone f [] by v at idle e = absurd (some-ne-none v (sym at))
  alone f (u ∷ us) zero v at idle e =
      let is : u ≡ v = some-injective u v at in
      let same : u.parts ≡ v.parts = ap parts_of is in
      (λ i. f (is i) ++ nothing f us (λ by. idle (suc by)) (omega arith) i) ∙ append-nil (f v)
  alone f (u ∷ us) (suc by) v at idle e =
      let most = total_at parts_of us by v at in
      (λ i. idle 0 u refl (omega arith) i ++ alone f us by v at (λ j. idle (suc j)) (omega arith) i)

  -- what it put is what it took and what is there
  pub all_mine : (items : List T) (views : List (Share T)) (by : ℕ) (v : Share T) → get_elem? views by ≡ some v → Balanced items views → v.parts ≡ whole → IsPermutation v.put (v.taken ++ items)
  all_mine items views by v at b all =
      let e : total parts_of views ≡ v.parts = b.parts ∙ sym all in
      subst (λ l. IsPermutation l (v.taken ++ items)) (alone put_of views by v at (λ j u a n. (b.idle j u a n).0) e)
      (then b.same (like _ _ (ap (λ l. l ++ items) (alone taken_of views by v at (λ j u a n. (b.idle j u a n).1) e))))

  -- and it has not taken more than it put
  pub bounded : (xs items : List T) (views : List (Share T)) (by : ℕ) (v : Share T) → get_elem? views by ≡ some v → Balanced (xs ++ items) views → v.parts ≡ whole → length (v.taken ++ xs) ≤ length v.put
  bounded xs items views by v at b all =
      let p = length_permutation _ _ (all_mine (xs ++ items) views by v at b all) in
      omega (arith, p, length-append v.taken (xs ++ items), length-append xs items, length-append v.taken xs)

  -- or exactly that, where the deque was empty
  pub settled : (v : Share T) → v.parts ≡ whole → WasEmpty v → IsPermutation v.put v.taken
  settled v all h = then (all_mine [] h.views h.by v h.here h.balanced all) (like _ _ (append-nil v.taken))
