-- Each move of a deque keeps its rule.
use Rattle.std.proofs.Common.{◌≡◌, ℕ, ◌+◌, ◌-◌, ◌<◌, List, [], ◌∷◌, ◌++◌, length, set, sym, refl, subst, arith}
use Rattle.std.proofs.lemmas.List.Sorted.{length_permutation}
use Rattle.crossbeam_deque.specs.Tasks.{Pushes, Takes, Forks, Merges}
use Rattle.task_deques.specs.declared.shares.Share.{Share}
use Rattle.task_deques.specs.Shares.{whole, share, AllOf, Homed, Kept, HasTaken}
use Rattle.task_deques.proofs.Lists.{total_two}
use Rattle.task_deques.proofs.BalancedLaws.{parts_of, begun, put_on, taken_off, split_off, joined, all_mine, bounded}
use Rattle.task_deques.proofs.HomedLaws.{first_home, put_home, take_home, split_home, join_home, new_home}

module _ {T : Type 0} (home_of : T → List ℕ) where
  pub begins : Kept home_of [] (share whole [] [] [] ∷ [])
  begins = record { balanced = begun []; homed = first_home home_of (share whole [] [] []) }

  pub puts : (by : ℕ) (v : Share T) (xs : List T) → 0 < v.parts → AllOf home_of v.home xs → Pushes (Kept home_of) by v xs (λ w. w ≡ share v.parts v.home (v.put ++ xs) v.taken)
  puts by v xs part of items views k at = let w : Share T = share v.parts v.home (v.put ++ xs) v.taken in (
    w,
    record { balanced = put_on items views by v xs part k.balanced at; homed = put_home home_of items views by v w xs part refl of k.homed at },
    refl,
  )

  pub takes : (by : ℕ) (v : Share T) (most : ℕ) → 0 < v.parts → Takes (Kept home_of) by v most (HasTaken home_of v)
  takes by v most part xs items views _ _ k at =
      let w : Share T = share v.parts v.home v.put (v.taken ++ xs) in
      let homed = take_home home_of xs items views by v w part refl k.homed at in (
        w,
        record { balanced = taken_off xs items views by v part k.balanced at; homed = homed.0 },
        record { after = refl; homes = homed.1; bound = bounded xs items views by v at k.balanced },
      )

  pub forks : (by : ℕ) (v : Share T) → 1 < v.parts → Forks (Kept home_of) by v (share (v.parts - 1) v.home v.put v.taken) (share 1 v.home [] [])
  forks by v part items views k at =
      let l : Share T = share (v.parts - 1) v.home v.put v.taken in
      let r : Share T = share 1 v.home [] [] in
      record {
        balanced = split_off items views by v l r (omega (arith, part)) (omega (arith, part)) refl refl refl refl k.balanced at;
        homed = split_home home_of items views by v l r (omega (arith, part)) refl refl k.homed at;
      }

  pub merges : (by : ℕ) (v : Share T) (other : ℕ) (u : Share T) → 0 < v.parts → Merges (Kept home_of) by v other u (share (v.parts + u.parts) v.home (v.put ++ u.put) (v.taken ++ u.taken)) (share 0 [] [] [])
  merges by v other u part items views k at apart at' = record {
    balanced = joined items views by other v u part k.balanced at apart at';
    homed = join_home home_of items views by other v (share (v.parts + u.parts) v.home (v.put ++ u.put) (v.taken ++ u.taken)) (share 0 [] [] []) part refl refl k.homed at;
  }

  length_zero : (xs : List T) → length xs ≡ 0 → [] ≡ xs
  length_zero [] e = refl
  length_zero (x ∷ xs) e = absurd (omega (arith, e))

  -- the only pass with parts may pick the home, as long as nothing was put
  names : (home : List ℕ) (by : ℕ) → Forks (Kept home_of) by (share whole [] [] []) (share whole home [] []) (share 0 [] [] [])
  names home by items views k at =
      let v : Share T = share whole [] [] [] in
      let l : Share T = share whole home [] [] in
      let r : Share T = share 0 [] [] [] in
      let none = length_permutation [] items (all_mine items views by v at k.balanced refl) in
      record {
        balanced = split_off items views by v l r (omega arith) refl refl refl refl refl k.balanced at;
        homed = subst (λ xs. Homed home_of xs (set views by l ++ r ∷ [])) (length_zero items none) (new_home home_of views by l r refl (λ j u n e. let p = k.balanced.parts in let two = total_two parts_of views by j v u n at e in omega (arith, p, two)));
      }

  pub names_new : (home : List ℕ) (by : ℕ) (v : Share T) → v ≡ share whole [] [] [] → Forks (Kept home_of) by v (share v.parts home v.put v.taken) (share 0 [] [] [])
  names_new home by v e = subst (λ (u : Share T). Forks (Kept home_of) by u (share u.parts home u.put u.taken) (share 0 [] [] [])) (sym e) (names home by)
