-- Each move of a deque keeps the home of its tasks.
use Rattle.std.proofs.Common.{◌≡◌, ◌≢◌, ℕ, zero, suc, ◌<◌, List, [], ◌∷◌, ◌++◌, set, sym, refl, ap, subst, ⊎_elim, arith}
use mathlib.Core.Option.{some, some-injective, some-ne-none}
use lib.ListN.{get_elem?}
use Rattle.crossbeam_deque.proofs.Lists.{at_set, at_snoc}
use Rattle.task_deques.specs.declared.shares.Share.{Share}
use Rattle.task_deques.specs.Shares.{AllOf, Homed}

module _ {T : Type 0} (home_of : T → List ℕ) where
  all_append : (home : List ℕ) (xs ys : List T) → AllOf home_of home xs → AllOf home_of home ys → AllOf home_of home (xs ++ ys)
  all_append home [] ys h k = k
  all_append home (x ∷ xs) ys h k = (h.0, all_append home xs ys h.1 k)

  all_left : (home : List ℕ) (xs ys : List T) → AllOf home_of home (xs ++ ys) → AllOf home_of home xs
  all_left home [] ys h = tt
  all_left home (x ∷ xs) ys h = (h.0, all_left home xs ys h.1)

  all_right : (home : List ℕ) (xs ys : List T) → AllOf home_of home (xs ++ ys) → AllOf home_of home ys
  all_right home [] ys h = h
  all_right home (x ∷ xs) ys h = all_right home xs ys h.1

  abbrev Knows : List ℕ → Share T → Type 0
  Knows home v = 0 < v.parts → v.home ≡ home

  -- each pass with a part knows the home
  abbrev AllKnow : List ℕ → List (Share T) → Type 0
  AllKnow home views = (by : ℕ) (v : Share T) → get_elem? views by ≡ some v → Knows home v

  know_set : (home : List ℕ) (views : List (Share T)) (by : ℕ) (w : Share T) → Knows home w → AllKnow home views → AllKnow home (set views by w)
  know_set home views by w mine others j u e = ⊎_elim (λ (x : (j ≡ by) × (w ≡ u)). subst (Knows home) x.1 mine) (λ (x : (j ≢ by) × (get_elem? views j ≡ some u)). others j u x.1) (at_set views by j w u e)

  know_snoc : (home : List ℕ) (views : List (Share T)) (w : Share T) → Knows home w → AllKnow home views → AllKnow home (views ++ w ∷ [])
  know_snoc home views w mine others j u e = ⊎_elim (λ (x : get_elem? views j ≡ some u). others j u x) (λ (x : w ≡ u). subst (Knows home) x mine) (at_snoc views w u j e)

  only : (u v : Share T) (j : ℕ) → get_elem? (u ∷ []) j ≡ some v → u ≡ v
  only u v zero e = some-injective u v e
  only u v (suc j) e = absurd (some-ne-none v (sym e))

  pub first_home : (v : Share T) → Homed home_of [] (v ∷ [])
  first_home v = record { home = v.home; known = λ by u e part. ap (λ (x : Share T). x.home) (sym (only v u by e)); all = tt }

  pub put_home : (items : List T) (views : List (Share T)) (by : ℕ) (v w : Share T) (xs : List T) → 0 < v.parts → w.home ≡ v.home → AllOf home_of v.home xs → Homed home_of items views → get_elem? views by ≡ some v → Homed home_of (items ++ xs) (set views by w)
  put_home items views by v w xs part same of h at = record {
    home = h.home;
    known = know_set h.home views by w (λ _. subst (λ n. n ≡ h.home) (sym same) (h.known by v at part)) h.known;
    all = all_append h.home items xs h.all (subst (λ n. AllOf home_of n xs) (h.known by v at part) of);
  }

  pub take_home : (xs items : List T) (views : List (Share T)) (by : ℕ) (v w : Share T) → 0 < v.parts → w.home ≡ v.home → Homed home_of (xs ++ items) views → get_elem? views by ≡ some v → Homed home_of items (set views by w) × AllOf home_of v.home xs
  take_home xs items views by v w part same h at = (
    record {
      home = h.home;
      known = know_set h.home views by w (λ _. subst (λ n. n ≡ h.home) (sym same) (h.known by v at part)) h.known;
      all = all_right h.home xs items h.all;
    },
    subst (λ n. AllOf home_of n xs) (sym (h.known by v at part)) (all_left h.home xs items h.all),
  )

  pub split_home : (items : List T) (views : List (Share T)) (by : ℕ) (v l r : Share T) → 0 < v.parts → l.home ≡ v.home → r.home ≡ v.home → Homed home_of items views → get_elem? views by ≡ some v → Homed home_of items (set views by l ++ r ∷ [])
  split_home items views by v l r part left right h at = record {
    home = h.home;
    known = know_snoc h.home (set views by l) r (λ _. subst (λ n. n ≡ h.home) (sym right) (h.known by v at part))
        (know_set h.home views by l (λ _. subst (λ n. n ≡ h.home) (sym left) (h.known by v at part)) h.known);
    all = h.all;
  }

  pub join_home : (items : List T) (views : List (Share T)) (by other : ℕ) (v both spent : Share T) → 0 < v.parts → both.home ≡ v.home → spent.parts ≡ 0 → Homed home_of items views → get_elem? views by ≡ some v → Homed home_of items (set (set views by both) other spent)
  join_home items views by other v both spent part same none h at = record {
    home = h.home;
    known = know_set h.home (set views by both) other spent (λ p. absurd (omega (arith, p, none)))
        (know_set h.home views by both (λ _. subst (λ n. n ≡ h.home) (sym same) (h.known by v at part)) h.known);
    all = h.all;
  }

  -- where no other pass has a part and nothing is there, the home may be any
  pub new_home : (views : List (Share T)) (by : ℕ) (l r : Share T) → r.parts ≡ 0 → ((j : ℕ) (u : Share T) → j ≢ by → get_elem? views j ≡ some u → u.parts ≡ 0) → Homed home_of [] (set views by l ++ r ∷ [])
  new_home views by l r none others = record {
    home = l.home;
    known = know_snoc l.home (set views by l) r (λ p. absurd (omega (arith, p, none)))
        (λ j u e. ⊎_elim (λ (x : (j ≡ by) × (l ≡ u)). subst (Knows l.home) x.1 (λ _. refl)) (λ (x : (j ≢ by) × (get_elem? views j ≡ some u)). let n = others j u x.0 x.1 in λ p. absurd (omega (arith, p, n))) (at_set views by j l u e));
    all = tt;
  }
