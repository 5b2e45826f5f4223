-- What each pass of a deque put and took, and the rule of a deque.
use Rattle.std.specs.Prelude.{◌≡◌, ℕ, ◌+◌, ◌<◌, ◌≤◌, ⊤}
use Rattle.std.specs.Prelude.{List, [], ◌∷◌, ◌++◌, length, flat_map, IsPermutation}
use mathlib.Core.Option.{some}
use lib.ListN.{get_elem?}
use Rattle.task_deques.specs.declared.shares.Share.{Share}

-- all parts of a deque
abbrev pub whole : ℕ
whole = 1048576

-- f of each, added up
abbrev pub total : {V : Type 0} → (V → ℕ) → List V → ℕ
total f [] = 0
total f (v ∷ vs) = f v + total f vs

module _ {T : Type 0} where
  abbrev pub share : ℕ → List ℕ → List T → List T → Share T
  share parts home put taken = record { parts = parts; home = home; put = put; taken = taken }

  -- each task is of this home
  abbrev pub AllOf : (T → List ℕ) → List ℕ → List T → Type 0
  AllOf home_of home [] = ⊤
  AllOf home_of home (x ∷ xs) = (home_of x ≡ home) × AllOf home_of home xs

  -- a pass with no part has put and taken nothing
  abbrev pub IdleIsUnused : List (Share T) → Type 0
  IdleIsUnused views = (by : ℕ) (v : Share T) → get_elem? views by ≡ some v → v.parts ≡ 0
      → (v.put ≡ []) × (v.taken ≡ [])

-- what was put is what was taken and what the deque holds, each once
pub record Balanced {T : Type 0} (items : List T) (views : List (Share T)) : Type 0 where
  pub parts : total (λ v. v.parts) views ≡ whole
  pub same : IsPermutation (flat_map (λ v. v.put) views) (flat_map (λ v. v.taken) views ++ items)
  pub idle : IdleIsUnused views

-- what the deque holds is of one home, which each pass with a part knows
pub record Homed {T : Type 0} (home_of : T → List ℕ)
    (items : List T) (views : List (Share T)) : Type 0 where
  pub home : List ℕ
  pub known : (by : ℕ) (v : Share T) → get_elem? views by ≡ some v → 0 < v.parts → v.home ≡ home
  pub all : AllOf home_of home items

pub record Kept {T : Type 0} (home_of : T → List ℕ)
    (items : List T) (views : List (Share T)) : Type 0 where
  pub balanced : Balanced items views
  pub homed : Homed home_of items views

-- at one moment the deque was empty, and a pass knew this of it
pub record WasEmpty {T : Type 0} (v : Share T) : Type 0 where
  pub views : List (Share T)
  pub by : ℕ
  pub here : get_elem? views by ≡ some v
  pub balanced : Balanced {T = T} [] views

-- these tasks were taken through a pass, in this order
pub record HasTaken {T : Type 0} (home_of : T → List ℕ)
    (v : Share T) (xs : List T) (w : Share T) : Type 0 where
  pub after : w ≡ share v.parts v.home v.put (v.taken ++ xs)
  pub homes : AllOf home_of v.home xs
  pub bound : v.parts ≡ whole → length (v.taken ++ xs) ≤ length v.put
