-- What a clause sees of a deque, a stealer and a holder.
use Rattle.std.specs.Prelude.{◌≡◌, ◌≢◌, ℕ, List, [], ◌++◌, map, flat_map}
use mathlib.Core.Option.{some}
use lib.ListN.{get_elem?}
use Rattle.crossbeam_deque.specs.Handles.{worker_deque, worker_view, stealer_deque, view}
use Rattle.task_deques.specs.declared.shares.Share.{Share}
use Rattle.task_deques.specs.declared.holders.TaskDeque.{TaskDeque}
use Rattle.task_deques.specs.declared.holders.TaskStealer.{TaskStealer}
use Rattle.task_deques.specs.declared.holders.HolderOf.{HolderOf}
use Rattle.task_deques.specs.Shares.{whole, total, WasEmpty}
use Rattle.task_deques.specs.Whole.{DequePart, StealerPart, Every, IsAll}

abbrev pub Holder : Type 0 → Type 0
Holder T = HolderOf (TaskDeque T) (TaskStealer T)

-- what was pushed and taken, and the home of the tasks
module _ {T : Type 0} where
  abbrev pub deque_share : TaskDeque T → Share T
  deque_share d = worker_view d.worker

  abbrev pub stealer_share : TaskStealer T → Share T
  stealer_share s = view s.pass

  abbrev pub pushed_to : TaskDeque T → List T
  pushed_to d = (worker_view d.worker).put

  abbrev pub taken_from : TaskDeque T → List T
  taken_from d = (worker_view d.worker).taken

  abbrev pub deque_home : TaskDeque T → List ℕ
  deque_home d = (worker_view d.worker).home

  abbrev pub pushed_through : TaskStealer T → List T
  pushed_through s = (view s.pass).put

  abbrev pub taken_through : TaskStealer T → List T
  taken_through s = (view s.pass).taken

  abbrev pub stealer_home : TaskStealer T → List ℕ
  stealer_home s = (view s.pass).home

  abbrev pub deque_of : Holder T → TaskDeque T
  deque_of h = h.deque

  abbrev pub others_of : Holder T → List (TaskStealer T)
  others_of h = h.others.items

  abbrev pub pushed_by : Holder T → List T
  pushed_by h = pushed_to (deque_of h) ++ flat_map pushed_through (others_of h)

  abbrev pub taken_by : Holder T → List T
  taken_by h = taken_from (deque_of h) ++ flat_map taken_through (others_of h)

  abbrev pub IsStealerOf : List ℕ → TaskStealer T → Type 0
  IsStealerOf home s = stealer_home s ≡ home

  -- the holder's tasks are of this home
  abbrev pub IsHolderOf : List ℕ → Holder T → Type 0
  IsHolderOf home h = (deque_home (deque_of h) ≡ home) × Every (IsStealerOf home) (others_of h)

-- one of the stealers stole, and no other
module _ {T : Type 0} where
  abbrev pub IsSameBut : ℕ → List (TaskStealer T) → List (TaskStealer T) → Type 0
  IsSameBut other old new = (k : ℕ) → k ≢ other → get_elem? new k ≡ get_elem? old k

  -- its deque was empty at one moment
  abbrev pub FoundEmpty : List (TaskStealer T) → ℕ → Type 0
  FoundEmpty ss other = (s : TaskStealer T) → get_elem? ss other ≡ some s → WasEmpty (view s.pass)

-- which deques a holder has parts of
module _ {T : Type 0} where
  abbrev pub deque_part : TaskDeque T → DequePart
  deque_part d = (worker_deque d.worker, (worker_view d.worker).parts)

  abbrev pub stealer_part : TaskStealer T → StealerPart
  stealer_part s = (s.victim, (stealer_deque s.thief, (view s.pass).parts))

  abbrev pub stealer_parts : Holder T → List StealerPart
  stealer_parts h = map stealer_part (others_of h)

  abbrev pub holder_part : Holder T → DequePart × List StealerPart
  holder_part h = (deque_part (deque_of h), stealer_parts h)

  abbrev pub IsWholeDeque : TaskDeque T → Type 0
  IsWholeDeque d = (deque_part d).1 ≡ whole

  abbrev pub victim_of : TaskStealer T → ℕ
  victim_of s = s.victim

  -- the numbers of those that a holder can steal from
  abbrev pub victims : Holder T → List ℕ
  victims h = map victim_of (others_of h)

-- these holders have all deques, and all stealers of them
abbrev pub AreWhole : List (DequePart × List StealerPart) → Type 0
AreWhole parts = IsAll (map (λ p. p.0) parts) (flat_map (λ p. p.1) parts)

-- nothing was pushed or taken yet, and the tasks are to be of this home
module _ {T : Type 0} (home : List ℕ) where
  abbrev pub IsUnusedStealer : TaskStealer T → Type 0
  IsUnusedStealer s = (pushed_through s ≡ []) × (taken_through s ≡ []) × (stealer_home s ≡ home)

  abbrev pub IsUnusedDeque : TaskDeque T → Type 0
  IsUnusedDeque d = (pushed_to d ≡ []) × (taken_from d ≡ []) × (deque_home d ≡ home)

  abbrev pub IsUnusedHolder : Holder T → Type 0
  IsUnusedHolder h = IsUnusedDeque (deque_of h) × Every IsUnusedStealer (others_of h)

  -- and there is no stealer yet
  abbrev pub IsLoneHolder : Holder T → Type 0
  IsLoneHolder h = IsWholeDeque (deque_of h) × IsUnusedDeque (deque_of h) × (others_of h ≡ [])

-- the parts that stealers have
abbrev pub parts_lent : {T : Type 0} → List (Holder T) → ℕ
parts_lent hs = total (λ s. s.1.1) (flat_map stealer_parts hs)

-- all is here, beside these stealers that no holder has yet, and nothing was pushed or taken
pub record AreReady {T : Type 0} (home : List ℕ)
    (hs : List (Holder T)) (loose : List StealerPart) : Type 0 where
  pub all : IsAll (map (λ h. deque_part (deque_of h)) hs) (flat_map stealer_parts hs ++ loose)
  pub unused : Every (IsUnusedHolder home) hs
