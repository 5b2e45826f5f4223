-- What a worker did.
use Rattle.std.specs.Prelude.{◌≡◌, ℕ, ◌+◌, Bool, true, false, List, [], ◌∷◌, ◌++◌, map}
use Rattle.std.specs.Prelude.{IsPermutation}
use Rattle.kan_model.specs.Programs.Goals.{Program}
use Rattle.kan_model.specs.Streams.Stream as model
use Rattle.kan_model.specs.Streams.Running.{force}
use Rattle.task_deques.specs.Holders.{Holder, holder_part, pushed_by, taken_by}
use Rattle.crew.specs.declared.tasks.Offered.{Offered}
use Rattle.crew.specs.Offers.{tail_of, offered_for, tree_of, IsPartOf, Offers}

-- those that are offered once a suspension of a program is forced: those for the tail of its force
abbrev pub offered_behind : Program → model.Thunk → List model.Thunk
offered_behind p t = offered_for (tail_of (force p t))

module _ {St : Type 0} where
  -- a task was forced, and some of those behind it were pushed; or it was dropped, and nothing was
  abbrev pub IsHandled : Program → Offered St → Holder (Offered St) → Holder (Offered St) → Bool →
      Type 0
  IsHandled p task before after true = Offers before after (offered_behind p (tree_of task))
  IsHandled p task before after false = after ≡ before

  -- tasks that were taken one after the other, and those that were pushed meanwhile: so many were
  -- forced, after each of which some of those behind it were pushed, and so many were dropped
  pub data Serves (p : Program) : List (Offered St) → List (Offered St) → ℕ → ℕ → Type 0 where
    nothing : Serves p [] [] 0 0
    forces : {took gave : List (Offered St)} {forced dropped : ℕ} (task : Offered St)
        (given : List (Offered St)) →
        Serves p took gave forced dropped →
        IsPartOf (map tree_of given) (offered_behind p (tree_of task)) →
        Serves p (took ++ task ∷ []) (gave ++ given) (forced + 1) dropped
    drops : {took gave : List (Offered St)} {forced dropped : ℕ} (task : Offered St) →
        Serves p took gave forced dropped → Serves p (took ++ task ∷ []) gave forced (dropped + 1)

  -- of the tasks that a holder took so many were forced and so many were dropped, and nothing was
  -- pushed but what is offered behind those that were forced
  pub record HasServed (p : Program) (before after : Holder (Offered St))
      (forced dropped : ℕ) : Type 0 where
    pub took : List (Offered St)
    pub gave : List (Offered St)
    pub serves : Serves p took gave forced dropped
    pub taken : IsPermutation (taken_by after) (taken_by before ++ took)
    pub pushed : IsPermutation (pushed_by after) (pushed_by before ++ gave)
    pub part : holder_part after ≡ holder_part before

  -- whatever was served before, with the numbers n and m, is served afterwards with these
  abbrev pub ServesOn : Program → Holder (Offered St) → Holder (Offered St) → ℕ → ℕ → ℕ → ℕ → Type 0
  ServesOn p before after n m forced dropped =
      (start : Holder (Offered St)) → HasServed p start before n m →
      HasServed p start after forced dropped
