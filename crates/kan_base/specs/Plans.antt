-- Plans of which calls fail.
use Rattle.std.specs.Prelude.{ℕ, ◌==◌, Bool, List}
use Rattle.std.specs.List.{list_any}
use Rattle.kan_base.specs.Faults.{one_more}

-- the numbers of the calls that are to fail, how many calls were made, and how many failed
pub record CallPlan : Type 0 where
  pub fails : List ℕ
  pub calls : ℕ
  pub faults : ℕ

-- no call was made yet
abbrev pub new_plan : List ℕ → CallPlan
new_plan fails = record { fails = fails; calls = 0; faults = 0 }

-- the next call is to fail
abbrev pub is_due : CallPlan → Bool
is_due plan = list_any (λ number. number == plan.calls) plan.fails

-- the plan after a call that succeeded
abbrev pub after_success : CallPlan → CallPlan
after_success plan = record plan { calls = one_more plan.calls }

-- the plan after a call that failed
abbrev pub after_failure : CallPlan → CallPlan
after_failure plan = record plan { calls = one_more plan.calls; faults = one_more plan.faults }
