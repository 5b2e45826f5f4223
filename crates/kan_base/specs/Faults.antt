-- Counts of faults.
use Rattle.std.specs.Prelude.{ℕ, ◌+◌, ◌-◌, ◌^◌, nat_lt, Result, Ok, Err, if◌then◌else◌}

-- the greatest value of a count, at which it stays
abbrev pub greatest_count : ℕ
greatest_count = 2 ^ 64 - 1

-- one more, where a count stays at its greatest value
abbrev pub one_more : ℕ → ℕ
one_more n = if nat_lt n greatest_count then n + 1 else n

-- how many calls have failed after a call: one more where it failed, else as many as before
abbrev pub faults_after : {A E : Type 0} → Result A E → ℕ → ℕ
faults_after (Ok x) faults = faults
faults_after (Err e) faults = one_more faults
