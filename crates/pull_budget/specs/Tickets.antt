-- What a call for a ticket did, by its answer.
use Rattle.std.specs.Prelude.{◌≡◌, ◌≢◌, ℕ, ◌+◌, ◌<◌, ◌≤◌}
use Rattle.pull_budget.specs.declared.rule.View.{View}
use Rattle.pull_budget.specs.declared.budget.Denied.{Denied}
use Rattle.pull_budget.specs.declared.budget.Denied.TheVariants.{Full, Lost}
use Rattle.pull_budget.specs.Views.{after_seeing, after_reading, after_try}

-- both words were loaded: pulls, and then begun
abbrev pub after_looking : View → ℕ → ℕ → View
after_looking v seen begun = after_reading (after_seeing v seen) begun

-- there was room, and the one exchange won
pub record IsWon (before after : View) : Type 0 where
  pub view : after ≡ after_try (after_looking before after.seen after.read) after.read
  pub room : after.read < after.seen + before.ahead
  pub loads : after.loads ≡ before.loads + 2
  pub tries : after.tries ≡ before.tries + 1
  pub won : after.won ≡ before.won + 1

-- there was no room in what was loaded
pub record IsFull (before after : View) (begun seen : ℕ) : Type 0 where
  pub view : after ≡ after_looking before seen begun
  pub none : seen + before.ahead ≤ begun
  pub loads : after.loads ≡ before.loads + 2
  pub tries : after.tries ≡ before.tries
  pub won : after.won ≡ before.won

-- there was room, and the one exchange found another number
pub record IsLost (before after : View) (found : ℕ) : Type 0 where
  pub view : after ≡ after_try (after_looking before after.seen after.read) found
  pub room : after.read < after.seen + before.ahead
  pub other : found ≢ after.read
  pub loads : after.loads ≡ before.loads + 2
  pub tries : after.tries ≡ before.tries + 1
  pub won : after.won ≡ before.won

abbrev pub IsDenied : View → View → Denied → Type 0
IsDenied before after (Full begun seen) = IsFull before after begun seen
IsDenied before after (Lost found) = IsLost before after found
