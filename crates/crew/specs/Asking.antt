-- What a seat that doesn't pull did on a budget.
use Rattle.std.specs.Prelude.{◌≡◌, ℕ, ◌+◌, ◌≤◌}
use Rattle.pull_budget.specs.declared.rule.View.{View}

-- it asked, and won so many tickets; it neither pulled nor told others to stop
pub record HasAsked (before after : View) (tickets : ℕ) : Type 0 where
  pub won : after.won ≡ before.won + tickets
  pub loads : before.loads ≤ after.loads
  pub puller : after.puller ≡ before.puller
  pub ahead : after.ahead ≡ before.ahead
  pub made : after.made ≡ before.made
  pub ender : after.ender ≡ before.ender

-- whatever it won before, to the number n, is won afterwards to this number
abbrev pub AsksOn : View → View → ℕ → ℕ → Type 0
AsksOn before after n tickets =
    (start : View) → HasAsked start before n → HasAsked start after tickets
