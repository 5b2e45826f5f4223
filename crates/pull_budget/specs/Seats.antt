-- A seat of a budget.
use Rattle.std.specs.Prelude.{◌≡◌, ℕ}
use Rattle.pull_budget.specs.declared.budget.Budget.{Budget}
use Rattle.pull_budget.specs.declared.budget.BudgetSeat.{BudgetSeat}
use Rattle.pull_budget.specs.declared.rule.View.{View}

-- what the seat has done and seen
abbrev pub view : BudgetSeat → View
view s = s.seat.me.0

-- how far tickets of a budget may run ahead of its pulls
abbrev pub ahead_of : Budget → ℕ
ahead_of b = b.ahead

-- the seat is one of this budget
abbrev pub IsSeatOf : Budget → BudgetSeat → Type 0
IsSeatOf b s = (s.seat.table_id ≡ b.table.shared.table_id) × ((view s).ahead ≡ ahead_of b)
