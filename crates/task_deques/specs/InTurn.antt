-- Each holder has its stealers in turn.
use Rattle.std.specs.Prelude.{◌≡◌, ℕ, ◌-◌, List, length}
use mathlib.Core.Option.{some}
use lib.ListN.{get_elem?}
use Rattle.task_deques.specs.Holders.{Holder, victims}
use Rattle.task_deques.specs.Turns.{turns, given_to}

module _ {T : Type 0} where
  -- those below `own` have all their stealers, `own` has so many, and the others none
  abbrev pub AreGiven : ℕ → ℕ → ℕ → List (Holder T) → Type 0
  AreGiven count own given hs = (number : ℕ) (h : Holder T) → get_elem? hs number ≡ some h
      → victims h ≡ turns count number (given_to count own given number)

  -- each has a stealer for every other holder, beginning with the next higher number
  abbrev pub AreInTurn : List (Holder T) → Type 0
  AreInTurn hs = (number : ℕ) (h : Holder T) → get_elem? hs number ≡ some h
      → victims h ≡ turns (length hs) number (length hs - 1)
