-- The rule over the words of a budget and what its seats know.
use Rattle.std.specs.Prelude.{◌≡◌, ℕ, ◌+◌, ◌≤◌, ◌^◌, List, [], ◌∷◌, true, false, cond}
use mathlib.Core.Option.{some}
use lib.ListN.{get_elem?}
use Rattle.atomic_table.specs.Table.{State}
use Rattle.pull_budget.specs.declared.rule.View.{View}

pub record Words : Type 0 where
  pub pulls : ℕ
  pub begun : ℕ
  pub stop : ℕ
  pub bound : ℕ

abbrev pub word_list : Words → List ℕ
word_list w = w.pulls ∷ w.begun ∷ w.stop ∷ w.bound ∷ []

-- the one seat that pulls made all pulls, set stop where that is set, and knows the bound
pub record FitsPuller (w : Words) (v : View) : Type 0 where
  pub made : v.made ≡ w.pulls
  pub ahead : v.ahead ≡ w.bound
  pub stop : w.stop ≡ cond v.ender 1 0

-- no other seat pulls or sets stop
pub record FitsHired (v : View) : Type 0 where
  pub made : v.made ≡ 0
  pub ender : v.ender ≡ false

-- what seat number `by` knows is so; pulls, begun and stop never fall
pub record Fits (w : Words) (puller by : ℕ) (v : View) : Type 0 where
  pub own : v.puller ≡ true → (by ≡ puller) × FitsPuller w v
  pub other : v.puller ≡ false → FitsHired v
  pub ahead : v.ahead ≤ w.bound
  pub seen : v.seen ≤ w.pulls
  pub read : v.read ≤ w.begun
  pub found : v.found ≤ w.begun
  pub set : v.set ≡ true → w.stop ≡ 1

-- the seat with this number is there, and pulls
pub record Pulls (views : List View) (number : ℕ) : Type 0 where
  pub view : View
  pub here : get_elem? views number ≡ some view
  pub puller : view.puller ≡ true

-- no more was begun than was pulled and may run ahead
pub record IsKept (numbers : List ℕ) (views : List View) : Type 0 where
  pub words : Words
  pub puller : ℕ
  pub listed : numbers ≡ word_list words
  pub pulling : Pulls views puller
  pub fits : (by : ℕ) (v : View) → get_elem? views by ≡ some v → Fits words puller by v
  pub bound : words.begun ≤ words.pulls + words.bound
  pub low : words.pulls ≤ 2 ^ 62

abbrev pub Kept : State (Unit {0}) View → Type 0
Kept s = IsKept s.words s.views
