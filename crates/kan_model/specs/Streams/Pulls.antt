-- How many answers a goal can have within a number of pulls, and within how many pulls the answer
-- of a derivation comes.
use Rattle.std.specs.Prelude.{ℕ, zero, suc, ◌+◌, ◌*◌, ◌^◌, Some, None, slice_get}
use Rattle.kan_model.specs.Programs.Goals.{Goal, Program}
use Rattle.kan_model.specs.Meaning.Derivations.{Derivation}

-- a bound on the answers of a goal, where after_pull bounds those of a goal that is run behind one
-- pull
abbrev pub answers_by : (Goal → ℕ) → Program → Goal → ℕ
answers_by after_pull program (Goal.prim p) = 1
answers_by after_pull program Goal.succeed = 1
answers_by after_pull program Goal.fail = 0
answers_by after_pull program (Goal.both g h) =
    answers_by after_pull program g * answers_by after_pull program h
answers_by after_pull program (Goal.either g h) =
    answers_by after_pull program g + answers_by after_pull program h
answers_by after_pull program (Goal.fresh k g) = answers_by after_pull program g
answers_by after_pull program (Goal.later g) = after_pull g
answers_by after_pull program (Goal.call r args) =
    elim (slice_get program.relations r) [ Some rel ↦ after_pull rel.body | None ↦ 0 ]

-- the same of a goal that is run behind the first of d pulls: none where there is no pull
abbrev pub answers_behind : Program → ℕ → Goal → ℕ
answers_behind program zero g = 0
answers_behind program (suc d) g = answers_by (answers_behind program d) program g

-- a bound on the answers of a goal within d pulls
abbrev pub answers_within : Program → Goal → ℕ → ℕ
answers_within program g d = answers_by (answers_behind program d) program g

-- the answer of the first goal within b1 pulls and of the second within b2 gives one of both within
-- these
abbrev pub both_pulls : ℕ → ℕ → ℕ → ℕ
both_pulls answers b1 b2 = 2 ^ answers * (b1 + 2 * b2 + 1)

abbrev pub and_first : Program → Goal → ℕ → ℕ → ℕ
and_first program g b1 b2 = both_pulls (answers_within program g b1) b1 b2

-- within how many pulls the answer comes that a derivation of a goal stands for
abbrev pub pulls_for : Program → Goal → Derivation → ℕ
pulls_for program (Goal.both g h) (Derivation.both d e) =
    and_first program g (pulls_for program g d) (pulls_for program h e)
pulls_for program (Goal.either g h) (Derivation.left d) = 2 * pulls_for program g d
pulls_for program (Goal.either g h) (Derivation.right d) = 2 * pulls_for program h d + 1
pulls_for program (Goal.fresh k g) (Derivation.choose us d) = pulls_for program g d
pulls_for program (Goal.later g) (Derivation.enter d) = 1 + pulls_for program g d
pulls_for program (Goal.call r args) (Derivation.enter d) = elim (slice_get program.relations r) [
  | Some rel ↦ 1 + pulls_for program rel.body d
  | None ↦ 0
]
pulls_for _ _ _ = 0
