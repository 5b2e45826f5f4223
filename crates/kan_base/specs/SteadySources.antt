-- The source of one text as clauses see it.
use Rattle.std.specs.Prelude.{ℕ, List}

-- the text that every place holds, and what is left of the opened one
pub record SteadyState : Type 0 where
  pub text : List ℕ
  pub left : List ℕ
