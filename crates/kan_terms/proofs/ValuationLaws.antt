-- The laws of valuations.
use Rattle.std.specs.Prelude.{◌≡◌, ℕ, zero, suc, ◌<◌, List, [], ◌∷◌, ◌++◌, length, refl}
use Rattle.std.proofs.Common.{arith}
use Rattle.kan_terms.specs.Tree.{Gd}
use Rattle.kan_terms.specs.Valuations.{value_at}

-- ground terms behind a valuation change none of its variables
pub value_at-append : (valuation more : List Gd) (x : ℕ) → x < length valuation → value_at (valuation ++ more) x ≡ value_at valuation x
value_at-append [] more x within = absurd (omega arith)
value_at-append (first ∷ rest) more zero within = refl
value_at-append (first ∷ rest) more (suc x) within = value_at-append rest more x (omega arith)
