-- A list of one element more than a list at the top may have.
use Rattle.std.specs.Prelude.{◌≡◌, ℕ, List, [], ◌∷◌, replicate, flat_map, refl}
use Rattle.kan_refusals.specs.declared.refusals.Refusal.{Refusal}
use Rattle.kan_grammar.specs.Data.Faults.{refused, fault}
use Rattle.kan_grammar.proofs.Data.Examples.Readings.{read_ascii}

-- truth values in a row
truths : ℕ → List ℕ
truths n = flat_map {X = ℕ} (λ k. 35 ∷ 116 ∷ []) (replicate n 0)

one_too_many : read_ascii (40 ∷ truths 2049) ≡ refused (fault 4097 Refusal.TooDeep)
unfolding read_ascii truths
one_too_many = refl
