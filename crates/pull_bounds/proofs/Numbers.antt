-- Products and powers of two.
use Rattle.std.proofs.Common.{◌≡◌, ℕ, suc, ◌+◌, ◌*◌, ◌^◌, ◌≤◌, arith, ap, sym, ◌∙◌}
use Rattle.std.proofs.lemmas.Nat.{pow_pos, pow-add}
use Rattle.std.proofs.Math.Nat.{mul_assoc, mul_comm, mul-suc, pow-suc, mul-le-mul, mul-le-mul_right}
use Rattle.std.proofs.Math.Pow.{pow_mono}

-- one doubling more
pub pow-suc_times : (n c : ℕ) → 2 ^ suc n * c ≡ 2 * (2 ^ n * c)
pow-suc_times n c = ap (λ k. k * c) (pow-suc 2 n ∙ mul_comm (2 ^ n) 2) ∙ mul_assoc 2 (2 ^ n) c

pub pow_times_more : (n c : ℕ) → c ≤ 2 ^ n * c
pow_times_more n c = omega (arith, mul-le-mul_right {m = 1} {n = 2 ^ n} c (pow_pos n))

-- what the heads of a stream give is there within the bound
pub heads_fit : (n m b1 b2 : ℕ) → n ≤ m → 2 ^ n * (b2 + 1) ≤ 2 ^ m * (b1 + 2 * b2 + 1)
heads_fit n m b1 b2 le = mul-le-mul (pow_mono le) (omega arith)

-- and so is what comes after one pull, behind the heads
pub later_fits : (n m k : ℕ) → 2 ^ n * suc (2 ^ m * k) ≤ 2 ^ (n + m) * suc k
later_fits n m k =
    omega (arith, mul-suc (2 ^ n) (2 ^ m * k), mul-suc (2 ^ (n + m)) k, sym (mul_assoc (2 ^ n) (2 ^ m) k) ∙ ap (λ p. p * k) (sym (pow-add 2 n m)), pow_mono {i = n} {j = n + m} (omega arith))
