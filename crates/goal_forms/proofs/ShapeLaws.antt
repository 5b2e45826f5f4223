-- The elements of lists, counted from the first on.
use Rattle.std.proofs.Common.{◌≡◌, ℕ, sym, ap, Option, Some, None}
use Rattle.kan_grammar.specs.Texts.Sited.{Sited}
use Rattle.goal_forms.specs.Shapes.{only, two}

-- a list of one is a pair before an end
pub only-is : (s a : Sited) → Some a ≡ only s → (at : ℕ) × (end : ℕ) × (s ≡ Sited.pair at a (Sited.nil end))
only-is (Sited.name at s) a e = cc
only-is (Sited.text at n) a e = cc
only-is (Sited.num at n) a e = cc
only-is (Sited.bool at b) a e = cc
only-is (Sited.nil at) a e = cc
only-is (Sited.pair at b (Sited.name end s)) a e = cc
only-is (Sited.pair at b (Sited.text end n)) a e = cc
only-is (Sited.pair at b (Sited.num end n)) a e = cc
only-is (Sited.pair at b (Sited.bool end c)) a e = cc
only-is (Sited.pair at b (Sited.nil end)) a e = (at, end, cc)
only-is (Sited.pair at b (Sited.pair end c d)) a e = cc

-- a list of two is a pair before a list of one
pub two-is : (s a d : Sited) → Some (a, d) ≡ two s → (at : ℕ) × (later : ℕ) × (end : ℕ) × (s ≡ Sited.pair at a (Sited.pair later d (Sited.nil end)))
two-is (Sited.name at s) a d e = cc
two-is (Sited.text at n) a d e = cc
two-is (Sited.num at n) a d e = cc
two-is (Sited.bool at b) a d e = cc
two-is (Sited.nil at) a d e = cc
two-is (Sited.pair at b (Sited.name end s)) a d e = cc
two-is (Sited.pair at b (Sited.text end n)) a d e = cc
two-is (Sited.pair at b (Sited.num end n)) a d e = cc
two-is (Sited.pair at b (Sited.bool end c)) a d e = cc
two-is (Sited.pair at b (Sited.nil end)) a d e = cc
two-is (Sited.pair at b (Sited.pair later c (Sited.name end s))) a d e = cc
two-is (Sited.pair at b (Sited.pair later c (Sited.text end n))) a d e = cc
two-is (Sited.pair at b (Sited.pair later c (Sited.num end n))) a d e = cc
two-is (Sited.pair at b (Sited.pair later c (Sited.bool end f))) a d e = cc
two-is (Sited.pair at b (Sited.pair later c (Sited.nil end))) a d e = (at, later, end, ap (λ (p : Option (Sited × Sited)). Sited.pair at (left p) (Sited.pair later (right p) (Sited.nil end))) (sym e))
  where
    left : Option (Sited × Sited) → Sited
    left None = a
    left (Some p) = p.0

    right : Option (Sited × Sited) → Sited
    right None = d
    right (Some p) = p.1
two-is (Sited.pair at b (Sited.pair later c (Sited.pair end f g))) a d e = cc
