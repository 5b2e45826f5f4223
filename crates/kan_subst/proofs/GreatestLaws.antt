-- The greatest variable of bindings that are gone through from the last one on.
use Rattle.std.proofs.Common.{◌≡◌, ℕ, suc, ◌+◌, ◌-◌, ◌<◌, ◌≤◌, List, [], map, length, get_or, drop, sym, ◌∙◌, ap, drop-cons, Option, Some, None, refl, arith}
use Rattle.kan_terms.specs.Terms.{tree}
use Rattle.kan_terms.specs.Greatest.{greater, greatest_in, greatest_bound}
use Rattle.kan_subst.specs.Meaning.{pair}
use Rattle.kan_subst.specs.declared.list_bindings.Binding.{Binding}

-- one more at the front
pub greatest_step : (bs : List Binding) (left : ℕ) (b : Binding) (rest : Option ℕ) → 0 < left → left ≤ length bs → b ≡ get_or bs (left - 1) b → rest ≡ greatest_bound (map pair (drop left bs)) →
    greater (greater (Some b.var) (greatest_in (tree b.term))) rest ≡ greatest_bound (map pair (drop (left - 1) bs))
greatest_step bs left b rest above within here kept =
    let next : suc (left - 1) ≡ left = omega (arith, above) in
    ap (greater (greater (Some b.var) (greatest_in (tree b.term)))) (kept ∙ ap (λ i. greatest_bound (map pair (drop i bs))) (sym next))
    ∙ sym (rw (drop-cons bs (left - 1) b (omega (arith, above, within)), ← here) refl)
