-- The data at the first places of some, and at one more.
use Rattle.std.proofs.Common.{◌≡◌, ℕ, suc, ◌+◌, ◌<◌, List, [], ◌∷◌, ◌++◌, length, map, take}
use Rattle.std.proofs.Common.{get_or, ◌∙◌, ap, arith}
use Rattle.std.proofs.Math.Seq.{take-suc}
use Rattle.std.proofs.lemmas.List.{map-append}
use Rattle.kan_grammar.specs.Texts.Sited.{Sited}
use Rattle.goal_forms.specs.Parts.{site_at}

pub sites_next : (ds : List Sited) (forms : List ℕ) (i : ℕ) → i < length forms →
    map (site_at ds) (take (i + 1) forms)
    ≡ map (site_at ds) (take i forms) ++ site_at ds (get_or forms i 0) ∷ []
sites_next ds forms i here =
    let step : i + 1 ≡ suc i = omega arith in
    ap (λ n. map (site_at ds) (take n forms)) step
    ∙ ap (map (site_at ds)) (take-suc forms i 0 here)
    ∙ map-append (site_at ds) (take i forms) (get_or forms i 0 ∷ [])
