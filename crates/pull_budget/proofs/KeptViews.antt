-- What one seat's step leaves of the rule.
use Rattle.std.proofs.Common.{◌≡◌, ◌≢◌, ℕ, zero, suc, length, ◌+◌, ◌^◌, ◌<◌, ◌≤◌, List, [], ◌∷◌, ◌++◌, set, true, sym, ap, ◌∙◌, subst, ⊎_elim, arith}
use Rattle.std.specs.Prelude.{slice_set}
use mathlib.Core.Option.{some, some-injective, some-ne-none}
use native.Mathlib.Decide.{ℕ_discrete}
use lib.ListN.{get_elem?}
use Rattle.atomic_table.specs.Table.{State}
use Rattle.atomic_table.proofs.Lists.{at_set, set_here, set_else, at_snoc, at_longer}
use Rattle.pull_budget.specs.declared.rule.View.{View}
use Rattle.pull_budget.specs.Rule.{Words, word_list, Fits, Pulls, IsKept, Kept}

at_below : (views : List View) (by : ℕ) (v : View) → get_elem? views by ≡ some v → by < length views
at_below [] by v at = absurd (some-ne-none v (sym at))
at_below (u ∷ us) zero v at = omega arith
at_below (u ∷ us) (suc by) v at = let p = at_below us by v at in omega (arith, p)

-- each seat's view, with its number
abbrev pub Each : (ℕ → View → Type 0) → List View → Type 0
Each F views = (by : ℕ) (v : View) → get_elem? views by ≡ some v → F by v

-- and each but one
abbrev pub Others : (ℕ → View → Type 0) → ℕ → List View → Type 0
Others F id views = (by : ℕ) (v : View) → by ≢ id → get_elem? views by ≡ some v → F by v

pub each_set : (F : ℕ → View → Type 0) (views : List View) (id : ℕ) (w : View) → Others F id views → F id w → Each F (set views id w)
each_set F views id w others mine by v at = ⊎_elim
    (λ (x : (by ≡ id) × (w ≡ v)). subst (λ (y : ℕ × View). F y.0 y.1) (λ i. (sym x.0 i, x.1 i)) mine)
    (λ (x : (by ≢ id) × (get_elem? views by ≡ some v)). others by v x.0 x.1)
    (at_set views id by w v at)

-- the seat that pulls is still there
pub pulls_set : (views : List View) (puller id : ℕ) (v w : View) → get_elem? views id ≡ some v → w.puller ≡ v.puller → Pulls views puller → Pulls (set views id w) puller
pulls_set views puller id v w at same h = go (ℕ_discrete puller id)
  where
    go : Dec (puller ≡ id) → Pulls (set views id w) puller
    go (yes p) = record {
      view = w;
      here = ap (get_elem? (set views id w)) p ∙ set_here views id w (at_below views id v at);
      puller = same ∙ ap (λ (x : View). x.puller) (some-injective v h.view (sym at ∙ ap (get_elem? views) (sym p) ∙ h.here)) ∙ h.puller;
    }
    go (no n) = record { view = h.view; here = set_else views id puller w n ∙ h.here; puller = h.puller }

pub pulls_longer : (views more : List View) (puller : ℕ) → Pulls views puller → Pulls (views ++ more) puller
pulls_longer views more puller h = record { view = h.view; here = at_longer views more puller h.view h.here; puller = h.puller }

-- where the seat that pulls steps, no other pulls
pub other_hired : (s : State (Unit {0}) View) (h : Kept s) (id : ℕ) (v : View) → get_elem? s.views id ≡ some v → v.puller ≡ true → (by : ℕ) (u : View) → by ≢ id → get_elem? s.views by ≡ some u → u.puller ≢ true
other_hired s h id v at p by u apart at' q = apart (((h.fits by u at').own q).0 ∙ sym ((h.fits id v at).own p).0)

-- one word and one view change
pub change_fits : (s : State (Unit {0}) View) (h : Kept s) (ws : Words) (word n id : ℕ) (v w : View) → get_elem? s.views id ≡ some v → w.puller ≡ v.puller → slice_set s.words word n ≡ word_list ws
    → Others (Fits ws h.puller) id s.views → Fits ws h.puller id w → ws.begun ≤ ws.pulls + ws.bound → ws.pulls ≤ 2 ^ 62
    → IsKept (slice_set s.words word n) (slice_set s.views id w)
change_fits s h ws word n id v w at same listed others mine bound low = record {
  words = ws;
  puller = h.puller;
  listed = listed;
  pulling = pulls_set s.views h.puller id v w at same h.pulling;
  fits = each_set (Fits ws h.puller) s.views id w others mine;
  bound = bound;
  low = low;
}

-- the words stay, and one view becomes another
unfoldable pub change_keeps : (listed : List ℕ) (views : List View) (h : IsKept listed views) (id : ℕ) (v w : View) → get_elem? views id ≡ some v → w.puller ≡ v.puller → Fits h.words h.puller id w → IsKept listed (set views id w)
change_keeps listed views h id v w at same mine = record {
  words = h.words;
  puller = h.puller;
  listed = h.listed;
  pulling = pulls_set views h.puller id v w at same h.pulling;
  fits = each_set (Fits h.words h.puller) views id w (λ by u apart at'. h.fits by u at') mine;
  bound = h.bound;
  low = h.low;
}

-- and one more view comes
pub push_keeps : (listed : List ℕ) (views : List View) (w : View) (h : IsKept listed views) → ((by : ℕ) → Fits h.words h.puller by w) → IsKept listed (views ++ w ∷ [])
push_keeps listed views w h fits = record {
  words = h.words;
  puller = h.puller;
  listed = h.listed;
  pulling = pulls_longer views (w ∷ []) h.puller h.pulling;
  fits = λ by u at. ⊎_elim (λ x. h.fits by u x) (λ (is : w ≡ u). subst (Fits h.words h.puller by) is (fits by)) (at_snoc views w u by at);
  bound = h.bound;
  low = h.low;
}
