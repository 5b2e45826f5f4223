-- Replacements that are looked up and applied.
use Rattle.std.proofs.Common.{◌≡◌, ℕ, ◌+◌, ◌<◌, List, [], ◌∷◌, ◌++◌, map, length, get_or, drop, refl, sym, ◌∙◌, ap, eqb, true, false, drop-cons, add-one, Option, Some, option_map}
use Rattle.std.specs.Prelude.{if◌then◌else◌}
use Rattle.kan_terms.specs.Tree.{Tm}
use Rattle.kan_terms.specs.Terms.{tree}
use Rattle.kan_model.specs.Stores.Solve.{Replacement, image, put_first}
use Rattle.kan_model.specs.Stores.Solve as spec
use Rattle.std.proofs.lemmas.List.{map_push}
use Rattle.kan_solving.specs.declared.solving.Replaced.{Replaced}
use Rattle.kan_solving.specs.Solving.{replaced_by, put_all_first}

-- the image by the replacements from an index on
abbrev pub image_from : ℕ → List Replaced → ℕ → Tm
image_from i rs v = image (map replaced_by (drop i rs)) v

image_cons : (rs : List Replaced) (i v : ℕ) (r : Replaced) → i < length rs → r ≡ get_or rs i r →
    image_from i rs v ≡ (if eqb r.var v then tree r.by else image_from (i + 1) rs v)
image_cons rs i v r below here = rw (drop-cons rs i r, ← here, add-one) refl

-- the one at the index replaces the variable
pub image_here : (rs : List Replaced) (i v : ℕ) (r : Replaced) → i < length rs → r ≡ get_or rs i r → eqb r.var v ≡ true → image_from i rs v ≡ tree r.by
image_here rs i v r below here same = image_cons rs i v r below here ∙ ap (λ b. if b then tree r.by else image_from (i + 1) rs v) same

-- the one at the index replaces another variable
pub image_further : (rs : List Replaced) (i v : ℕ) (r : Replaced) → i < length rs → r ≡ get_or rs i r → eqb r.var v ≡ false → image_from i rs v ≡ image_from (i + 1) rs v
image_further rs i v r below here other = image_cons rs i v r below here ∙ ap (λ b. if b then tree r.by else image_from (i + 1) rs v) other

-- the last replacement goes in front first
pub finished-push : (ms : Replacement) (m : spec.Replaced) (r : Option Replacement) → put_all_first (ms ++ m ∷ []) r ≡ put_all_first ms (option_map (put_first m.var m.by) r)
finished-push [] m r = refl
finished-push (n ∷ ms) m r = ap (option_map (put_first n.var n.by)) (finished-push ms m r)

-- the last of the replacements taken and put in front
pub finish_step : (made rest answer longer : List Replaced) (last : Replaced) (whole : Option Replacement) →
    made ≡ rest ++ last ∷ [] → map replaced_by longer ≡ put_first last.var (tree last.by) (map replaced_by answer) →
    put_all_first (map replaced_by made) (Some (map replaced_by answer)) ≡ whole → put_all_first (map replaced_by rest) (Some (map replaced_by longer)) ≡ whole
finish_step made rest answer longer last whole split put kept =
    ap (λ a. put_all_first (map replaced_by rest) (Some a)) put ∙ sym (finished-push (map replaced_by rest) (replaced_by last) (Some (map replaced_by answer)))
    ∙ ap (λ ms. put_all_first ms (Some (map replaced_by answer))) (sym (ap (map replaced_by) split ∙ map_push replaced_by rest last)) ∙ kept
