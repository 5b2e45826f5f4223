-- The solver goes on: what it answers for further equations behind an answer.
use Rattle.std.proofs.Common.{◌≡◌, ℕ, Bool, true, false, eqb, List, [], ◌∷◌, ◌++◌, map, Option, Some, None, option_map, sym, ap, subst, refl, ◌∙◌, if◌then◌else◌}
use Rattle.std.proofs.lemmas.List.{map-append}
use Rattle.kan_terms.specs.Tree.{Tm}
use Rattle.kan_terms.proofs.TreeLaws.{fill-fill, fill-same, fill-leaf}
use Rattle.kan_model.specs.Stores.Store.{Equation}
use Rattle.kan_model.specs.Stores.Solve.{Replacement, image, apply, replace_sides, put_first, Solves, solve_by}
use Rattle.kan_model.specs.Stores.Composition.{apply_sides, compose, ComposeIsBoth, go_on, SolverGoesOn}
use Rattle.kan_model.proofs.Solving.SolveLaws.{solve_by-Solves, Solves-one_answer}
use Rattle.kan_model.proofs.Solving.UnifierLaws.{apply-put_first}

pub image-compose : (s r : Replacement) (v : ℕ) → image (compose s r) v ≡ apply r (image s v)
image-compose [] r v = refl
image-compose (p ∷ s) r v = by (eqb p.var v) (image-compose s r v)
  where
    by : (c : Bool) → image (compose s r) v ≡ apply r (image s v) → (if c then apply r p.by else image (compose s r) v) ≡ apply r (if c then p.by else image s v)
    by true ih = refl
    by false ih = ih

pub compose_is_both : ComposeIsBoth
compose_is_both s r t = fill-same (image (compose s r)) (λ v. apply r (image s v)) (image-compose s r) t ∙ sym (fill-fill (image r) (image s) t)

-- a replacement in front goes in front of the two
compose-first : (x : ℕ) (t : Tm) (s r : Replacement) → compose (put_first x t s) r ≡ put_first x t (compose s r)
compose-first x t s r = λ i. record { var = x; by = sym (compose_is_both s r t) i } ∷ compose s r

-- equations under a replacement
pub sides_first : (x : ℕ) (t : Tm) (s : Replacement) (fs : List Equation) → map (apply_sides s) (map (replace_sides x t) fs) ≡ map (apply_sides (put_first x t s)) fs
sides_first x t s [] = refl
sides_first x t s (e ∷ fs) = λ i. record { left = sym (apply-put_first x t s e.left) i; right = sym (apply-put_first x t s e.right) i } ∷ sides_first x t s fs i

pub sides_empty : (fs : List Equation) → map (apply_sides []) fs ≡ fs
sides_empty [] = refl
sides_empty (e ∷ fs) = λ i. record { left = fill-leaf e.left i; right = fill-leaf e.right i } ∷ sides_empty fs i

same_option : {X : Type 0} (q : Option X) → q ≡ option_map (λ x. x) q
same_option None = refl
same_option (Some x) = refl

go_on-nothing : (left : ℕ → ℕ → Bool) (fs : List Equation) → solve_by left fs ≡ go_on left fs (Some [])
go_on-nothing left fs = ap (solve_by left) (sym (sides_empty fs)) ∙ same_option (solve_by left (map (apply_sides []) fs))

-- a first replacement goes in front of what follows
go_on-first : (left : ℕ → ℕ → Bool) (x : ℕ) (t : Tm) (fs : List Equation) (q : Option Replacement) →
    option_map (put_first x t) (go_on left (map (replace_sides x t) fs) q) ≡ go_on left fs (option_map (put_first x t) q)
go_on-first left x t fs None = refl
go_on-first left x t fs (Some s) =
    twice (solve_by left (map (apply_sides s) (map (replace_sides x t) fs)))
    ∙ ap (λ es. option_map (compose (put_first x t s)) (solve_by left es)) (sides_first x t s fs)
  where
    twice : (q : Option Replacement) → option_map (put_first x t) (option_map (compose s) q) ≡ option_map (compose (put_first x t s)) q
    twice None = refl
    twice (Some r) = ap Some (sym (compose-first x t s r))

Solves-goes_on : (left : ℕ → ℕ → Bool) (es fs : List Equation) (r : Option Replacement) → Solves left es r → Solves left (es ++ fs) (go_on left fs r)
Solves-goes_on left es fs r Solves.no_equation = subst (Solves left fs) (go_on-nothing left fs) (solve_by-Solves left fs)
Solves-goes_on left es fs r (Solves.identical {e = e} {es = rest} h d) = Solves.identical h (Solves-goes_on left rest fs r d)
Solves-goes_on left es fs r (Solves.parted {e = e} {first = first} {rest = last} {es = rest} h d) = Solves.parted h (Solves-goes_on left (first ∷ last ∷ rest) fs r d)
Solves-goes_on left es fs r (Solves.replaced {e = e} {x = x} {t = t} {es = rest} {r = q} h d) =
    let later = Solves-goes_on left (map (replace_sides x t) rest) (map (replace_sides x t) fs) q d in
    let all = subst (λ gs. Solves left gs (go_on left (map (replace_sides x t) fs) q)) (sym (map-append (replace_sides x t) rest fs)) later in
    subst (Solves left (e ∷ rest ++ fs)) (go_on-first left x t fs q) (Solves.replaced h all)
Solves-goes_on left es fs r (Solves.no_answer h) = Solves.no_answer h

pub solver_goes_on : SolverGoesOn
solver_goes_on left es fs =
    Solves-one_answer left (es ++ fs) (solve_by left (es ++ fs)) (go_on left fs (solve_by left es)) (solve_by-Solves left (es ++ fs)) (Solves-goes_on left es fs (solve_by left es) (solve_by-Solves left es))
