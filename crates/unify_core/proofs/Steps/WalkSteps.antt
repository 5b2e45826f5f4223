-- The steps of a walk.
use Rattle.std.proofs.Common.{◌≡◌, ◌≢◌, ℕ, ◌<◌, false, Some, None, sym, ap, refl, ◌∙◌, arith}
use Rattle.kan_terms.specs.Tree.{Tree, Tm, occurs}
use Rattle.kan_terms.specs.Bound.{bound_to}
use Rattle.kan_terms.specs.Terms.{tree}
use Rattle.kan_terms.specs.declared.terms.Term.{Term}
use Rattle.kan_terms.specs.declared.terms.Term.TheVariants.{Var, Sym, Str, Num, Large, Truth, Nil, Pair}
use Rattle.kan_model.specs.Stores.Kept.{is_variable}
use Rattle.unify_core.specs.Walking.{Pairs, IsOtherEnd, walk, full}
use Rattle.unify_core.specs.Cycles.{HasNoCycle}
use Rattle.unify_core.proofs.CycleLaws.{grown}
use Rattle.unify_core.proofs.GrowthLaws.{ends-unbound}
use Rattle.unify_core.proofs.WalkLaws.{way, way-bound, walk-bound, walk-unbound, walk-term, walk-end, walk-twice}

-- a step to a variable's term leaves a shorter way
pub way_falls : (bound : Pairs) → HasNoCycle bound → (at next : Tm) (v : ℕ) → at ≡ Tree.leaf v → Some next ≡ bound_to v bound → way bound next < way bound at
way_falls bound h at next v here found = omega (arith, ap (way bound) here, way-bound bound (grown bound h) v next (sym found))

-- and leads to the same end
pub walk_keeps : (bound : Pairs) → HasNoCycle bound → (at next : Tm) (v : ℕ) (whole : Tm) → at ≡ Tree.leaf v → Some next ≡ bound_to v bound → walk bound at ≡ whole → walk bound next ≡ whole
walk_keeps bound h at next v whole here found kept = sym (walk-bound bound (grown bound h) v next (sym found)) ∙ ap (walk bound) (sym here) ∙ kept

-- a variable that isn't bound is the end
pub walk_ends : (bound : Pairs) (at : Tm) (v : ℕ) (whole : Tm) → at ≡ Tree.leaf v → None ≡ bound_to v bound → walk bound at ≡ whole → at ≡ whole
walk_ends bound at v whole here none kept = here ∙ sym (walk-unbound bound v (sym none)) ∙ ap (walk bound) (sym here) ∙ kept

-- a term that is no variable stands for a tree that is none
pub no_leaf : (t : Term) → ((v : ℕ) → t ≢ Var v) → (y : ℕ) → tree t ≢ Tree.leaf y
no_leaf (Var v) other y e = other v (cc)
no_leaf (Sym s) other y e = cc
no_leaf (Str s) other y e = cc
no_leaf (Num n) other y e = cc
no_leaf (Large number) other y e = cc
no_leaf (Truth b) other y e = cc
no_leaf Nil other y e = cc
no_leaf (Pair parts) other y e = cc

-- and is the end
pub walk_stops : (bound : Pairs) (t : Term) (whole : Tm) → ((v : ℕ) → t ≢ Var v) → walk bound (tree t) ≡ whole → tree t ≡ whole
walk_stops bound t whole other kept = sym (walk-term bound (tree t) (no_leaf t other)) ∙ kept

-- a term that is no variable isn't this one
pub no_variable : (x : ℕ) (t : Term) → ((v : ℕ) → t ≢ Var v) → is_variable x (tree t) ≡ false
no_variable x (Var v) other = absurd (other v refl)
no_variable x (Sym s) other = refl
no_variable x (Str s) other = refl
no_variable x (Num n) other = refl
no_variable x (Large number) other = refl
no_variable x (Truth b) other = refl
no_variable x Nil other = refl
no_variable x (Pair parts) other = refl

-- what is walked to walks to itself
pub walked_end : (bound : Pairs) → HasNoCycle bound → (u w : Tm) → w ≡ walk bound u → walk bound w ≡ w
walked_end bound h u w reached = ap (walk bound) reached ∙ walk-twice bound (grown bound h) u ∙ sym reached

-- another variable that is walked to isn't bound, so the variable doesn't stand in it
pub end_apart : (bound : Pairs) → HasNoCycle bound → (x y : ℕ) (t : Tm) → t ≡ Tree.leaf y → IsOtherEnd bound x t → false ≡ occurs x (full bound t)
end_apart bound h x y t is (walks, other) =
    let own = ends-unbound bound y (walk-end bound (grown bound h) t y (walks ∙ is)) in
    sym (ap (occurs x) (ap (full bound) is ∙ own) ∙ ap (is_variable x) (sym is) ∙ other)
