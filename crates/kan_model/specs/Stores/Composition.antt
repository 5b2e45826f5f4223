-- How the solver goes on with further equations behind an answer; the equation of a new variable is
-- always kept.
use Rattle.std.specs.Prelude.{◌≡◌, ℕ, Bool, true, List, ◌++◌, map, Option, Some, None, option_map}
use Rattle.kan_terms.specs.Tree.{Tree, Tm}
use Rattle.kan_model.specs.Programs.Goals.{Primitive}
use Rattle.kan_model.specs.Programs.Scope.{all_below, is_counted}
use Rattle.kan_model.specs.Stores.Store.{Store, Equation, with_prim, with_fresh}
use Rattle.kan_model.specs.Stores.Solve.{Replaced, Replacement, apply, solve_by}
use Rattle.kan_model.specs.Stores.Kept.{is_kept}

-- an equation under a replacement
abbrev pub apply_sides : Replacement → Equation → Equation
apply_sides s e = record { left = apply s e.left; right = apply s e.right }

-- one replacement, and then another one
abbrev pub then_by : Replacement → Replaced → Replaced
then_by r p = record { var = p.var; by = apply r p.by }

abbrev pub compose : Replacement → Replacement → Replacement
compose s r = map (then_by r) s ++ r

abbrev pub ComposeIsBoth : Type 0
ComposeIsBoth = (s r : Replacement) (t : Tm) → apply (compose s r) t ≡ apply r (apply s t)

-- the answer of further equations behind an answer
abbrev pub go_on : (ℕ → ℕ → Bool) → List Equation → Option Replacement → Option Replacement
go_on left fs None = None
go_on left fs (Some s) = option_map (compose s) (solve_by left (map (apply_sides s) fs))

-- equations in two pieces: the first piece is solved, and then the second one under its answer
abbrev pub SolverGoesOn : Type 0
SolverGoesOn =
    (left : ℕ → ℕ → Bool) (es fs : List Equation) → solve_by left (es ++ fs)
    ≡ go_on left fs (solve_by left es)

-- a kept store stays kept where its next variable is made equal to a term of those before it
abbrev pub FreshIsKept : Type 0
FreshIsKept =
    (st : Store) (t : Tm) → is_kept st ≡ true → is_counted st ≡ true → all_below st.counter t
    ≡ true →
    is_kept (with_prim (with_fresh st 1) (Primitive.same (Tree.leaf st.counter) t)) ≡ true
