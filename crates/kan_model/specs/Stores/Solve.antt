-- Solving equations by replacing variables, and which stores are kept.
use Rattle.std.specs.Prelude.{◌≡◌, ℕ, zero, suc, ◌+◌, max, Bool, true, eqb, List, [], ◌∷◌, map}
use Rattle.std.specs.Prelude.{Option, Some, None, option_map, if◌then◌else◌}
use Rattle.kan_terms.specs.Tree.{Tree, Tm, fill, occurs, term_eq, size}
use Rattle.kan_model.specs.Stores.Store.{Store, Equation, equations}

-- a replacement is a list of variables with the terms that replace them
pub record Replaced : Type 0 where
  pub var : ℕ
  pub by : Tm

abbrev pub Replacement : Type 0
Replacement = List Replaced

-- what stands for a variable: its term, or the variable itself where it isn't replaced
abbrev pub image : Replacement → ℕ → Tm
image [] v = Tree.leaf v
image (r ∷ s) v = if eqb r.var v then r.by else image s v

-- the term under a replacement
abbrev pub apply : Replacement → Tm → Tm
apply s = fill (image s)

-- one variable replaced by a term, in a term and in equations
abbrev pub replace : ℕ → Tm → Tm → Tm
replace x t = fill (λ v. if eqb x v then t else Tree.leaf v)

abbrev pub replace_sides : ℕ → Tm → Equation → Equation
replace_sides x t e = record { left = replace x t e.left; right = replace x t e.right }

-- what is to be done with an equation
pub data Work : Type 0 where
  identical : Work
  parts : Equation → Equation → Work
  substitute : ℕ → Tm → Work
  clash : Work

-- a variable can be replaced by a term in which it doesn't stand
abbrev pub unless_inside : ℕ → Tm → Work
unless_inside x t = if occurs x t then Work.clash else Work.substitute x t

-- two different sides; left tells whether the left one of two variables is to be replaced
abbrev pub work_apart : (ℕ → ℕ → Bool) → Tm → Tm → Work
work_apart left (Tree.leaf x) (Tree.leaf y) =
    if left x y then Work.substitute x (Tree.leaf y) else Work.substitute y (Tree.leaf x)
work_apart left (Tree.leaf x) t = unless_inside x t
work_apart left t (Tree.leaf x) = unless_inside x t
work_apart left (Tree.pair a b) (Tree.pair c d) =
    Work.parts (record { left = a; right = c }) (record { left = b; right = d })
work_apart left _ _ = Work.clash

-- identical sides are dropped, pairs are taken apart, a variable is replaced, and all else has no
-- answer
abbrev pub work : (ℕ → ℕ → Bool) → Equation → Work
work left e = if term_eq e.left e.right then Work.identical else work_apart left e.left e.right

-- a variable's replacement in front of what answers for the equations that follow
abbrev pub put_first : ℕ → Tm → Replacement → Replacement
put_first x t s = record { var = x; by = apply s t } ∷ s

-- The equations have this answer: the first one is worked on, by five cases.
pub data Solves (left : ℕ → ℕ → Bool) : List Equation → Option Replacement → Type 0 where
  no_equation : Solves left [] (Some [])
  identical : {e : Equation} {es : List Equation} {r : Option Replacement} →
      work left e ≡ Work.identical → Solves left es r → Solves left (e ∷ es) r
  parted : {e first rest : Equation} {es : List Equation} {r : Option Replacement} →
      work left e ≡ Work.parts first rest → Solves left (first ∷ rest ∷ es) r →
      Solves left (e ∷ es) r
  replaced : {e : Equation} {x : ℕ} {t : Tm} {es : List Equation} {r : Option Replacement} →
      work left e ≡ Work.substitute x t → Solves left (map (replace_sides x t) es) r →
      Solves left (e ∷ es) (option_map (put_first x t) r)
  no_answer : {e : Equation} {es : List Equation} →
      work left e ≡ Work.clash → Solves left (e ∷ es) None

-- how large equations are, and a number above their variables: these bound how much there is to do
abbrev pub sizes : List Equation → ℕ
sizes [] = 0
sizes (e ∷ es) = size e.left + size e.right + sizes es

abbrev pub above : Tm → ℕ
above (Tree.leaf v) = suc v
above (Tree.sym s) = 0
above (Tree.str s) = 0
above (Tree.num n) = 0
above (Tree.truth b) = 0
above Tree.nil = 0
above (Tree.pair a b) = max (above a) (above b)

abbrev pub above_all : List Equation → ℕ
above_all [] = 0
above_all (e ∷ es) = max (max (above e.left) (above e.right)) (above_all es)

-- the steps up to the next replacement, at most as many as are given, and then what follows it
unfoldable pub steps : (ℕ → ℕ → Bool) → (List Equation → Option Replacement) → ℕ → List Equation →
    Option Replacement
steps left follow zero es = None
steps left follow (suc n) [] = Some []
steps left follow (suc n) (e ∷ es) = elim (work left e) [
  | identical ↦ steps left follow n es
  | parts first rest ↦ steps left follow n (first ∷ rest ∷ es)
  | substitute x t ↦ option_map (put_first x t) (follow (map (replace_sides x t) es))
  | clash ↦ None
]

-- at most as many replacements as are given
unfoldable pub rounds : (ℕ → ℕ → Bool) → ℕ → List Equation → Option Replacement
rounds left zero es = None
rounds left (suc n) es = steps left (rounds left n) (suc (sizes es)) es

-- the answer of a list of equations: none, or the replacement that makes the sides of each
-- identical
unfoldable pub solve_by : (ℕ → ℕ → Bool) → List Equation → Option Replacement
solve_by left es = rounds left (suc (above_all es)) es

-- of two variables the left one is replaced
abbrev pub left_first : ℕ → ℕ → Bool
left_first x y = true

abbrev pub solve : List Equation → Option Replacement
solve = solve_by left_first

-- the answer of a store's equations
abbrev pub solve_store : Store → Option Replacement
solve_store st = solve (equations st.prims)
