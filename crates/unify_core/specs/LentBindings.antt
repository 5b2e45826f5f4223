-- What the lent parts of a running unification stand for.
use Rattle.std.specs.Prelude.{◌≡◌, ℕ, true, false, List, [], ◌∷◌, ◌++◌, ◌<◌, map}
use Rattle.std.specs.Prelude.{Option, Some, None, is_some, if◌then◌else◌}
use Rattle.kan_terms.specs.Tree.{Tree, Tm, occurs}
use Rattle.kan_terms.specs.Bound.{bound_to}
use Rattle.kan_terms.specs.Greatest.{greatest_in}
use Rattle.kan_terms.specs.Terms.{tree}
use Rattle.kan_terms.specs.Waiting.{parts_of}
use Rattle.kan_model.specs.Stores.Store.{Equation}
use Rattle.unify_core.specs.Walking.{Pairs, full}
use Rattle.unify_core.specs.Solutions.{equation}
use Rattle.unify_core.specs.Unifying.{Meeting}
use Rattle.unify_core.specs.declared.walking.LentBinding.{LentBinding}
use Rattle.unify_core.specs.declared.unifying.Sides.{Sides}
use Rattle.unify_core.specs.declared.unifying.Met.{Met}
use Rattle.unify_core.specs.declared.unifying.Ahead.{Ahead}

-- a lent binding is the pair of its variable and its term
abbrev pub lent_pair : LentBinding → ℕ × Tm
lent_pair one = (one.var, tree one.term.now)

-- bindings with lent ones put in front, one after the other
abbrev pub with_lent : List LentBinding → Pairs → Pairs
with_lent [] bound = bound
with_lent (one ∷ more) bound = with_lent more (lent_pair one ∷ bound)

-- the parts of a pair in which a variable stands, and nothing of other terms
abbrev pub parts_unless_ground : Tm → List Tm
parts_unless_ground t = if is_some (greatest_in t) then parts_of t else []

-- all lent variables are above a number
abbrev pub AllAbove : ℕ → List LentBinding → Type 0
AllAbove low [] = Unit {0}
AllAbove low (one ∷ more) = (low < one.var) × AllAbove low more

-- lent bindings as the two sides of pairs
abbrev pub lent_sides : List LentBinding → List (Tm × Tm)
lent_sides = map (λ one. (Tree.leaf one.var, tree one.term.now))

-- two lent sides are an equation
abbrev pub equation_of : Sides → Equation
equation_of sides = equation (tree sides.left.now) (tree sides.right.now)

-- the equations on a stack, the top first
abbrev pub waiting_equations : List Sides → List Equation
waiting_equations [] = []
waiting_equations (sides ∷ above) = waiting_equations above ++ equation_of sides ∷ []

-- what two terms leave that were met and ask for no binding
abbrev pub left_by : Met → Meeting
left_by Met.Same = Meeting.nothing
left_by (Met.Parts first rest) = Meeting.parts (equation_of first) (equation_of rest)
left_by Met.Clash = Meeting.clash

-- a binding is lent, or its variable stands in its term
abbrev pub Binds : Pairs → List LentBinding → Met → List LentBinding → ℕ → Tm → Type 0
Binds bound old Met.Same new x t =
    (occurs x (full (with_lent old bound) t) ≡ false)
    × ((one : LentBinding) × (lent_pair one ≡ (x, t)) × (new ≡ old ++ one ∷ []))
Binds bound old (Met.Parts first rest) new x t = ⊥
Binds bound old Met.Clash new x t = occurs x (full (with_lent old bound) t) ≡ true

-- what two terms that were met leave, and the lent bindings then
abbrev pub MeetsTo : Pairs → List LentBinding → Met → List LentBinding → Meeting → Type 0
MeetsTo bound old left new (Meeting.binding x t) = Binds bound old left new x t
MeetsTo bound old left new asks = (new ≡ old) × (left_by left ≡ asks)

-- an equation that may be there, in front of others
abbrev pub with_top : Option Sides → List Equation → List Equation
with_top None es = es
with_top (Some top) es = equation_of top ∷ es

-- the equations on a stack whose top is held apart
abbrev pub equations_ahead : Ahead → List Equation
equations_ahead ahead = with_top ahead.top (waiting_equations ahead.below.items)

-- the next equation in front of those behind it; where none is next, there are none
abbrev pub with_next : Option Sides → List Equation → List Equation
with_next None behind = []
with_next (Some next) behind = equation_of next ∷ behind

-- what a step that asks for a binding makes of the lent bindings and of the equations
abbrev pub BindsTo : Pairs → List LentBinding → List Equation → Option (List Equation) →
    List LentBinding → ℕ → Tm → Type 0
BindsTo bound lent behind None lent' x t = Binds bound lent Met.Clash lent' x t
BindsTo bound lent behind (Some left) lent' x t =
    Binds bound lent Met.Same lent' x t × (left ≡ behind)

-- what a step makes of the lent bindings and of the equations, of which there are none left where
-- nothing makes the two terms the same
abbrev pub StepTo : Pairs → List LentBinding → List Equation → Option (List Equation) →
    List LentBinding → Meeting → Type 0
StepTo bound lent behind left lent' Meeting.nothing = (lent' ≡ lent) × (left ≡ Some behind)
StepTo bound lent behind left lent' (Meeting.parts first rest) =
    (lent' ≡ lent) × (left ≡ Some (first ∷ rest ∷ behind))
StepTo bound lent behind left lent' (Meeting.binding x t) = BindsTo bound lent behind left lent' x t
StepTo bound lent behind left lent' Meeting.clash = left ≡ None

-- each lent binding is of a variable that isn't bound by then
abbrev pub Fresh : Pairs → List LentBinding → Type 0
Fresh bound [] = Unit {0}
Fresh bound (one ∷ more) = (bound_to one.var bound ≡ None) × Fresh (lent_pair one ∷ bound) more
