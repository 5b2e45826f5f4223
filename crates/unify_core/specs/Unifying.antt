-- Unification over bindings, case by case, which says what is bound and in which order.
use Rattle.std.specs.Prelude.{◌≡◌, ℕ, Bool, true, false, eqb, List, [], ◌∷◌, Option, Some, None}
use Rattle.std.specs.Prelude.{option_map, if◌then◌else◌}
use Rattle.kan_terms.specs.Tree.{Tree, Tm, occurs, term_eq}
use Rattle.kan_model.specs.Stores.Store.{Equation}
use Rattle.unify_core.specs.Walking.{Pairs, walk, full}
use Rattle.unify_core.specs.Solutions.{equation}

-- what two terms that walk to themselves ask for
pub data Meeting : Type 0 where
  nothing : Meeting
  binding : ℕ → Tm → Meeting
  parts : Equation → Equation → Meeting
  clash : Meeting

-- two terms that are no pairs are the same
abbrev pub same_atoms : Tm → Tm → Bool
same_atoms (Tree.pair a b) t = false
same_atoms s t = term_eq s t

-- pairs are taken apart, the first parts before the rests, and all else must be the same
abbrev pub taken_apart : Tm → Tm → Meeting
taken_apart (Tree.pair a b) (Tree.pair c d) = Meeting.parts (equation a c) (equation b d)
taken_apart a b = if same_atoms a b then Meeting.nothing else Meeting.clash

-- the left variable is bound, else the right one, else pairs are taken apart
abbrev pub meeting : Tm → Tm → Meeting
meeting (Tree.leaf x) (Tree.leaf y) =
    if eqb x y then Meeting.nothing else Meeting.binding x (Tree.leaf y)
meeting (Tree.leaf x) t = Meeting.binding x t
meeting t (Tree.leaf y) = Meeting.binding y t
meeting a b = taken_apart a b

-- what the two sides of an equation ask for under bindings
abbrev pub asked_by : Pairs → Equation → Meeting
asked_by bound e = meeting (walk bound e.left) (walk bound e.right)

-- Under bindings these equations, the first one first, add these pairs in this order, or there is
-- no unifier.
pub data Unifying : Pairs → List Equation → Option (List (Tm × Tm)) → Type 0 where
  no_equation : {bound : Pairs} → Unifying bound [] (Some [])
  same : {bound : Pairs} {e : Equation} {es : List Equation} {added : Option (List (Tm × Tm))} →
      asked_by bound e ≡ Meeting.nothing → Unifying bound es added → Unifying bound (e ∷ es) added
  parted : {bound : Pairs} {e first rest : Equation} {es : List Equation}
      {added : Option (List (Tm × Tm))} →
      asked_by bound e ≡ Meeting.parts first rest → Unifying bound (first ∷ rest ∷ es) added →
      Unifying bound (e ∷ es) added
  bound_one : {bound : Pairs} {e : Equation} {x : ℕ} {t : Tm} {es : List Equation}
      {added : Option (List (Tm × Tm))} →
      asked_by bound e ≡ Meeting.binding x t → occurs x (full bound t) ≡ false →
      Unifying ((x, t) ∷ bound) es added →
      Unifying bound (e ∷ es) (option_map (λ more. (Tree.leaf x, t) ∷ more) added)
  inside : {bound : Pairs} {e : Equation} {x : ℕ} {t : Tm} {es : List Equation} →
      asked_by bound e ≡ Meeting.binding x t → occurs x (full bound t) ≡ true →
      Unifying bound (e ∷ es) None
  apart : {bound : Pairs} {e : Equation} {es : List Equation} →
      asked_by bound e ≡ Meeting.clash → Unifying bound (e ∷ es) None

-- what one binding adds, or none where its variable stands in its term
abbrev pub AddsBinding : Pairs → ℕ → Tm → Option (List (Tm × Tm)) → Type 0
AddsBinding bound x t None = occurs x (full bound t) ≡ true
AddsBinding bound x t (Some added) =
    (occurs x (full bound t) ≡ false) × (added ≡ (Tree.leaf x, t) ∷ [])

-- what one equation adds, by what its sides ask for
abbrev pub Adds : Pairs → Meeting → Option (List (Tm × Tm)) → Type 0
Adds bound Meeting.nothing added = Unifying bound [] added
Adds bound (Meeting.binding x t) added = AddsBinding bound x t added
Adds bound (Meeting.parts first rest) added = Unifying bound (first ∷ rest ∷ []) added
Adds bound Meeting.clash added = added ≡ None
