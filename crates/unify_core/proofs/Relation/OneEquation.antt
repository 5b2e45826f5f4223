-- One equation alone, decided by what its sides ask for.
use Rattle.std.proofs.Common.{◌≡◌, ℕ, true, List, [], ◌∷◌, Option, Some, None, option_map, sym, ap₂, subst, refl}
use Rattle.kan_terms.specs.Tree.{Tree, Tm}
use Rattle.kan_model.specs.Stores.Store.{Equation}
use Rattle.kan_model.specs.Stores.Kept.{is_variable}
use Rattle.unify_core.specs.Walking.{Pairs, walk}
use Rattle.unify_core.specs.Solutions.{equation}
use Rattle.unify_core.specs.Unifying.{Meeting, asked_by, meeting, Unifying, Adds, AddsBinding}
use Rattle.unify_core.proofs.Relation.OneAnswer.{nothing_added}

-- what is added by what the sides ask for is what unification adds
pub adds_alone : (bound : Pairs) (e : Equation) (added : Option (List (Tm × Tm))) → Adds bound (asked_by bound e) added → Unifying bound (e ∷ []) added
adds_alone bound e added adds = by (asked_by bound e) refl added adds
  where
    by : (m : Meeting) → asked_by bound e ≡ m → (r : Option (List (Tm × Tm))) → Adds bound m r → Unifying bound (e ∷ []) r
    by Meeting.nothing asks r d = Unifying.same asks d
    by (Meeting.parts first rest) asks r d = Unifying.parted asks d
    by (Meeting.binding x t) asks None inside = Unifying.inside asks inside
    by (Meeting.binding x t) asks (Some more) (out, one) =
        subst (λ r. Unifying bound (e ∷ []) (Some r)) (sym one) (Unifying.bound_one asks out Unifying.no_equation)
    by Meeting.clash asks r none = subst (Unifying bound (e ∷ [])) (sym none) (Unifying.apart asks)

-- and what unification adds is what the sides ask for
alone_adds : (bound : Pairs) (e : Equation) (added : Option (List (Tm × Tm))) → Unifying bound (e ∷ []) added → Adds bound (asked_by bound e) added
alone_adds bound e added (Unifying.same asks d) = subst (λ m. Adds bound m added) (sym asks) d
alone_adds bound e added (Unifying.parted asks d) = subst (λ m. Adds bound m added) (sym asks) d
alone_adds bound e added (Unifying.bound_one {x = x} {t = t} {added = more} asks out d) =
    subst (λ m. Adds bound m (option_map (λ more. (Tree.leaf x, t) ∷ more) more)) (sym asks)
    (subst (λ r. AddsBinding bound x t (option_map (λ more. (Tree.leaf x, t) ∷ more) r)) (nothing_added ((x, t) ∷ bound) more d) (out, refl))
alone_adds bound e added (Unifying.inside asks inside) = subst (λ m. Adds bound m None) (sym asks) inside
alone_adds bound e added (Unifying.apart asks) = subst (λ m. Adds bound m None) (sym asks) refl

-- two terms that walk to themselves
pub ends_add : (bound : Pairs) (a b : Tm) → walk bound a ≡ a → walk bound b ≡ b → (added : Option (List (Tm × Tm))) → Unifying bound (equation a b ∷ []) added → Adds bound (meeting a b) added
ends_add bound a b left right added d = subst (λ m. Adds bound m added) (ap₂ meeting left right) (alone_adds bound (equation a b) added d)

-- a variable and itself add nothing
pub same_adds : (bound : Pairs) (x : ℕ) (s t : Tm) (made : List (Tm × Tm)) → s ≡ Tree.leaf x → is_variable x t ≡ true → made ≡ [] → Adds bound (meeting s t) (Some made)
same_adds bound x s (Tree.leaf y) made one same none =
    rw (one, same, none) Unifying.no_equation
same_adds bound x s (Tree.sym n) made one same none = cc
same_adds bound x s (Tree.str n) made one same none = cc
same_adds bound x s (Tree.num n) made one same none = cc
same_adds bound x s (Tree.truth b) made one same none = cc
same_adds bound x s Tree.nil made one same none = cc
same_adds bound x s (Tree.pair a b) made one same none = cc
