-- Unification over bindings has an answer, and only one.
use Rattle.std.proofs.Common.{◌≡◌, ℕ, zero, suc, ◌<◌, Bool, true, false, List, [], ◌∷◌, Option, Some, None, option_map, sym, ap, subst, refl, ◌∙◌, arith}
use Rattle.kan_terms.specs.Tree.{Tree, Tm, occurs}
use Rattle.kan_model.specs.Stores.Store.{Equation}
use Rattle.unify_core.specs.Walking.{Pairs, full}
use Rattle.unify_core.specs.Unifying.{Meeting, asked_by, Unifying}
use Rattle.unify_core.specs.Laws.{AddsOne}
use Rattle.unify_core.proofs.GrowthLaws.{Grown}
use Rattle.unify_core.proofs.CycleLaws.{grown}
use Rattle.unify_core.proofs.Steps.LoadLaws.{left_over, falls_same, falls_parts, falls_binding}
use Rattle.unify_core.proofs.Relation.UnifyingLaws.{binding_grows}

-- what an answer comes from, by what the sides of the first equation ask for
abbrev FromBinding : Pairs → List Equation → Option (List (Tm × Tm)) → ℕ → Tm → Bool → Type 0
FromBinding bound es r x t false = (q : Option (List (Tm × Tm))) × Unifying ((x, t) ∷ bound) es q × (r ≡ option_map (λ more. (Tree.leaf x, t) ∷ more) q)
FromBinding bound es r x t true = r ≡ None

abbrev From : Pairs → List Equation → Option (List (Tm × Tm)) → Meeting → Type 0
From bound es r Meeting.nothing = Unifying bound es r
From bound es r (Meeting.parts first rest) = Unifying bound (first ∷ rest ∷ es) r
From bound es r (Meeting.binding x t) = FromBinding bound es r x t (occurs x (full bound t))
From bound es r Meeting.clash = r ≡ None

from : (bound : Pairs) (e : Equation) (es : List Equation) (r : Option (List (Tm × Tm))) → Unifying bound (e ∷ es) r → From bound es r (asked_by bound e)
from bound e es r (Unifying.same h d) = subst (From bound es r) (sym h) d
from bound e es r (Unifying.parted h d) = subst (From bound es r) (sym h) d
from bound e es r (Unifying.bound_one {x = x} {t = t} {added = q} h out d) = subst (From bound es r) (sym h) (subst (FromBinding bound es r x t) (sym out) (q, d, refl))
from bound e es r (Unifying.inside {x = x} {t = t} h inside) = subst (From bound es r) (sym h) (subst (FromBinding bound es r x t) (sym inside) refl)
from bound e es r (Unifying.apart h) = subst (From bound es r) (sym h) refl

pub nothing_added : (bound : Pairs) (r : Option (List (Tm × Tm))) → Unifying bound [] r → Some [] ≡ r
nothing_added bound r Unifying.no_equation = refl

is_one : (bound : Pairs) (es : List Equation) (r q : Option (List (Tm × Tm))) → Unifying bound es r → Unifying bound es q → r ≡ q
is_one bound es r q Unifying.no_equation other = nothing_added bound q other
is_one bound es r q (Unifying.same {e = e} {es = rest} h d) other = is_one bound rest r q d (subst (From bound rest q) h (from bound e rest q other))
is_one bound es r q (Unifying.parted {e = e} {first = first} {rest = last} {es = rest} h d) other =
    is_one bound (first ∷ last ∷ rest) r q d (subst (From bound rest q) h (from bound e rest q other))
is_one bound es r q (Unifying.bound_one {e = e} {x = x} {t = t} {es = rest} {added = r'} h out d) other =
    let (q', d', same) = subst (FromBinding bound rest q x t) out (subst (From bound rest q) h (from bound e rest q other)) in
    ap (option_map (λ more. (Tree.leaf x, t) ∷ more)) (is_one ((x, t) ∷ bound) rest r' q' d d') ∙ sym same
is_one bound es r q (Unifying.inside {e = e} {x = x} {t = t} {es = rest} h inside) other =
    sym (subst (FromBinding bound rest q x t) inside (subst (From bound rest q) h (from bound e rest q other)))
is_one bound es r q (Unifying.apart {e = e} {es = rest} h) other = sym (subst (From bound rest q) h (from bound e rest q other))

-- as many steps as there is to do suffice
some_answer : (n : ℕ) (bound : Pairs) (es : List Equation) → Grown bound → left_over bound es < n → (r : Option (List (Tm × Tm))) × Unifying bound es r
some_answer zero bound es g small = absurd (omega arith)
some_answer (suc n) bound [] g small = (Some [], Unifying.no_equation)
some_answer (suc n) bound (e ∷ es) g small = by (asked_by bound e) refl (λ b fs h less. some_answer n b fs h (omega arith))
  where
    After : Type 0
    After = (b : Pairs) (fs : List Equation) → Grown b → left_over b fs < left_over bound (e ∷ es) → (r : Option (List (Tm × Tm))) × Unifying b fs r

    choose : (x : ℕ) (t : Tm) → asked_by bound e ≡ Meeting.binding x t → (c : Bool) → occurs x (full bound t) ≡ c → After → (r : Option (List (Tm × Tm))) × Unifying bound (e ∷ es) r
    choose x t h true inside after = (None, Unifying.inside h inside)
    choose x t h false out after =
        let (r, d) = after ((x, t) ∷ bound) es (binding_grows ⊥ bound g e x t h out) (falls_binding bound g e es x t h out) in
        (option_map (λ more. (Tree.leaf x, t) ∷ more) r, Unifying.bound_one h out d)

    by : (m : Meeting) → asked_by bound e ≡ m → After → (r : Option (List (Tm × Tm))) × Unifying bound (e ∷ es) r
    by Meeting.nothing h after = let (r, d) = after bound es g (falls_same bound g e es h) in (r, Unifying.same h d)
    by (Meeting.parts first rest) h after = let (r, d) = after bound (first ∷ rest ∷ es) g (falls_parts bound g e es first rest h) in (r, Unifying.parted h d)
    by (Meeting.binding x t) h after = choose x t h (occurs x (full bound t)) refl after
    by Meeting.clash h after = (None, Unifying.apart h)

pub adds_one : AddsOne
adds_one = record { comes_to_end = λ bound es h. some_answer (suc (left_over bound es)) bound es (grown bound h) (omega arith); is_one = is_one }
