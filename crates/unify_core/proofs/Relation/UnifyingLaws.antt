-- Unification adds exactly what the equations ask for.
use Rattle.std.proofs.Common.{◌≡◌, ◌≢◌, ℕ, true, false, List, ◌∷◌, Option, Some, None, option_map, inl, inr, sym, ap, ap₂, refl, ◌∙◌}
use Rattle.kan_terms.specs.Tree.{Tree, Tm, fill, occurs}
use Rattle.kan_terms.specs.Bound.{bound_to}
use Rattle.kan_terms.proofs.TreeLaws.{occurs-cyclic}
use Rattle.kan_model.specs.Stores.Store.{Equation}
use Rattle.kan_model.specs.Stores.Unifiers.{Unifies}
use Rattle.kan_model.proofs.Solving.WorkLaws.{OneIs}
use Rattle.unify_core.specs.Walking.{Pairs, walk, full}
use Rattle.unify_core.specs.Solutions.{IsSolution, AddedTo}
use Rattle.unify_core.specs.Unifying.{Meeting, asked_by, Unifying}
use Rattle.unify_core.proofs.GrowthLaws.{Grown, ends-unbound}
use Rattle.unify_core.proofs.WalkLaws.{walk-end, walk-twice}
use Rattle.unify_core.proofs.SolutionLaws.{fill-full, fill-walk}
use Rattle.unify_core.proofs.Relation.MeetingLaws.{met_says}

-- with bindings and equations the same fillings as with other ones
abbrev pub SameSolutions : Type 0 → Pairs → Pairs → List Equation → Type 0
SameSolutions V new bound es = (f : ℕ → Tree V) → (IsSolution f new → IsSolution f bound × Unifies f es) × (IsSolution f bound → Unifies f es → IsSolution f new)

-- what unification makes: bindings without a cycle that have exactly the solutions asked for, or there is none
abbrev pub Outcome : Type 0 → Pairs → List Equation → Option (List (Tm × Tm)) → Type 0
Outcome V bound es None = (f : ℕ → Tree V) → IsSolution f bound → Unifies f es → ⊥
Outcome V bound es (Some added) = (new : Pairs) × AddedTo bound added new × Grown new × SameSolutions V new bound es

-- an outcome for equations is one for others with the same unifiers under the bindings
outcome_same : (V : Type 0) (bound : Pairs) (es fs : List Equation) → ((f : ℕ → Tree V) → IsSolution f bound → (Unifies f es → Unifies f fs) × (Unifies f fs → Unifies f es)) →
    (r : Option (List (Tm × Tm))) → Outcome V bound es r → Outcome V bound fs r
outcome_same V bound es fs same None out = λ f s u. out f s ((same f s).1 u)
outcome_same V bound es fs same (Some added) (new, put, g, exact) =
    (new, put, g, λ f. (λ s. (let (old, u) = (exact f).0 s in (old, (same f old).0 u)), λ s u. (exact f).1 s ((same f s).1 u)))

-- where one of two terms is a variable, they have the same value where the variable has that of the term
pub one_same : {V : Type 0} (f : ℕ → Tree V) (x : ℕ) (t a b : Tm) → OneIs x t a b → (fill f a ≡ fill f b → f x ≡ fill f t) × (f x ≡ fill f t → fill f a ≡ fill f b)
one_same f x t a b (inl (l, r)) = (λ e. ap (fill f) (sym l) ∙ e ∙ ap (fill f) r, λ e. ap (fill f) l ∙ e ∙ ap (fill f) (sym r))
one_same f x t a b (inr (l, r)) = (λ e. ap (fill f) (sym r) ∙ sym e ∙ ap (fill f) l, λ e. ap (fill f) l ∙ sym e ∙ ap (fill f) (sym r))

-- the full value of a term that walks to itself is no other variable
pub full-apart : (bound : Pairs) → Grown bound → (x : ℕ) (t : Tm) → walk bound t ≡ t → t ≢ Tree.leaf x → full bound t ≢ Tree.leaf x
full-apart bound g x (Tree.leaf y) walks other e = other (sym (ends-unbound bound y (walk-end bound g (Tree.leaf y) y walks)) ∙ e)
full-apart bound g x (Tree.sym s) walks other e = cc
full-apart bound g x (Tree.str s) walks other e = cc
full-apart bound g x (Tree.num n) walks other e = cc
full-apart bound g x (Tree.truth b) walks other e = cc
full-apart bound g x Tree.nil walks other e = cc
full-apart bound g x (Tree.pair a b) walks other e = cc

-- of the two sides of an equation that asks for a binding, the variable isn't bound, and the term walks to itself
pub one_ends : (bound : Pairs) → Grown bound → (a b : Tm) (x : ℕ) (t : Tm) → OneIs x t (walk bound a) (walk bound b) → (bound_to x bound ≡ None) × (walk bound t ≡ t)
one_ends bound g a b x t (inl (l, r)) = (walk-end bound g a x l, ap (walk bound) (sym r) ∙ walk-twice bound g b ∙ r)
one_ends bound g a b x t (inr (l, r)) = (walk-end bound g b x r, ap (walk bound) (sym l) ∙ walk-twice bound g a ∙ l)

module _ (V : Type 0) (bound : Pairs) (g : Grown bound) (e : Equation) (es : List Equation) where
  -- the sides have the same value where what they walk to has
  sides : (f : ℕ → Tree V) → IsSolution f bound → (fill f e.left ≡ fill f e.right → fill f (walk bound e.left) ≡ fill f (walk bound e.right))
      × (fill f (walk bound e.left) ≡ fill f (walk bound e.right) → fill f e.left ≡ fill f e.right)
  sides f s = (
    λ h. fill-walk f bound g s e.left ∙ h ∙ sym (fill-walk f bound g s e.right),
    λ h. sym (fill-walk f bound g s e.left) ∙ h ∙ fill-walk f bound g s e.right,
  )

  after_same : asked_by bound e ≡ Meeting.nothing → (r : Option (List (Tm × Tm))) → Outcome V bound es r → Outcome V bound (e ∷ es) r
  after_same h = outcome_same V bound es (e ∷ es) (λ f s. (λ u. ((sides f s).1 (ap (fill f) (met_says V bound e Meeting.nothing h)), u), λ (same, u). u))

  after_parts : (first rest : Equation) → asked_by bound e ≡ Meeting.parts first rest → (r : Option (List (Tm × Tm))) → Outcome V bound (first ∷ rest ∷ es) r → Outcome V bound (e ∷ es) r
  after_parts first rest h = outcome_same V bound (first ∷ rest ∷ es) (e ∷ es) (λ f s.
      let (l, r) = met_says V bound e (Meeting.parts first rest) h in (
        λ (one, (two, u)). ((sides f s).1 (ap (fill f) l ∙ ap₂ Tree.pair one two ∙ ap (fill f) (sym r)), u),
        λ (same, u). (let pairs : Tree.pair (fill f first.left) (fill f rest.left) ≡ Tree.pair (fill f first.right) (fill f rest.right) =
            ap (fill f) (sym l) ∙ (sides f s).0 same ∙ ap (fill f) r in (cc, (cc, u))),
      ))

  after_binding : (x : ℕ) (t : Tm) → asked_by bound e ≡ Meeting.binding x t → (r : Option (List (Tm × Tm))) → Outcome V ((x, t) ∷ bound) es r →
      Outcome V bound (e ∷ es) (option_map (λ more. (Tree.leaf x, t) ∷ more) r)
  after_binding x t h None out = λ f s (same, u).
      let (one, other, leftmost) = met_says V bound e (Meeting.binding x t) h in
      out f ((one_same f x t (walk bound e.left) (walk bound e.right) one).0 ((sides f s).0 same), s) u
  after_binding x t h (Some added) (new, put, gn, exact) =
      let (one, other, leftmost) = met_says V bound e (Meeting.binding x t) h in
      let (unbound, walks) = one_ends bound g e.left e.right x t one in (
        new,
        (x, refl, unbound, walks, put),
        gn,
        λ f. (
          λ s. (let ((known, old), u) = (exact f).0 s in (old, ((sides f old).1 ((one_same f x t (walk bound e.left) (walk bound e.right) one).1 known), u))),
          λ s (same, u). (exact f).1 ((one_same f x t (walk bound e.left) (walk bound e.right) one).0 ((sides f s).0 same), s) u,
        ),
      )

  after_inside : (x : ℕ) (t : Tm) → asked_by bound e ≡ Meeting.binding x t → occurs x (full bound t) ≡ true → Outcome V bound (e ∷ es) None
  after_inside x t h inside f s (same, u) =
      let (one, other, leftmost) = met_says V bound e (Meeting.binding x t) h in
      let (unbound, walks) = one_ends bound g e.left e.right x t one in
      occurs-cyclic x f (full bound t) inside (full-apart bound g x t walks other)
      ((one_same f x t (walk bound e.left) (walk bound e.right) one).0 ((sides f s).0 same) ∙ sym (fill-full f bound s t))

  after_clash : asked_by bound e ≡ Meeting.clash → Outcome V bound (e ∷ es) None
  after_clash h f s (same, u) = met_says V bound e Meeting.clash h f ((sides f s).0 same)

-- a binding to a term in which the variable doesn't stand makes no cycle
pub binding_grows : (V : Type 0) (bound : Pairs) → Grown bound → (e : Equation) (x : ℕ) (t : Tm) → asked_by bound e ≡ Meeting.binding x t → occurs x (full bound t) ≡ false → Grown ((x, t) ∷ bound)
binding_grows V bound g e x t h out = ((one_ends bound g e.left e.right x t (met_says V bound e (Meeting.binding x t) h).0).0, out, g)

-- unification makes its outcome
pub unifying_makes : (V : Type 0) (bound : Pairs) (es : List Equation) (r : Option (List (Tm × Tm))) → Unifying bound es r → Grown bound → Outcome V bound es r
unifying_makes V bound es r Unifying.no_equation g = (bound, refl, g, λ f. (λ s. (s, tt), λ s u. s))
unifying_makes V bound es r (Unifying.same {e = e} {es = rest} h d) g = after_same V bound g e rest h r (unifying_makes V bound rest r d g)
unifying_makes V bound es r (Unifying.parted {e = e} {first = first} {rest = last} {es = rest} h d) g =
    after_parts V bound g e rest first last h r (unifying_makes V bound (first ∷ last ∷ rest) r d g)
unifying_makes V bound es r (Unifying.bound_one {e = e} {x = x} {t = t} {es = rest} {added = q} h out d) g =
    after_binding V bound g e rest x t h q (unifying_makes V ((x, t) ∷ bound) rest q d (binding_grows V bound g e x t h out))
unifying_makes V bound es r (Unifying.inside {e = e} {x = x} {t = t} {es = rest} h inside) g = after_inside V bound g e rest x t h inside
unifying_makes V bound es r (Unifying.apart {e = e} {es = rest} h) g = after_clash V bound g e rest h
