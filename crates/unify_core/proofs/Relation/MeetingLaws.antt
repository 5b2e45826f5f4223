-- What the meeting of two terms says of them.
use Rattle.std.proofs.Common.{◌≡◌, ◌≢◌, ℕ, Bool, true, false, eqb, inl, inr, sym, ap, subst, refl, ◌∙◌, if◌then◌else◌}
use Rattle.std.proofs.lemmas.Bool.{eqb-true, eqb-false, true≢false}
use Rattle.kan_terms.specs.Tree.{Tree, Tm, fill, term_eq}
use Rattle.kan_terms.proofs.TreeLaws.{term_eq-true, eq-term_eq}
use Rattle.kan_model.specs.Stores.Store.{Equation}
use Rattle.kan_model.proofs.Solving.WorkLaws.{OneIs}
use Rattle.unify_core.specs.Walking.{Pairs, walk}
use Rattle.unify_core.specs.Unifying.{Meeting, meeting, asked_by}

-- nothing is asked of the same terms, a binding is of one term, the left variable if there is one, to the other, parts are those of pairs, and a clash has no unifier
abbrev pub Says : Type 0 → Tm → Tm → Meeting → Type 0
Says V a b Meeting.nothing = a ≡ b
Says V a b (Meeting.binding x t) = OneIs x t a b × (t ≢ Tree.leaf x) × ((y : ℕ) → a ≡ Tree.leaf y → y ≡ x)
Says V a b (Meeting.parts first rest) = (a ≡ Tree.pair first.left rest.left) × (b ≡ Tree.pair first.right rest.right)
Says V a b Meeting.clash = (f : ℕ → Tree V) → fill f a ≡ fill f b → ⊥

two_variables : (V : Type 0) (x y : ℕ) → Says V (Tree.leaf x) (Tree.leaf y) (meeting (Tree.leaf x) (Tree.leaf y))
two_variables V x y = by (eqb x y) refl
  where
    by : (c : Bool) → eqb x y ≡ c → Says V (Tree.leaf x) (Tree.leaf y) (if c then Meeting.nothing else Meeting.binding x (Tree.leaf y))
    by true e = ap Tree.leaf (eqb-true x y e)
    by false e = (inl (refl, refl), λ same. eqb-false x y e (cc), λ z same. cc)

two_others : (V : Type 0) (a b : Tm) → (a ≢ b → (f : ℕ → Tree V) → fill f a ≡ fill f b → ⊥) → Says V a b (if term_eq a b then Meeting.nothing else Meeting.clash)
two_others V a b differ = by (term_eq a b) refl
  where
    by : (c : Bool) → term_eq a b ≡ c → Says V a b (if c then Meeting.nothing else Meeting.clash)
    by true e = term_eq-true a b e
    by false e = differ (λ same. true≢false (sym (eq-term_eq a b same) ∙ e))

pub meeting_says : (V : Type 0) (a b : Tm) → Says V a b (meeting a b)
meeting_says V (Tree.leaf x) (Tree.leaf y) = two_variables V x y
meeting_says V (Tree.leaf x) t = (inl (refl, refl), λ e. cc, λ z same. cc)
meeting_says V t (Tree.leaf y) = (inr (refl, refl), λ e. cc, λ z same. cc)
meeting_says V (Tree.pair a b) (Tree.pair c d) = (refl, refl)
meeting_says V (Tree.pair a b) t = λ f e. cc
meeting_says V a b = two_others V a b (λ differ f e. differ (cc))

pub met_says : (V : Type 0) (bound : Pairs) (e : Equation) (m : Meeting) → asked_by bound e ≡ m → Says V (walk bound e.left) (walk bound e.right) m
met_says V bound e m h = subst (Says V (walk bound e.left) (walk bound e.right)) h (meeting_says V (walk bound e.left) (walk bound e.right))
