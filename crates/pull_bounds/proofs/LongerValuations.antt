-- A longer valuation gives terms whose variables are there the values that they had.
use Rattle.std.proofs.Common.{◌≡◌, ℕ, zero, suc, ◌+◌, ◌≤◌, Bool, true, ◌&&◌, List, [], ◌∷◌, ◌++◌, length, map, refl, sym, ap, ap₂, ◌∙◌, arith, append_assoc}
use Rattle.std.specs.List.{list_all}
use Rattle.std.proofs.lemmas.Bool.{and_parts, and_from, ltb-true, lt-ltb}
use Rattle.std.proofs.lemmas.List.{length-append, append-nil}
use Rattle.kan_terms.specs.Tree.{Tree, Tm, Gd}
use Rattle.kan_terms.specs.Valuations.{value_at, value}
use Rattle.kan_terms.proofs.ValuationLaws.{value_at-append}
use Rattle.kan_model.specs.Programs.Goals.{Primitive, Template, on_sides}
use Rattle.kan_model.specs.Programs.Scope.{all_below, sides_below}
use Rattle.kan_model.specs.Streams.Running.{slot, instance, instances, variables}
use Rattle.kan_model.specs.Meaning.Holds.{holds, holds_at, BeginsWith}
use Rattle.kan_model.specs.Meaning.Derivations.{values}

pub BeginsWith-self : (us : List Gd) → BeginsWith us us
BeginsWith-self us = ([], sym (append-nil us))

pub BeginsWith-trans : (us vs ws : List Gd) → BeginsWith ws vs → BeginsWith vs us → BeginsWith ws us
BeginsWith-trans us vs ws (more, e) (less, f) = (less ++ more, e ∙ ap (λ l. l ++ more) f ∙ append_assoc us less more)

pub BeginsWith-length : (us vs : List Gd) → BeginsWith vs us → length us ≤ length vs
BeginsWith-length us vs (more, e) = omega (arith, ap length e, length-append us more)

-- the values that a term had
module _ (us vs : List Gd) (begins : BeginsWith vs us) where
  pub value-longer : (t : Tm) → all_below (length us) t ≡ true → value vs t ≡ value us t
  value-longer (Tree.leaf v) h = ap (λ l. value_at l v) begins.1 ∙ value_at-append us begins.0 v (ltb-true v (length us) h)
  value-longer (Tree.sym s) h = refl
  value-longer (Tree.str s) h = refl
  value-longer (Tree.num n) h = refl
  value-longer (Tree.truth b) h = refl
  value-longer Tree.nil h = refl
  value-longer (Tree.pair a b) h =
      let (first, rest) = and_parts (all_below (length us) a) (all_below (length us) b) h in
      ap₂ Tree.pair (value-longer a first) (value-longer b rest)

  pub values-longer : (ts : List Tm) → list_all (all_below (length us)) ts ≡ true → map (value vs) ts ≡ map (value us) ts
  values-longer [] h = refl
  values-longer (t ∷ ts) h =
      let (first, rest) = and_parts (all_below (length us) t) (list_all (all_below (length us)) ts) h in
      ap₂ (λ u l. u ∷ l) (value-longer t first) (values-longer ts rest)

  holds-longer : (p : Primitive Tm) → sides_below (length us) p ≡ true → holds_at vs p ≡ holds_at us p
  holds-longer (Primitive.same a b) h = two (λ s t. holds (Primitive.same s t)) a b h
    where
      two : (f : Gd → Gd → Bool) (a b : Tm) → (all_below (length us) a && all_below (length us) b) ≡ true → f (value vs a) (value vs b) ≡ f (value us a) (value us b)
      two f a b h = let (first, rest) = and_parts (all_below (length us) a) (all_below (length us) b) h in ap₂ f (value-longer a first) (value-longer b rest)
  holds-longer (Primitive.differ a b) h =
      let (first, rest) = and_parts (all_below (length us) a) (all_below (length us) b) h in ap₂ (λ s t. holds (Primitive.differ s t)) (value-longer a first) (value-longer b rest)
  holds-longer (Primitive.symbol a) h = ap (λ t. holds (Primitive.symbol t)) (value-longer a h)
  holds-longer (Primitive.number a) h = ap (λ t. holds (Primitive.number t)) (value-longer a h)
  holds-longer (Primitive.text a) h = ap (λ t. holds (Primitive.text t)) (value-longer a h)
  holds-longer (Primitive.absent tag a) h = ap (λ t. holds (Primitive.absent tag t)) (value-longer a h)

  pub all-hold_longer : (ps : List (Primitive Tm)) → list_all (sides_below (length us)) ps ≡ true → list_all (holds_at us) ps ≡ true → list_all (holds_at vs) ps ≡ true
  all-hold_longer [] h k = refl
  all-hold_longer (p ∷ ps) h k =
      let (first, rest) = and_parts (sides_below (length us) p) (list_all (sides_below (length us)) ps) h in
      let (held, others) = and_parts (holds_at us p) (list_all (holds_at us) ps) k in
      and_from (holds_at vs p) (list_all (holds_at vs) ps) (holds-longer p first ∙ held) (all-hold_longer ps rest others)

-- variables below a number are below a greater one
module _ (n m : ℕ) (le : n ≤ m) where
  pub below-more : (t : Tm) → all_below n t ≡ true → all_below m t ≡ true
  below-more (Tree.leaf v) h = let lt = ltb-true v n h in lt-ltb v m (omega (arith, lt, le))
  below-more (Tree.sym s) h = refl
  below-more (Tree.str s) h = refl
  below-more (Tree.num k) h = refl
  below-more (Tree.truth b) h = refl
  below-more Tree.nil h = refl
  below-more (Tree.pair a b) h =
      let (first, rest) = and_parts (all_below n a) (all_below n b) h in and_from (all_below m a) (all_below m b) (below-more a first) (below-more b rest)

  pub all-below_more : (ts : List Tm) → list_all (all_below n) ts ≡ true → list_all (all_below m) ts ≡ true
  all-below_more [] h = refl
  all-below_more (t ∷ ts) h =
      let (first, rest) = and_parts (all_below n t) (list_all (all_below n) ts) h in
      and_from (all_below m t) (list_all (all_below m) ts) (below-more t first) (all-below_more ts rest)

  sides-below_more : (p : Primitive Tm) → sides_below n p ≡ true → sides_below m p ≡ true
  sides-below_more (Primitive.same a b) h = below-more (Tree.pair a b) h
  sides-below_more (Primitive.differ a b) h = below-more (Tree.pair a b) h
  sides-below_more (Primitive.symbol a) h = below-more a h
  sides-below_more (Primitive.number a) h = below-more a h
  sides-below_more (Primitive.text a) h = below-more a h
  sides-below_more (Primitive.absent tag a) h = below-more a h

  pub all-sides_more : (ps : List (Primitive Tm)) → list_all (sides_below n) ps ≡ true → list_all (sides_below m) ps ≡ true
  all-sides_more [] h = refl
  all-sides_more (p ∷ ps) h =
      let (first, rest) = and_parts (sides_below n p) (list_all (sides_below n) ps) h in
      and_from (sides_below m p) (list_all (sides_below m) ps) (sides-below_more p first) (all-sides_more ps rest)

-- what fills a slot, and what an environment makes of a template
module _ (us : List Gd) where
  value-slot : (env : List Tm) (x : ℕ) → value us (slot env x) ≡ value_at (map (value us) env) x
  value-slot [] x = refl
  value-slot (t ∷ ts) zero = refl
  value-slot (t ∷ ts) (suc x) = value-slot ts x

  pub value-instance : (env : List Tm) (t : Template) → value us (instance env t) ≡ value (map (value us) env) t
  value-instance env (Tree.leaf x) = value-slot env x
  value-instance env (Tree.sym s) = refl
  value-instance env (Tree.str s) = refl
  value-instance env (Tree.num n) = refl
  value-instance env (Tree.truth b) = refl
  value-instance env Tree.nil = refl
  value-instance env (Tree.pair a b) = ap₂ Tree.pair (value-instance env a) (value-instance env b)

  pub values-instances : (env : List Tm) (ts : List Template) → map (value us) (instances env ts) ≡ values (map (value us) env) ts
  values-instances env [] = refl
  values-instances env (t ∷ ts) = ap₂ (λ u l. u ∷ l) (value-instance env t) (values-instances env ts)

  pub holds-instance : (env : List Tm) (p : Primitive Template) → holds_at us (on_sides (instance env) p) ≡ holds_at (map (value us) env) p
  holds-instance env (Primitive.same a b) = ap₂ (λ s t. holds (Primitive.same s t)) (value-instance env a) (value-instance env b)
  holds-instance env (Primitive.differ a b) = ap₂ (λ s t. holds (Primitive.differ s t)) (value-instance env a) (value-instance env b)
  holds-instance env (Primitive.symbol a) = ap (λ t. holds (Primitive.symbol t)) (value-instance env a)
  holds-instance env (Primitive.number a) = ap (λ t. holds (Primitive.number t)) (value-instance env a)
  holds-instance env (Primitive.text a) = ap (λ t. holds (Primitive.text t)) (value-instance env a)
  holds-instance env (Primitive.absent tag a) = ap (λ t. holds (Primitive.absent tag t)) (value-instance env a)

module _ (n : ℕ) where
  below-slot : (env : List Tm) (x : ℕ) → list_all (all_below n) env ≡ true → all_below n (slot env x) ≡ true
  below-slot [] x h = refl
  below-slot (t ∷ ts) zero h = (and_parts (all_below n t) (list_all (all_below n) ts) h).0
  below-slot (t ∷ ts) (suc x) h = below-slot ts x (and_parts (all_below n t) (list_all (all_below n) ts) h).1

  pub below-instance : (env : List Tm) → list_all (all_below n) env ≡ true → (t : Template) → all_below n (instance env t) ≡ true
  below-instance env h (Tree.leaf x) = below-slot env x h
  below-instance env h (Tree.sym s) = refl
  below-instance env h (Tree.str s) = refl
  below-instance env h (Tree.num k) = refl
  below-instance env h (Tree.truth b) = refl
  below-instance env h Tree.nil = refl
  below-instance env h (Tree.pair a b) = and_from (all_below n (instance env a)) (all_below n (instance env b)) (below-instance env h a) (below-instance env h b)

  pub below-instances : (env : List Tm) → list_all (all_below n) env ≡ true → (ts : List Template) → list_all (all_below n) (instances env ts) ≡ true
  below-instances env h [] = refl
  below-instances env h (t ∷ ts) =
      and_from (all_below n (instance env t)) (list_all (all_below n) (instances env ts)) (below-instance env h t) (below-instances env h ts)

  pub sides-below_instance : (env : List Tm) → list_all (all_below n) env ≡ true → (p : Primitive Template) → sides_below n (on_sides (instance env) p) ≡ true
  sides-below_instance env h (Primitive.same a b) = below-instance env h (Tree.pair a b)
  sides-below_instance env h (Primitive.differ a b) = below-instance env h (Tree.pair a b)
  sides-below_instance env h (Primitive.symbol a) = below-instance env h a
  sides-below_instance env h (Primitive.number a) = below-instance env h a
  sides-below_instance env h (Primitive.text a) = below-instance env h a
  sides-below_instance env h (Primitive.absent tag a) = below-instance env h a

-- the first value behind a valuation
pub value_at-next : (us : List Gd) (v : Gd) (vs : List Gd) → value_at (us ++ v ∷ vs) (length us) ≡ v
value_at-next [] v vs = refl
value_at-next (u ∷ us) v vs = value_at-next us v vs

-- one value that is put behind a valuation, in front of others
behind_one : (us : List Gd) (v : Gd) (vs : List Gd) (k : ℕ) → map (value ((us ++ v ∷ []) ++ vs)) (variables (length (us ++ v ∷ [])) k) ≡ vs →
    map (value (us ++ v ∷ vs)) (variables (suc (length us)) k) ≡ vs
behind_one us v vs k h =
    let long : length (us ++ v ∷ []) ≡ suc (length us) = omega (arith, length-append us (v ∷ [])) in
    ap₂ (λ ws n. map (value ws) (variables n k)) (sym (append_assoc us (v ∷ []) vs)) (sym long) ∙ h

-- the values of fresh variables are those that a valuation is longer by
pub values-variables : (us vs : List Gd) → map (value (us ++ vs)) (variables (length us) (length vs)) ≡ vs
values-variables us [] = refl
values-variables us (v ∷ vs) = ap₂ (λ u l. u ∷ l) (value_at-next us v vs) (behind_one us v vs (length vs) (values-variables (us ++ v ∷ []) vs))

pub below-variables : (m n k : ℕ) → n + k ≤ m → list_all (all_below m) (variables n k) ≡ true
below-variables m n zero le = refl
below-variables m n (suc k) le = and_from (all_below m (Tree.leaf n)) (list_all (all_below m) (variables (suc n) k)) (lt-ltb n m (omega (arith, le))) (below-variables m (suc n) k (omega (arith, le)))
