-- What holds of all elements of a list, where it holds of those that were chosen, named, taken once each or put in order.
use Rattle.std.proofs.Common.{◌≡◌, ℕ, suc, ◌+◌, Bool, true, false, not, cond, eqb, List, [], ◌∷◌, ◌++◌, length, map, filter, inl, inr, refl, sym, ap, subst, ◌∙◌, arith, append_assoc, if◌then◌else◌}
use Rattle.std.specs.List.{list_all}
use Rattle.std.proofs.lemmas.Bool.{and_from, and_parts, or_cases, or_left, or_right, eq-eqb, eqb-true, both_ways, not-false, true≢false}
use Rattle.std.proofs.lemmas.List.{length_push}
use Rattle.kan_terms.specs.Tree.{Tm, Gd, leaves}
use Rattle.kan_terms.specs.Valuations.{value_at}
use Rattle.kan_model.specs.Answers.Answer.{named_variables, names_where}
use Rattle.kan_model.specs.Answers.Order.{each_once, put_in_order, in_order, place_of, stands_in}
use Rattle.kan_model.proofs.ListLaws.{Each-like, list_all-from_Each}
use Rattle.kan_model.specs.Each.{Each}
use Rattle.pull_bounds.proofs.LongerValuations.{value_at-next}

module _ {X : Type 0} where
  -- what holds of the chosen elements and of the others
  pub Each-from_filter : (P : X → Type 0) (p : X → Bool) → ((x : X) → p x ≡ false → P x) → (xs : List X) → Each P (filter p xs) → Each P xs
  Each-from_filter P p others [] h = tt
  Each-from_filter P p others (x ∷ xs) h = by (p x) refl h (Each-from_filter P p others xs)
    where
      by : (c : Bool) → p x ≡ c → Each P (cond c (x ∷ filter p xs) (filter p xs)) → (Each P (filter p xs) → Each P xs) → Each P (x ∷ xs)
      by true e (k, ks) ih = (k, ih ks)
      by false e k ih = (others x e, ih k)

  -- what holds of the elements that are taken once, and of all that are the same as these
  pub Each-from_once : (P : X → Type 0) (same : X → X → Bool) → ((x y : X) → same x y ≡ true → P x → P y) → (xs : List X) → Each P (each_once same xs) → Each P xs
  Each-from_once P same alike [] h = tt
  Each-from_once P same alike (x ∷ xs) (h, hs) = (
    h,
    Each-from_once P same alike xs (Each-from_filter P (λ y. not (same x y)) (λ y e. alike x y (not-false (same x y) e) h) (each_once same xs) hs),
  )

  from_put : (P : X → Type 0) (le : X → X → Bool) (x : X) (xs : List X) → Each P (put_in_order le x xs) → P x × Each P xs
  from_put P le x [] (h, hs) = (h, tt)
  from_put P le x (y ∷ ys) h = by (le x y) h (from_put P le x ys)
    where
      by : (c : Bool) → Each P (if c then x ∷ y ∷ ys else y ∷ put_in_order le x ys) → (Each P (put_in_order le x ys) → P x × Each P ys) → P x × Each P (y ∷ ys)
      by true (k, ks) ih = (k, ks)
      by false (k, ks) ih = let (first, rest) = ih ks in (first, (k, rest))

  pub Each-from_in_order : (P : X → Type 0) (le : X → X → Bool) (xs : List X) → Each P (in_order le xs) → Each P xs
  Each-from_in_order P le [] h = tt
  Each-from_in_order P le (x ∷ xs) h = let (first, rest) = from_put P le x (in_order le xs) h in (first, Each-from_in_order P le xs rest)

pub Each-from_map : {X Y : Type 0} (P : Y → Type 0) (f : X → Y) (xs : List X) → Each P (map f xs) → Each (λ x. P (f x)) xs
Each-from_map P f [] h = tt
Each-from_map P f (x ∷ xs) (h, hs) = (h, Each-from_map P f xs hs)

-- the variables of a term are among its named variables
elements_stand : (xs : List ℕ) → Each (λ v. stands_in xs v ≡ true) xs
elements_stand [] = tt
elements_stand (x ∷ xs) = (
  or_left (eqb x x) (stands_in xs x) (eq-eqb x x refl),
  Each-like (λ v. stands_in xs v ≡ true) (λ v. stands_in (x ∷ xs) v ≡ true) (λ v. or_right (eqb v x) (stands_in xs v)) xs (elements_stand xs),
)

pub variables_named : (t : Tm) → list_all (stands_in (named_variables t)) (leaves t) ≡ true
variables_named t =
    list_all-from_Each (stands_in (named_variables t)) (leaves t)
    (Each-from_once (λ v. stands_in (named_variables t) v ≡ true) eqb (λ v w e. subst (λ x. stands_in (named_variables t) x ≡ true) (eqb-true v w e)) (leaves t)
    (elements_stand (named_variables t)))

-- a test that all names pass of variables that pass another one, at the name of one of these
pub named_pass : (p T : ℕ → Bool) (n : ℕ) (vs : List ℕ) (v : ℕ) → list_all T (names_where p n vs) ≡ true → stands_in vs v ≡ true → p v ≡ true → T (n + place_of vs v) ≡ true
named_pass p T n [] v h k e = absurd (true≢false (sym k))
named_pass p T n (x ∷ xs) v h k e = by (eqb x v) refl (p x) refl h (λ l m. named_pass p T (suc n) xs v l m e)
  where
    later : eqb x v ≡ false → stands_in xs v ≡ true
    later other = elim (or_cases (eqb v x) (stands_in xs v) k) [
      | inl same ↦ absurd (both_ways (eqb x v) other (eq-eqb x v (sym (eqb-true v x same))))
      | inr there ↦ there
    ]

    moved : T (suc n + place_of xs v) ≡ true → T (n + suc (place_of xs v)) ≡ true
    moved t = subst (λ m. T m ≡ true) (omega arith) t

    by : (c : Bool) → eqb x v ≡ c → (d : Bool) → p x ≡ d → list_all T (if d then n ∷ names_where p (suc n) xs else names_where p (suc n) xs) ≡ true →
        (list_all T (names_where p (suc n) xs) ≡ true → stands_in xs v ≡ true → T (suc n + place_of xs v) ≡ true) → T (n + (if c then 0 else suc (place_of xs v))) ≡ true
    by true same true pass l ih = subst (λ m. T m ≡ true) (omega arith) (and_parts (T n) (list_all T (names_where p (suc n) xs)) l).0
    by true same false fail l ih = absurd (both_ways (p x) fail (subst (λ w. p w ≡ true) (sym (eqb-true x v same)) e))
    by false other true pass l ih = moved (ih (and_parts (T n) (list_all T (names_where p (suc n) xs)) l).1 (later other))
    by false other false fail l ih = moved (ih l (later other))

-- the values of variables, in the order of their names
pub value_at-place : (h : ℕ → Gd) (vs : List ℕ) (v : ℕ) → stands_in vs v ≡ true → value_at (map h vs) (place_of vs v) ≡ h v
value_at-place h [] v k = absurd (true≢false (sym k))
value_at-place h (x ∷ xs) v k = by (eqb x v) refl (value_at-place h xs v)
  where
    by : (c : Bool) → eqb x v ≡ c → (stands_in xs v ≡ true → value_at (map h xs) (place_of xs v) ≡ h v) → value_at (h x ∷ map h xs) (if c then 0 else suc (place_of xs v)) ≡ h v
    by true same ih = ap h (eqb-true x v same)
    by false other ih = elim (or_cases (eqb v x) (stands_in xs v) k) [
      | inl same ↦ absurd (both_ways (eqb x v) other (eq-eqb x v (sym (eqb-true v x same))))
      | inr there ↦ ih there
    ]

-- what holds of the values of variables that pass a test holds at their names
pub values_pass : (R : Gd → Bool) (p : ℕ → Bool) (h : ℕ → Gd) → ((v : ℕ) → p v ≡ true → R (h v) ≡ true) → (before : List Gd) (vs : List ℕ) →
    list_all (λ m. R (value_at (before ++ map h vs) m)) (names_where p (length before) vs) ≡ true
values_pass R p h each before [] = refl
values_pass R p h each before (x ∷ xs) = by (p x) refl (rest (values_pass R p h each (before ++ h x ∷ []) xs))
  where
    rest : list_all (λ m. R (value_at ((before ++ h x ∷ []) ++ map h xs) m)) (names_where p (length (before ++ h x ∷ [])) xs) ≡ true →
        list_all (λ m. R (value_at (before ++ h x ∷ map h xs) m)) (names_where p (suc (length before)) xs) ≡ true
    rest k =
        subst (λ l. list_all (λ m. R (value_at l m)) (names_where p (suc (length before)) xs) ≡ true) (append_assoc before (h x ∷ []) (map h xs))
        (subst (λ n. list_all (λ m. R (value_at ((before ++ h x ∷ []) ++ map h xs) m)) (names_where p n xs) ≡ true) (omega (arith, length_push before (h x))) k)

    by : (c : Bool) → p x ≡ c → list_all (λ m. R (value_at (before ++ h x ∷ map h xs) m)) (names_where p (suc (length before)) xs) ≡ true →
        list_all (λ m. R (value_at (before ++ h x ∷ map h xs) m)) (if c then length before ∷ names_where p (suc (length before)) xs else names_where p (suc (length before)) xs) ≡ true
    by true e k =
        and_from (R (value_at (before ++ h x ∷ map h xs) (length before))) (list_all (λ m. R (value_at (before ++ h x ∷ map h xs) m)) (names_where p (suc (length before)) xs))
        (ap R (value_at-next before (h x) (map h xs)) ∙ each x e) k
    by false e k = k
