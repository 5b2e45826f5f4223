-- What is one of a list that is longer at its end.
use Rattle.std.proofs.Common.{◌≡◌, Bool, true, false, List, [], ◌∷◌, ◌++◌, ◌⊎◌, inl, inr, sym, subst, refl}
use Rattle.std.specs.List.{list_any}
use Rattle.std.proofs.lemmas.Bool.{or_left, or_right}
use Rattle.diseq.specs.Among.{Among}

pub among-left : {X : Type 0} (x : X) (xs ys : List X) → Among x xs → Among x (xs ++ ys)
among-left x [] ys none = absurd none
among-left x (y ∷ xs) ys (inl e) = inl e
among-left x (y ∷ xs) ys (inr a) = inr (among-left x xs ys a)

pub among-last : {X : Type 0} (x : X) (xs : List X) → Among x (xs ++ x ∷ [])
among-last x [] = inl refl
among-last x (y ∷ xs) = inr (among-last x xs)

pub among-cases : {X : Type 0} (x y : X) (xs : List X) → Among x (xs ++ y ∷ []) → Among x xs ⊎ (x ≡ y)
among-cases x y [] (inl e) = inr (sym e)
among-cases x y [] (inr none) = absurd none
among-cases x y (z ∷ xs) (inl e) = inl (inl e)
among-cases x y (z ∷ xs) (inr a) = elim (among-cases x y xs a) [
  | inl b ↦ inl (inr b)
  | inr e ↦ inr e
]

-- a test that one of a list passes, or none
pub any-among : {X : Type 0} (p : X → Bool) (xs : List X) (x : X) → Among x xs → p x ≡ true → list_any p xs ≡ true
any-among p [] x none h = absurd none
any-among p (y ∷ xs) x (inl e) h = or_left (p y) (list_any p xs) (subst (λ z. p z ≡ true) (sym e) h)
any-among p (y ∷ xs) x (inr a) h = or_right (p y) (list_any p xs) (any-among p xs x a h)

pub none-among : {X : Type 0} (p : X → Bool) (xs : List X) → ((x : X) → Among x xs → p x ≡ false) → list_any p xs ≡ false
none-among p [] h = refl
none-among p (x ∷ xs) h = rw (h x (inl refl), none-among p xs (λ y a. h y (inr a))) refl
