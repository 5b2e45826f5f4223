-- What holds of each element of a list, and of each two, also after sorting, choosing and taking each element once.
use Rattle.std.proofs.Common.{◌≡◌, Bool, true, false, not, cond, List, [], ◌∷◌, ◌++◌, subst, map, filter, refl, if◌then◌else◌}
use Rattle.std.specs.List.{list_all, list_any}
use Rattle.std.proofs.lemmas.Bool.{and_from, and_parts, or_from, or_parts, not-true}
use Rattle.kan_model.specs.Each.{Each}
use Rattle.kan_model.specs.Answers.Order.{put_in_order, in_order, each_once}
use Rattle.kan_model.specs.Answers.InForm.{ascends}

-- a fact of each element with each one behind it
abbrev pub EachTwo : {X : Type 0} → (X → X → Type 0) → List X → Type 0
EachTwo R [] = Unit {0}
EachTwo R (x ∷ xs) = Each (R x) xs × EachTwo R xs

module _ {X : Type 0} where
  pub list_all-from_Each : (p : X → Bool) (xs : List X) → Each (λ x. p x ≡ true) xs → list_all p xs ≡ true
  list_all-from_Each p [] h = refl
  list_all-from_Each p (x ∷ xs) (h, hs) = and_from (p x) (list_all p xs) h (list_all-from_Each p xs hs)

  pub Each-from_list_all : (p : X → Bool) (xs : List X) → list_all p xs ≡ true → Each (λ x. p x ≡ true) xs
  Each-from_list_all p [] h = tt
  Each-from_list_all p (x ∷ xs) h = let (first, rest) = and_parts (p x) (list_all p xs) h in (first, Each-from_list_all p xs rest)

  pub list_any_none-from_Each : (p : X → Bool) (xs : List X) → Each (λ x. p x ≡ false) xs → list_any p xs ≡ false
  list_any_none-from_Each p [] h = refl
  list_any_none-from_Each p (x ∷ xs) (h, hs) = or_from (p x) (list_any p xs) h (list_any_none-from_Each p xs hs)

  pub Each-from_list_any_none : (p : X → Bool) (xs : List X) → list_any p xs ≡ false → Each (λ x. p x ≡ false) xs
  Each-from_list_any_none p [] h = tt
  Each-from_list_any_none p (x ∷ xs) h = let (first, rest) = or_parts (p x) (list_any p xs) h in (first, Each-from_list_any_none p xs rest)

  pub Each-like : (P Q : X → Type 0) → ((x : X) → P x → Q x) → (xs : List X) → Each P xs → Each Q xs
  Each-like P Q f [] h = tt
  Each-like P Q f (x ∷ xs) (h, hs) = (f x h, Each-like P Q f xs hs)

  pub Each-append : (P : X → Type 0) (xs ys : List X) → Each P xs → Each P ys → Each P (xs ++ ys)
  Each-append P [] ys h k = k
  Each-append P (x ∷ xs) ys (h, hs) k = (h, Each-append P xs ys hs k)

  pub Each-last : (P : X → Type 0) (xs : List X) (x : X) → Each P xs → P x → Each P (xs ++ x ∷ [])
  Each-last P [] x h k = (k, tt)
  Each-last P (y ∷ xs) x (h, hs) k = (h, Each-last P xs x hs k)

  pub Each-front : (P : X → Type 0) (xs rest : List X) (x : X) → xs ≡ rest ++ x ∷ [] → Each P xs → Each P rest × P x
  Each-front P xs rest x split h = go rest (subst (Each P) split h)
    where
      go : (ys : List X) → Each P (ys ++ x ∷ []) → Each P ys × P x
      go [] (k, end) = (tt, k)
      go (y ∷ ys) (k, ks) = let (more, last) = go ys ks in ((k, more), last)

  pub Each-both : (P Q : X → Type 0) (xs : List X) → Each P xs → Each Q xs → Each (λ x. P x × Q x) xs
  Each-both P Q [] h k = tt
  Each-both P Q (x ∷ xs) (h, hs) (k, ks) = ((h, k), Each-both P Q xs hs ks)

  pub Each-all : (P : X → Type 0) → ((x : X) → P x) → (xs : List X) → Each P xs
  Each-all P f [] = tt
  Each-all P f (x ∷ xs) = (f x, Each-all P f xs)

  pub EachTwo-like : (R S : X → X → Type 0) → ((x y : X) → R x y → S x y) → (xs : List X) → EachTwo R xs → EachTwo S xs
  EachTwo-like R S f [] h = tt
  EachTwo-like R S f (x ∷ xs) (h, hs) = (Each-like (R x) (S x) (f x) xs h, EachTwo-like R S f xs hs)

  -- a fact of each of two elements is one of the two
  pub EachTwo-with : (P : X → Type 0) (R : X → X → Type 0) (xs : List X) → Each P xs → EachTwo R xs → EachTwo (λ x y. P x × P y × R x y) xs
  EachTwo-with P R [] h k = tt
  EachTwo-with P R (x ∷ xs) (h, hs) (k, ks) = (Each-like (λ y. P y × R x y) (λ y. P x × P y × R x y) (λ y (p, r). (h, p, r)) xs (Each-both P (R x) xs hs k), EachTwo-with P R xs hs ks)

  -- a chosen element is one of the list, and passes the test
  pub Each-filter : (P : X → Type 0) (p : X → Bool) (xs : List X) → Each P xs → Each P (filter p xs)
  Each-filter P p [] h = tt
  Each-filter P p (x ∷ xs) (h, hs) = by (p x) (Each-filter P p xs hs)
    where
      by : (c : Bool) → Each P (filter p xs) → Each P (cond c (x ∷ filter p xs) (filter p xs))
      by true k = (h, k)
      by false k = k

  pub filter_passed : (p : X → Bool) (xs : List X) → Each (λ x. p x ≡ true) (filter p xs)
  filter_passed p [] = tt
  filter_passed p (x ∷ xs) = by (p x) refl (filter_passed p xs)
    where
      by : (c : Bool) → p x ≡ c → Each (λ x. p x ≡ true) (filter p xs) → Each (λ x. p x ≡ true) (cond c (x ∷ filter p xs) (filter p xs))
      by true e h = (e, h)
      by false e h = h

  pub EachTwo-filter : (R : X → X → Type 0) (p : X → Bool) (xs : List X) → EachTwo R xs → EachTwo R (filter p xs)
  EachTwo-filter R p [] h = tt
  EachTwo-filter R p (x ∷ xs) (h, hs) = by (p x) (EachTwo-filter R p xs hs)
    where
      by : (c : Bool) → EachTwo R (filter p xs) → EachTwo R (cond c (x ∷ filter p xs) (filter p xs))
      by true k = (Each-filter (R x) p xs h, k)
      by false k = k

  -- an element that is taken once is one of the list, and no two are the same
  pub Each-each_once : (P : X → Type 0) (same : X → X → Bool) (xs : List X) → Each P xs → Each P (each_once same xs)
  Each-each_once P same [] h = tt
  Each-each_once P same (x ∷ xs) (h, hs) = (h, Each-filter P (λ y. not (same x y)) (each_once same xs) (Each-each_once P same xs hs))

  pub each_once_apart : (same : X → X → Bool) (xs : List X) → EachTwo (λ x y. same x y ≡ false) (each_once same xs)
  each_once_apart same [] = tt
  each_once_apart same (x ∷ xs) = (
    Each-like (λ y. not (same x y) ≡ true) (λ y. same x y ≡ false) (λ y. not-true (same x y)) (filter (λ y. not (same x y)) (each_once same xs))
        (filter_passed (λ y. not (same x y)) (each_once same xs)),
    EachTwo-filter (λ x y. same x y ≡ false) (λ y. not (same x y)) (each_once same xs) (each_once_apart same xs),
  )

  -- sorting keeps what holds of each element, and of each two where the order doesn't matter
  pub Each-put : (P : X → Type 0) (le : X → X → Bool) (x : X) (xs : List X) → P x → Each P xs → Each P (put_in_order le x xs)
  Each-put P le x [] h k = (h, tt)
  Each-put P le x (y ∷ ys) h (k, ks) = by (le x y) (Each-put P le x ys h ks)
    where
      by : (c : Bool) → Each P (put_in_order le x ys) → Each P (if c then x ∷ y ∷ ys else y ∷ put_in_order le x ys)
      by true r = (h, (k, ks))
      by false r = (k, r)

  pub Each-in_order : (P : X → Type 0) (le : X → X → Bool) (xs : List X) → Each P xs → Each P (in_order le xs)
  Each-in_order P le [] h = tt
  Each-in_order P le (x ∷ xs) (h, hs) = Each-put P le x (in_order le xs) h (Each-in_order P le xs hs)

  EachTwo-put : (R : X → X → Type 0) → ((x y : X) → R x y → R y x) → (le : X → X → Bool) (x : X) (xs : List X) → Each (R x) xs → EachTwo R xs → EachTwo R (put_in_order le x xs)
  EachTwo-put R turn le x [] h k = (tt, tt)
  EachTwo-put R turn le x (y ∷ ys) (h, hs) (k, ks) = by (le x y) (EachTwo-put R turn le x ys hs ks)
    where
      by : (c : Bool) → EachTwo R (put_in_order le x ys) → EachTwo R (if c then x ∷ y ∷ ys else y ∷ put_in_order le x ys)
      by true r = ((h, hs), (k, ks))
      by false r = (Each-put (R y) le x ys (turn x y h) k, r)

  pub EachTwo-in_order : (R : X → X → Type 0) → ((x y : X) → R x y → R y x) → (le : X → X → Bool) (xs : List X) → EachTwo R xs → EachTwo R (in_order le xs)
  EachTwo-in_order R turn le [] h = tt
  EachTwo-in_order R turn le (x ∷ xs) (h, hs) = EachTwo-put R turn le x (in_order le xs) (Each-in_order (R x) le xs h) (EachTwo-in_order R turn le xs hs)

  -- a list that was put in order ascends, where of two elements one doesn't stand behind the other
  module _ (le : X → X → Bool) (total : (x y : X) → le x y ≡ false → le y x ≡ true) where
    put_behind : (z x : X) (xs : List X) → le z x ≡ true → ascends le (z ∷ xs) ≡ true → ascends le (put_in_order le x xs) ≡ true → ascends le (z ∷ put_in_order le x xs) ≡ true
    put_behind z x [] h k r = rw h refl
    put_behind z x (y ∷ ys) h k r = by (le x y) r
      where
        first : le z y ≡ true
        first = (and_parts (le z y) (ascends le (y ∷ ys)) k).0

        by : (c : Bool) → ascends le (if c then x ∷ y ∷ ys else y ∷ put_in_order le x ys) ≡ true → ascends le (z ∷ (if c then x ∷ y ∷ ys else y ∷ put_in_order le x ys)) ≡ true
        by true s = rw h s
        by false s = rw first s

    ascends_rest : (x : X) (xs : List X) → ascends le (x ∷ xs) ≡ true → ascends le xs ≡ true
    ascends_rest x [] h = refl
    ascends_rest x (y ∷ ys) h = (and_parts (le x y) (ascends le (y ∷ ys)) h).1

    ascends_put : (x : X) (xs : List X) → ascends le xs ≡ true → ascends le (put_in_order le x xs) ≡ true
    ascends_put x [] h = refl
    ascends_put x (y ∷ ys) h = by (le x y) refl (ascends_put x ys (ascends_rest y ys h))
      where
        by : (c : Bool) → le x y ≡ c → ascends le (put_in_order le x ys) ≡ true → ascends le (if c then x ∷ y ∷ ys else y ∷ put_in_order le x ys) ≡ true
        by true e r = rw e h
        by false e r = put_behind y x ys (total x y e) h r

    pub ascends-in_order : (xs : List X) → ascends le (in_order le xs) ≡ true
    ascends-in_order [] = refl
    ascends-in_order (x ∷ xs) = ascends_put x (in_order le xs) (ascends-in_order xs)

  -- where each two elements are apart, a list that ascends does so strictly
  pub ascends_strictly : (le before : X → X → Bool) (R : X → X → Type 0) → ((x y : X) → R x y → le x y ≡ true → before x y ≡ true) →
      (xs : List X) → EachTwo R xs → ascends le xs ≡ true → ascends before xs ≡ true
  ascends_strictly le before R f [] h k = refl
  ascends_strictly le before R f (x ∷ []) h k = refl
  ascends_strictly le before R f (x ∷ y ∷ ys) ((h, hs), rest) k =
      let (first, last) = and_parts (le x y) (ascends le (y ∷ ys)) k in
      and_from (before x y) (ascends before (y ∷ ys)) (f x y h first) (ascends_strictly le before R f (y ∷ ys) rest last)

pub Each-map : {X Y : Type 0} (P : Y → Type 0) (f : X → Y) (xs : List X) → Each (λ x. P (f x)) xs → Each P (map f xs)
Each-map P f [] h = tt
Each-map P f (x ∷ xs) (h, hs) = (h, Each-map P f xs hs)

pub EachTwo-map : {X Y : Type 0} (R : Y → Y → Type 0) (f : X → Y) (xs : List X) → EachTwo (λ x y. R (f x) (f y)) xs → EachTwo R (map f xs)
EachTwo-map R f [] h = tt
EachTwo-map R f (x ∷ xs) (h, hs) = (Each-map (R (f x)) f xs h, EachTwo-map R f xs hs)

pub ascends-map : {X Y : Type 0} (before : Y → Y → Bool) (earlier : X → X → Bool) (f : X → Y) (P : X → Type 0) →
    ((x y : X) → P x → P y → earlier x y ≡ true → before (f x) (f y) ≡ true) → (xs : List X) → Each P xs → ascends earlier xs ≡ true → ascends before (map f xs) ≡ true
ascends-map before earlier f P g [] h k = refl
ascends-map before earlier f P g (x ∷ []) h k = refl
ascends-map before earlier f P g (x ∷ y ∷ ys) (p, (q, ps)) k =
    let (first, last) = and_parts (earlier x y) (ascends earlier (y ∷ ys)) k in
    and_from (before (f x) (f y)) (ascends before (map f (y ∷ ys))) (g x y p q first) (ascends-map before earlier f P g (y ∷ ys) (q, ps) last)
