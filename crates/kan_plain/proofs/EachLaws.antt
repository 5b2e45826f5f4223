-- Tests of each item of a list, one after the other, and lists made of each.
use Rattle.std.proofs.Common.{◌≡◌, ℕ, ◌+◌, ◌<◌, ◌≤◌, Bool, true, false, List, [], ◌∷◌, ◌++◌, length, get_or, take, map, refl, sym, ◌∙◌, ap, append-nil}
use Rattle.std.specs.Prelude.{◌||◌, ◌&&◌}
use Rattle.std.specs.List.{list_any, list_all, flat_map}
use Rattle.std.proofs.lemmas.List.{map_push, take_more, take_all}
use Rattle.std.proofs.lemmas.List.Folds.{list_any_at, list_all_at, list_any-append, list_all-append}
use Rattle.std.proofs.lemmas.Grind.{flat_map-append}

module _ {X Y : Type 0} (f : X → Y) where
  -- what is made of the items up to one more
  pub made_more : (xs : List X) (i : ℕ) (x : X) → i < length xs → x ≡ get_or xs i x → map f (take (i + 1) xs) ≡ map f (take i xs) ++ f x ∷ []
  made_more xs i x below here =
      let more : take (i + 1) xs ≡ take i xs ++ x ∷ [] = rw (take_more xs i x below, ← here) refl in
      ap (map f) more ∙ map_push f (take i xs) x

  module _ (test : Y → Bool) where
    mapped_all : (xs : List X) → list_all (λ x. test (f x)) xs ≡ list_all test (map f xs)
    mapped_all [] = refl
    mapped_all (x ∷ xs) = ap (λ b. test (f x) && b) (mapped_all xs)

    mapped_any : (xs : List X) → list_any (λ x. test (f x)) xs ≡ list_any test (map f xs)
    mapped_any [] = refl
    mapped_any (x ∷ xs) = ap (λ b. test (f x) || b) (mapped_any xs)

    -- one passes, or fails
    pub one_found : (xs : List X) (i : ℕ) (x : X) → i < length xs → x ≡ get_or xs i x → test (f x) ≡ true → true ≡ list_any test (map f xs)
    one_found xs i x below here passes = sym (list_any_at (λ y. test (f y)) xs i x below (ap (λ y. test (f y)) (sym here) ∙ passes)) ∙ mapped_any xs

    pub one_fails : (xs : List X) (i : ℕ) (x : X) → i < length xs → x ≡ get_or xs i x → test (f x) ≡ false → false ≡ list_all test (map f xs)
    one_fails xs i x below here fails = sym (list_all_at (λ y. test (f y)) xs i x below (ap (λ y. test (f y)) (sym here) ∙ fails)) ∙ mapped_all xs

    -- so far none passes, or all do
    pub none_more : (xs : List X) (i : ℕ) (x : X) → i < length xs → x ≡ get_or xs i x → list_any test (map f (take i xs)) ≡ false → test (f x) ≡ false →
        list_any test (map f (take (i + 1) xs)) ≡ false
    none_more xs i x below here so_far fails =
        ap (list_any test) (made_more xs i x below here) ∙ list_any-append test (map f (take i xs)) (f x ∷ []) ∙ rw (so_far, fails) refl

    pub all_more : (xs : List X) (i : ℕ) (x : X) → i < length xs → x ≡ get_or xs i x → list_all test (map f (take i xs)) ≡ true → test (f x) ≡ true →
        list_all test (map f (take (i + 1) xs)) ≡ true
    all_more xs i x below here so_far passes =
        ap (list_all test) (made_more xs i x below here) ∙ list_all-append test (map f (take i xs)) (f x ∷ []) ∙ rw (so_far, passes) refl

    -- at the end none passes, or all do
    pub none_pass : (xs : List X) (i : ℕ) → length xs ≤ i → list_any test (map f (take i xs)) ≡ false → false ≡ list_any test (map f xs)
    none_pass xs i over none = sym none ∙ ap (λ ys. list_any test (map f ys)) (take_all i xs over)

    pub all_pass : (xs : List X) (i : ℕ) → length xs ≤ i → list_all test (map f (take i xs)) ≡ true → true ≡ list_all test (map f xs)
    all_pass xs i over all = sym all ∙ ap (λ ys. list_all test (map f ys)) (take_all i xs over)

  module _ {Z : Type 0} (g : Y → List Z) where
    -- what is listed of the items up to one more, and of all
    pub listed_more : (xs : List X) (i : ℕ) (x : X) (listed longer : List Z) → i < length xs → x ≡ get_or xs i x →
        listed ≡ flat_map g (map f (take i xs)) → longer ≡ listed ++ g (f x) → longer ≡ flat_map g (map f (take (i + 1) xs))
    listed_more xs i x listed longer below here so_far grown =
        grown ∙ ap (λ l. l ++ g (f x)) so_far ∙ ap (λ l. flat_map g (map f (take i xs)) ++ l) (sym (append-nil (g (f x))))
        ∙ sym (flat_map-append g (map f (take i xs)) (f x ∷ [])) ∙ ap (flat_map g) (sym (made_more xs i x below here))

    pub all_listed : (xs : List X) (i : ℕ) (listed : List Z) → length xs ≤ i → listed ≡ flat_map g (map f (take i xs)) → listed ≡ flat_map g (map f xs)
    all_listed xs i listed over so_far = so_far ∙ ap (λ ys. flat_map g (map f ys)) (take_all i xs over)
