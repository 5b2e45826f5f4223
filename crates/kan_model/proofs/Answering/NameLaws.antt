-- Variables and their names: places in a list, and what naming does to terms.
use Rattle.std.proofs.Common.{◌≡◌, ◌⊎◌, ℕ, suc, ◌+◌, ◌<◌, ◌≤◌, Bool, true, false, ◌||◌, not, cond, eqb, nat_lt, List, [], ◌∷◌, ◌++◌, map, filter, length, inl, inr, sym, ap, ap₂, subst, refl, arith, ◌∙◌, if◌then◌else◌}
use Rattle.std.specs.List.{list_all}
use Rattle.std.proofs.lemmas.Bool.{and_from, and_parts, eq-eqb, eqb-true, eqb-false, ne_eqb, lt-ltb, or_cases, or_left, or_right, both_ways, true≢false, not_from_false, not-true}
use Rattle.std.proofs.lemmas.List.{length-map, map-append}
use Rattle.std.proofs.lemmas.List.Folds.{list_all-append, list_any-append}
use Rattle.kan_terms.specs.Tree.{Tree, Tm, fill, leaves}
use Rattle.kan_model.specs.Answers.Order.{each_once, place_of, stands_in}
use Rattle.kan_model.specs.Programs.Scope.{all_below}
use Rattle.kan_model.specs.Answers.Answer.{named_variables, in_names, names_where}
use Rattle.kan_model.specs.Answers.InForm.{counts_up, ascends, names_in_form, apart}
use Rattle.kan_model.proofs.ListLaws.{EachTwo, Each-like, each_once_apart}
use Rattle.kan_model.specs.Each.{Each}

eqb_turn : (a b : ℕ) (c : Bool) → eqb a b ≡ c → eqb b a ≡ c
eqb_turn a b true e = eq-eqb b a (sym (eqb-true a b e))
eqb_turn a b false e = ne_eqb b a (λ h. eqb-false a b e (sym h))

-- the place of what stands in a list is below its length
pub place_below : (vs : List ℕ) (v : ℕ) → stands_in vs v ≡ true → place_of vs v < length vs
place_below [] v h = absurd (true≢false (sym h))
place_below (x ∷ xs) v h = by (eqb x v) refl (place_below xs v)
  where
    by : (c : Bool) → eqb x v ≡ c → (stands_in xs v ≡ true → place_of xs v < length xs) → (if c then 0 else suc (place_of xs v)) < suc (length xs)
    by true e ih = omega arith
    by false e ih = elim (or_cases (eqb v x) (stands_in xs v) h) [
      | inl same ↦ absurd (both_ways (eqb x v) e (eqb_turn v x true same))
      | inr later ↦ omega (arith, ih later)
    ]

-- two variables at one place are the same
pub place_of-one : (vs : List ℕ) (v w : ℕ) → stands_in vs v ≡ true → place_of vs v ≡ place_of vs w → v ≡ w
place_of-one [] v w h e = absurd (true≢false (sym h))
place_of-one (x ∷ xs) v w h e = by (eqb x v) refl (eqb x w) refl (place_of-one xs v w) e
  where
    by : (c : Bool) → eqb x v ≡ c → (d : Bool) → eqb x w ≡ d → (stands_in xs v ≡ true → place_of xs v ≡ place_of xs w → v ≡ w) →
        (if c then 0 else suc (place_of xs v)) ≡ (if d then 0 else suc (place_of xs w)) → v ≡ w
    by true p true q ih e = sym (eqb-true x v p) ∙ eqb-true x w q
    by true p false q ih e = absurd (omega arith)
    by false p true q ih e = absurd (omega arith)
    by false p false q ih e = elim (or_cases (eqb v x) (stands_in xs v) h) [
      | inl same ↦ absurd (both_ways (eqb x v) p (eqb_turn v x true same))
      | inr later ↦ ih later (omega arith)
    ]

-- what passes a test is still there after the choice
stands-filter : (xs : List ℕ) (p : ℕ → Bool) (v : ℕ) → stands_in xs v ≡ true → p v ≡ true → stands_in (filter p xs) v ≡ true
stands-filter [] p v h k = absurd (true≢false (sym h))
stands-filter (x ∷ xs) p v h k = by (p x) refl (or_cases (eqb v x) (stands_in xs v) h) (λ l. stands-filter xs p v l k)
  where
    by : (c : Bool) → p x ≡ c → (eqb v x ≡ true) ⊎ (stands_in xs v ≡ true) → (stands_in xs v ≡ true → stands_in (filter p xs) v ≡ true) → stands_in (cond c (x ∷ filter p xs) (filter p xs)) v ≡ true
    by true e (inl same) ih = or_left (eqb v x) (stands_in (filter p xs) v) same
    by true e (inr later) ih = or_right (eqb v x) (stands_in (filter p xs) v) (ih later)
    by false e (inl same) ih = absurd (both_ways (p x) e (subst (λ w. p w ≡ true) (eqb-true v x same) k))
    by false e (inr later) ih = ih later

-- a list with each element once has every element
pub stands-each_once : (xs : List ℕ) (v : ℕ) → stands_in xs v ≡ true → stands_in (each_once eqb xs) v ≡ true
stands-each_once [] v h = h
stands-each_once (x ∷ xs) v h = by (eqb v x) refl (stands-each_once xs v)
  where
    by : (c : Bool) → eqb v x ≡ c → (stands_in xs v ≡ true → stands_in (each_once eqb xs) v ≡ true) → (c || stands_in (filter (λ y. not (eqb x y)) (each_once eqb xs)) v) ≡ true
    by true e ih = refl
    by false e ih = elim (or_cases (eqb v x) (stands_in xs v) h) [
      | inl same ↦ absurd (both_ways (eqb v x) e same)
      | inr later ↦ stands-filter (each_once eqb xs) (λ y. not (eqb x y)) v (ih later) (not_from_false (eqb x v) (eqb_turn v x false e))
    ]

-- the elements of a list stand in it
Each-stands : (xs : List ℕ) → Each (λ v. stands_in xs v ≡ true) xs
Each-stands [] = tt
Each-stands (x ∷ xs) = (or_left (eqb x x) (stands_in xs x) (eq-eqb x x refl), Each-like (λ v. stands_in xs v ≡ true) (λ v. stands_in (x ∷ xs) v ≡ true) (λ v. or_right (eqb v x) (stands_in xs v)) xs (Each-stands xs))

map_same : (f g : ℕ → ℕ) (xs : List ℕ) → Each (λ v. f v ≡ g v) xs → map f xs ≡ map g xs
map_same f g [] h = refl
map_same f g (x ∷ xs) (h, hs) = ap₂ (λ y ys. y ∷ ys) h (map_same f g xs hs)

-- the places in a list whose elements differ count up
places_from : (k : ℕ) (xs : List ℕ) → EachTwo (λ x y. eqb x y ≡ false) xs → counts_up k (map (λ v. k + place_of xs v) xs) ≡ true
places_from k [] h = refl
places_from k (x ∷ xs) (h, hs) =
    let first : k + place_of (x ∷ xs) x ≡ k = (rw (eq-eqb x x refl) (omega arith)) in
    let rest : map (λ v. k + place_of (x ∷ xs) v) xs ≡ map (λ v. suc k + place_of xs v) xs =
    map_same (λ v. k + place_of (x ∷ xs) v) (λ v. suc k + place_of xs v) xs (Each-like (λ y. eqb x y ≡ false) (λ v. k + place_of (x ∷ xs) v ≡ suc k + place_of xs v) (λ v e. rw e (omega arith)) xs h) in
    and_from (eqb k (k + place_of (x ∷ xs) x)) (counts_up (suc k) (map (λ v. k + place_of (x ∷ xs) v) xs)) (eq-eqb k (k + place_of (x ∷ xs) x) (sym first)) (rw rest (places_from (suc k) xs hs))

pub places_count : (xs : List ℕ) → EachTwo (λ x y. eqb x y ≡ false) xs → counts_up 0 (map (place_of xs) xs) ≡ true
places_count xs h = subst (λ ys. counts_up 0 ys ≡ true) (map_same (λ v. 0 + place_of xs v) (place_of xs) xs (every xs)) (places_from 0 xs h)
  where
    every : (ys : List ℕ) → Each (λ v. 0 + place_of xs v ≡ place_of xs v) ys
    every [] = tt
    every (y ∷ ys) = (omega arith, every ys)

-- taking each once and mapping, by a function that tells the elements apart
filter-map_once : (f : ℕ → ℕ) (x : ℕ) (ys : List ℕ) → Each (λ y. eqb (f x) (f y) ≡ eqb x y) ys → filter (λ y. not (eqb (f x) y)) (map f ys) ≡ map f (filter (λ y. not (eqb x y)) ys)
filter-map_once f x [] h = refl
filter-map_once f x (y ∷ ys) (h, hs) = rw h (by (eqb x y) (filter-map_once f x ys hs))
  where
    by : (c : Bool) → filter (λ y. not (eqb (f x) y)) (map f ys) ≡ map f (filter (λ y. not (eqb x y)) ys) →
        cond (not c) (f y ∷ filter (λ y. not (eqb (f x) y)) (map f ys)) (filter (λ y. not (eqb (f x) y)) (map f ys)) ≡ map f (cond (not c) (y ∷ filter (λ y. not (eqb x y)) ys) (filter (λ y. not (eqb x y)) ys))
    by true e = e
    by false e = ap (λ zs. f y ∷ zs) e

-- a list whose elements stand in another one, after taking each once
Each-each_once_map : (f : ℕ → ℕ) (all : List ℕ) → ((v w : ℕ) → stands_in all v ≡ true → f v ≡ f w → v ≡ w) →
    (xs : List ℕ) → Each (λ v. stands_in all v ≡ true) xs → each_once eqb (map f xs) ≡ map f (each_once eqb xs)
Each-each_once_map f all one [] h = refl
Each-each_once_map f all one (x ∷ xs) (h, hs) =
    rw (Each-each_once_map f all one xs hs) (ap (λ zs. f x ∷ zs) (filter-map_once f x (each_once eqb xs) (every (each_once eqb xs))))
  where
    told : (y : ℕ) (c : Bool) → eqb x y ≡ c → eqb (f x) (f y) ≡ c
    told y true e = eq-eqb (f x) (f y) (ap f (eqb-true x y e))
    told y false e = ne_eqb (f x) (f y) (λ same. eqb-false x y e (one x y h same))

    every : (ys : List ℕ) → Each (λ y. eqb (f x) (f y) ≡ eqb x y) ys
    every [] = tt
    every (y ∷ ys) = (told y (eqb x y) refl, every ys)

-- the leaves of a term with names
leaves-names : (f : ℕ → ℕ) (t : Tm) → leaves (fill (λ v. Tree.leaf (f v)) t) ≡ map f (leaves t)
leaves-names f (Tree.leaf v) = refl
leaves-names f (Tree.sym s) = refl
leaves-names f (Tree.str s) = refl
leaves-names f (Tree.num n) = refl
leaves-names f (Tree.truth b) = refl
leaves-names f Tree.nil = refl
leaves-names f (Tree.pair a b) = rw (leaves-names f a, leaves-names f b) (sym (map-append f (leaves a) (leaves b)))

-- the names of a term whose variables are named by their first occurrence: those of its variables
pub named_again : (t : Tm) → named_variables (in_names (named_variables t) t) ≡ map (place_of (named_variables t)) (named_variables t)
named_again t =
    ap (each_once eqb) (leaves-names (place_of (named_variables t)) t)
    ∙ Each-each_once_map (place_of (named_variables t)) (named_variables t) (place_of-one (named_variables t)) (leaves t)
    (Each-like (λ v. stands_in (leaves t) v ≡ true) (λ v. stands_in (named_variables t) v ≡ true) (stands-each_once (leaves t)) (leaves t) (Each-stands (leaves t)))

pub names_count_up : (t : Tm) → counts_up 0 (named_variables (in_names (named_variables t) t)) ≡ true
names_count_up t = rw (named_again t) (places_count (named_variables t) (each_once_apart eqb (leaves t)))

pub name_count-in_names : (t : Tm) → length (named_variables (in_names (named_variables t) t)) ≡ length (named_variables t)
name_count-in_names t = ap length (named_again t) ∙ length-map (named_variables t) (place_of (named_variables t))

-- a term over named variables has names below their number
pub all_below-in_names : (vs : List ℕ) (t : Tm) → list_all (stands_in vs) (leaves t) ≡ true → all_below (length vs) (in_names vs t) ≡ true
all_below-in_names vs (Tree.leaf v) h = lt-ltb (place_of vs v) (length vs) (place_below vs v (and_parts (stands_in vs v) true h).0)
all_below-in_names vs (Tree.sym s) h = refl
all_below-in_names vs (Tree.str s) h = refl
all_below-in_names vs (Tree.num n) h = refl
all_below-in_names vs (Tree.truth b) h = refl
all_below-in_names vs Tree.nil h = refl
all_below-in_names vs (Tree.pair a b) h =
    let (first, rest) = and_parts (list_all (stands_in vs) (leaves a)) (list_all (stands_in vs) (leaves b)) (sym (list_all-append (stands_in vs) (leaves a) (leaves b)) ∙ h) in
    and_from (all_below (length vs) (in_names vs a)) (all_below (length vs) (in_names vs b)) (all_below-in_names vs a first) (all_below-in_names vs b rest)

-- names of variables that pass a test: from the first name on, below the last, each once and in order
names_at_least : (p : ℕ → Bool) (n : ℕ) (vs : List ℕ) → Each (λ m. n ≤ m) (names_where p n vs)
names_at_least p n [] = tt
names_at_least p n (v ∷ vs) = by (p v) (Each-like (λ m. suc n ≤ m) (λ m. n ≤ m) (λ m l. omega arith) (names_where p (suc n) vs) (names_at_least p (suc n) vs))
  where
    by : (c : Bool) → Each (λ m. n ≤ m) (names_where p (suc n) vs) → Each (λ m. n ≤ m) (if c then n ∷ names_where p (suc n) vs else names_where p (suc n) vs)
    by true h = (omega arith, h)
    by false h = h

names_below : (p : ℕ → Bool) (n k : ℕ) (vs : List ℕ) → n + length vs ≤ k → list_all (λ v. nat_lt v k) (names_where p n vs) ≡ true
names_below p n k [] l = refl
names_below p n k (v ∷ vs) l = by (p v) (names_below p (suc n) k vs (omega arith))
  where
    by : (c : Bool) → list_all (λ v. nat_lt v k) (names_where p (suc n) vs) ≡ true → list_all (λ v. nat_lt v k) (if c then n ∷ names_where p (suc n) vs else names_where p (suc n) vs) ≡ true
    by true h = and_from (nat_lt n k) (list_all (λ v. nat_lt v k) (names_where p (suc n) vs)) (lt-ltb n k (omega arith)) h
    by false h = h

ascends_before : (n : ℕ) (ms : List ℕ) → Each (λ m. suc n ≤ m) ms → ascends nat_lt ms ≡ true → ascends nat_lt (n ∷ ms) ≡ true
ascends_before n [] h k = refl
ascends_before n (m ∷ ms) (h, hs) k = and_from (nat_lt n m) (ascends nat_lt (m ∷ ms)) (lt-ltb n m h) k

names_ascend : (p : ℕ → Bool) (n : ℕ) (vs : List ℕ) → ascends nat_lt (names_where p n vs) ≡ true
names_ascend p n [] = refl
names_ascend p n (v ∷ vs) = by (p v) (names_ascend p (suc n) vs)
  where
    by : (c : Bool) → ascends nat_lt (names_where p (suc n) vs) ≡ true → ascends nat_lt (if c then n ∷ names_where p (suc n) vs else names_where p (suc n) vs) ≡ true
    by true h = ascends_before n (names_where p (suc n) vs) (names_at_least p (suc n) vs) h
    by false h = h

pub names_where-in_form : (p : ℕ → Bool) (vs : List ℕ) → names_in_form (length vs) (names_where p 0 vs) ≡ true
names_where-in_form p vs = and_from (list_all (λ v. nat_lt v (length vs)) (names_where p 0 vs)) (ascends nat_lt (names_where p 0 vs)) (names_below p 0 (length vs) vs (omega arith)) (names_ascend p 0 vs)

-- names of variables that pass one of two tests that nothing passes both of
stands_later : (n : ℕ) (ms : List ℕ) → Each (λ m. suc n ≤ m) ms → stands_in ms n ≡ false
stands_later n [] h = refl
stands_later n (m ∷ ms) (h, hs) = rw (ne_eqb n m (λ e. omega arith)) (stands_later n ms hs)

apart_more : (n : ℕ) (xs ys : List ℕ) → Each (λ m. suc n ≤ m) xs → apart xs ys ≡ true → apart xs (n ∷ ys) ≡ true
apart_more n [] ys h k = refl
apart_more n (x ∷ xs) ys (h, hs) k =
    let (first, rest) = and_parts (not (stands_in ys x)) (apart xs ys) k in
    rw (ne_eqb x n (λ e. omega arith)) (and_from (not (stands_in ys x)) (apart xs (n ∷ ys)) first (apart_more n xs ys hs rest))

pub names_where-apart : (p q : ℕ → Bool) → ((v : ℕ) → p v ≡ true → q v ≡ false) → (n : ℕ) (vs : List ℕ) → apart (names_where p n vs) (names_where q n vs) ≡ true
names_where-apart p q other n [] = refl
names_where-apart p q other n (v ∷ vs) = by (p v) refl (q v) refl (names_where-apart p q other (suc n) vs)
  where
    by : (c : Bool) → p v ≡ c → (d : Bool) → q v ≡ d → apart (names_where p (suc n) vs) (names_where q (suc n) vs) ≡ true →
        apart (if c then n ∷ names_where p (suc n) vs else names_where p (suc n) vs) (if d then n ∷ names_where q (suc n) vs else names_where q (suc n) vs) ≡ true
    by true e true f h = absurd (both_ways (q v) (other v e) f)
    by true e false f h = and_from (not (stands_in (names_where q (suc n) vs) n)) (apart (names_where p (suc n) vs) (names_where q (suc n) vs)) (not_from_false (stands_in (names_where q (suc n) vs) n) (stands_later n (names_where q (suc n) vs) (names_at_least q (suc n) vs))) h
    by false e true f h = apart_more n (names_where p (suc n) vs) (names_where q (suc n) vs) (names_at_least p (suc n) vs) h
    by false e false f h = h

-- names that are apart from two lists are apart from both together
pub apart_both : (xs ys zs : List ℕ) → apart xs ys ≡ true → apart xs zs ≡ true → apart xs (ys ++ zs) ≡ true
apart_both [] ys zs h k = refl
apart_both (x ∷ xs) ys zs h k =
    let (first, firsts) = and_parts (not (stands_in ys x)) (apart xs ys) h in
    let (second, seconds) = and_parts (not (stands_in zs x)) (apart xs zs) k in
    let neither : stands_in (ys ++ zs) x ≡ false =
    list_any-append (eqb x) ys zs ∙ ap₂ (λ a b. a || b) (not-true (stands_in ys x) first) (not-true (stands_in zs x) second) in
    and_from (not (stands_in (ys ++ zs) x)) (apart xs (ys ++ zs)) (not_from_false (stands_in (ys ++ zs) x) neither) (apart_both xs ys zs firsts seconds)
