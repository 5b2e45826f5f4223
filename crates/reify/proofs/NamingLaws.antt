-- Names of variables, and the shapes of letters.
use Rattle.std.proofs.Common.{◌≡◌, ℕ, suc, ◌+◌, ◌<◌, Bool, true, false, eqb, List, [], ◌∷◌, ◌++◌, length, map, filter, get_or, take, refl, sym, ◌∙◌, ap, ap₂, append-nil, arith, not, eqb-true, eq-eqb, ne_eqb, true≢false, Option, Some, None, option_map, subst}
use Rattle.std.specs.Prelude.{◌||◌, if◌then◌else◌}
use Rattle.std.proofs.lemmas.List.Elements.{filter-append}
use Rattle.std.proofs.lemmas.List.{map-append, take_more, length-take-le}
use Rattle.kan_terms.specs.Tree.{Tree, Tm, leaves}
use Rattle.kan_model.specs.Answers.Order.{each_once, place_of, stands_in}
use Rattle.kan_model.specs.Answers.Answer.{in_names, names_where}
use Rattle.kan_model.specs.Terms.Letters as letters_of
use Rattle.kan_model.specs.declared.letters.Letter.{Letter}
use Rattle.kan_model.specs.declared.letters.Letter.TheVariants.{Pair, Var, Sym, Str, Num, Truth, Nil}
use Rattle.reify.specs.declared.shaping.Shape.TheVariants as shapes
use Rattle.reify.specs.Shapes.{spelling}
use Rattle.reify.specs.Typing.{here}
use Rattle.reify.specs.Naming.{variables_of, shape_in, with_variable, with_letter, name_in}

-- a variable that another one is, or isn't, taken out of a list
filter_one : (x v : ℕ) (b : Bool) → eqb x v ≡ b → filter (λ y. not (eqb x y)) (v ∷ []) ≡ (if b then [] else v ∷ [])
filter_one x v true e = ap (λ b. if not b then v ∷ [] else []) e
filter_one x v false e = ap (λ b. if not b then v ∷ [] else []) e

stands_in_kept : (b : Bool) (x v y : ℕ) (ys : List ℕ) → eqb v x ≡ false → eqb x y ≡ b → stands_in (filter (λ z. not (eqb x z)) ys) v ≡ stands_in ys v →
    stands_in (filter (λ z. not (eqb x z)) (y ∷ ys)) v ≡ (eqb v y || stands_in ys v)
stands_in_kept true x v y ys other same ih =
    ap (λ b. stands_in (if not b then y ∷ filter (λ z. not (eqb x z)) ys else filter (λ z. not (eqb x z)) ys) v) same ∙ ih
    ∙ sym (ap (λ b. b || stands_in ys v) (ap (eqb v) (sym (eqb-true x y same)) ∙ other))
stands_in_kept false x v y ys other same ih =
    ap (λ b. stands_in (if not b then y ∷ filter (λ z. not (eqb x z)) ys else filter (λ z. not (eqb x z)) ys) v) same ∙ ap (λ b. eqb v y || b) ih

stands_in-filter : (x v : ℕ) (ys : List ℕ) → eqb v x ≡ false → stands_in (filter (λ z. not (eqb x z)) ys) v ≡ stands_in ys v
stands_in-filter x v [] other = refl
stands_in-filter x v (y ∷ ys) other = stands_in_kept (eqb x y) x v y ys other refl (stands_in-filter x v ys other)

pub eqb-flip : (x v : ℕ) (b : Bool) → eqb v x ≡ b → eqb x v ≡ b
eqb-flip x v true e = eq-eqb x v (sym (eqb-true v x e))
eqb-flip x v false e = ne_eqb x v (λ same. absurd (true≢false (sym (eq-eqb v x (sym same)) ∙ e)))

once_here : (b : Bool) (x v : ℕ) (E : List ℕ) → eqb v x ≡ true → stands_in E v ≡ b →
    x ∷ filter (λ z. not (eqb x z)) (with_variable E v) ≡ with_variable (x ∷ filter (λ z. not (eqb x z)) E) v
once_here true x v E same there = rw (there, same) refl
once_here false x v E same there =
    rw (there, same) (ap (λ ys. x ∷ ys) (filter-append (λ z. not (eqb x z)) E (v ∷ []) ∙ ap (λ ys. filter (λ z. not (eqb x z)) E ++ ys) (filter_one x v true (eqb-flip x v true same)) ∙ append-nil _))

once_there : (b : Bool) (x v : ℕ) (E : List ℕ) → eqb v x ≡ false → stands_in E v ≡ b →
    x ∷ filter (λ z. not (eqb x z)) (with_variable E v) ≡ with_variable (x ∷ filter (λ z. not (eqb x z)) E) v
once_there true x v E other there = rw (there, other, stands_in-filter x v E other, there) refl
once_there false x v E other there =
    rw (there, other, stands_in-filter x v E other, there)
    (ap (λ ys. x ∷ ys) (filter-append (λ z. not (eqb x z)) E (v ∷ []) ∙ ap (λ ys. filter (λ z. not (eqb x z)) E ++ ys) (filter_one x v false (eqb-flip x v false other))))

once_step : (b : Bool) (x v : ℕ) (E : List ℕ) → eqb v x ≡ b →
    x ∷ filter (λ z. not (eqb x z)) (with_variable E v) ≡ with_variable (x ∷ filter (λ z. not (eqb x z)) E) v
once_step true x v E same = once_here (stands_in E v) x v E same refl
once_step false x v E other = once_there (stands_in E v) x v E other refl

-- a list with one variable more, each once
pub each_once-push : (xs : List ℕ) (v : ℕ) → each_once eqb (xs ++ v ∷ []) ≡ with_variable (each_once eqb xs) v
each_once-push [] v = refl
each_once-push (x ∷ xs) v = ap (λ ys. x ∷ filter (λ z. not (eqb x z)) ys) (each_once-push xs v) ∙ once_step (eqb v x) x v (each_once eqb xs) refl

variables_of-append : (xs ys : List Letter) → variables_of (xs ++ ys) ≡ variables_of xs ++ variables_of ys
variables_of-append [] ys = refl
variables_of-append (Pair ∷ xs) ys = variables_of-append xs ys
variables_of-append (Var v ∷ xs) ys = ap (λ vs. v ∷ vs) (variables_of-append xs ys)
variables_of-append (Sym v ∷ xs) ys = variables_of-append xs ys
variables_of-append (Str v ∷ xs) ys = variables_of-append xs ys
variables_of-append (Num v ∷ xs) ys = variables_of-append xs ys
variables_of-append (Truth v ∷ xs) ys = variables_of-append xs ys
variables_of-append (Nil ∷ xs) ys = variables_of-append xs ys

with_letter_is : (xs : List Letter) (x : Letter) → with_letter (each_once eqb (variables_of xs)) x ≡ each_once eqb (variables_of (xs ++ x ∷ []))
with_letter_is xs Pair = sym (ap (each_once eqb) (variables_of-append xs (Pair ∷ []) ∙ append-nil (variables_of xs)))
with_letter_is xs (Var v) = sym (ap (each_once eqb) (variables_of-append xs (Var v ∷ [])) ∙ each_once-push (variables_of xs) v)
with_letter_is xs (Sym v) = sym (ap (each_once eqb) (variables_of-append xs (Sym v ∷ []) ∙ append-nil (variables_of xs)))
with_letter_is xs (Str v) = sym (ap (each_once eqb) (variables_of-append xs (Str v ∷ []) ∙ append-nil (variables_of xs)))
with_letter_is xs (Num v) = sym (ap (each_once eqb) (variables_of-append xs (Num v ∷ []) ∙ append-nil (variables_of xs)))
with_letter_is xs (Truth v) = sym (ap (each_once eqb) (variables_of-append xs (Truth v ∷ []) ∙ append-nil (variables_of xs)))
with_letter_is xs Nil = sym (ap (each_once eqb) (variables_of-append xs (Nil ∷ []) ∙ append-nil (variables_of xs)))

-- one letter more
pub named_step : (letters : List Letter) (i : ℕ) (d : Letter) (old new : List ℕ) → i < length letters →
    old ≡ each_once eqb (variables_of (take i letters)) → new ≡ with_letter old (get_or letters i d) → new ≡ each_once eqb (variables_of (take (i + 1) letters))
named_step letters i d old new below so_far grown =
    grown ∙ ap (λ vs. with_letter vs (get_or letters i d)) so_far ∙ with_letter_is (take i letters) (get_or letters i d)
    ∙ ap (λ xs. each_once eqb (variables_of xs)) (sym (take_more letters i d below))

-- the variables of a term's letters are its leaves
pub variables_of-spelling : (t : Tm) → variables_of (letters_of.spelling t) ≡ leaves t
variables_of-spelling (Tree.leaf v) = refl
variables_of-spelling (Tree.sym s) = refl
variables_of-spelling (Tree.str s) = refl
variables_of-spelling (Tree.num n) = refl
variables_of-spelling (Tree.truth b) = refl
variables_of-spelling Tree.nil = refl
variables_of-spelling (Tree.pair a b) = variables_of-append (letters_of.spelling a) (letters_of.spelling b) ∙ ap₂ (λ l r. l ++ r) (variables_of-spelling a) (variables_of-spelling b)

-- the shapes of a term's letters spell the term in names
pub shape_spelling : (vs : List ℕ) (t : Tm) → map (shape_in vs) (letters_of.spelling t) ≡ spelling (in_names vs t)
shape_spelling vs (Tree.leaf v) = refl
shape_spelling vs (Tree.sym s) = refl
shape_spelling vs (Tree.str s) = refl
shape_spelling vs (Tree.num n) = refl
shape_spelling vs (Tree.truth b) = refl
shape_spelling vs Tree.nil = refl
shape_spelling vs (Tree.pair a b) =
    ap (λ xs. shapes.Pair ∷ xs) (map-append (shape_in vs) (letters_of.spelling a) (letters_of.spelling b) ∙ ap₂ (λ l r. l ++ r) (shape_spelling vs a) (shape_spelling vs b))

-- the name of a variable, the first name apart
name_at : (b c : Bool) (x v : ℕ) (xs : List ℕ) → eqb v x ≡ b → stands_in xs v ≡ c → name_in (x ∷ xs) v ≡ (if eqb v x then Some 0 else option_map suc (name_in xs v))
name_at true c x v xs same there = rw (same, eqb-flip x v true same) refl
name_at false true x v xs same there = rw (same, eqb-flip x v false same, there) refl
name_at false false x v xs same there = rw (same, eqb-flip x v false same, there) refl

name_in-cons : (x v : ℕ) (xs : List ℕ) → name_in (x ∷ xs) v ≡ (if eqb v x then Some 0 else option_map suc (name_in xs v))
name_in-cons x v xs = name_at (eqb v x) (stands_in xs v) x v xs refl refl

push_at : (b c : Bool) (x v k n : ℕ) (r : Option ℕ) → eqb k v ≡ b → eqb k x ≡ c → eqb v x ≡ false →
    (if eqb k x then Some 0 else option_map suc (if eqb k v then Some n else r)) ≡ (if eqb k v then Some (suc n) else (if eqb k x then Some 0 else option_map suc r))
push_at true true x v k n r same first other = absurd (true≢false (sym (eq-eqb v x (sym (eqb-true k v same) ∙ eqb-true k x first)) ∙ other))
push_at true false x v k n r same first other = rw (same, first) refl
push_at false true x v k n r same first other = rw (same, first) refl
push_at false false x v k n r same first other = rw (same, first) refl

first_of_or : (a b : Bool) → (a || b) ≡ false → a ≡ false
first_of_or true b e = absurd (true≢false e)
first_of_or false b e = refl

rest_of_or : (a b : Bool) → (a || b) ≡ false → b ≡ false
rest_of_or true b e = absurd (true≢false e)
rest_of_or false b e = e

-- a new variable has the next name, and all others keep theirs
pub name_in-push : (vs : List ℕ) (v k : ℕ) → stands_in vs v ≡ false → name_in (vs ++ v ∷ []) k ≡ (if eqb k v then Some (length vs) else name_in vs k)
name_in-push [] v k new = name_in-cons v k []
name_in-push (x ∷ xs) v k new =
    name_in-cons x k (xs ++ v ∷ []) ∙ ap (λ r. if eqb k x then Some 0 else option_map suc r) (name_in-push xs v k (rest_of_or (eqb v x) (stands_in xs v) new))
    ∙ push_at (eqb k v) (eqb k x) x v k (length xs) (name_in xs k) refl refl (first_of_or (eqb v x) (stands_in xs v) new)
    ∙ ap (λ r. if eqb k v then Some (suc (length xs)) else r) (sym (name_in-cons x k xs))

-- no name, no place
not_there : (vs : List ℕ) (v : ℕ) → stands_in vs v ≡ false → place_of vs v ≡ length vs
not_there [] v out = refl
not_there (x ∷ vs) v out =
    ap (λ b. if b then 0 else suc (place_of vs v)) (eqb-flip x v false (first_of_or (eqb v x) (stands_in vs v) out)) ∙ ap suc (not_there vs v (rest_of_or (eqb v x) (stands_in vs v) out))

pub no_name_stands : (vs : List ℕ) (v : ℕ) → name_in vs v ≡ None → stands_in vs v ≡ false
no_name_stands vs v none = by (stands_in vs v) refl
  where
    by : (b : Bool) → stands_in vs v ≡ b → stands_in vs v ≡ false
    by true there = absurd (let wrong : Some (place_of vs v) ≡ None = sym (ap (λ b. if b then Some (place_of vs v) else None) there) ∙ none in cc)
    by false there = there

pub no_place : (vs : List ℕ) (v : ℕ) → name_in vs v ≡ None → place_of vs v ≡ length vs
no_place vs v none = not_there vs v (no_name_stands vs v none)

-- a tree of names with one more
pub name_added : (old new : List ℕ) (v n : ℕ) (before after : ℕ → Option ℕ) → new ≡ old ++ v ∷ [] → n ≡ length old → name_in old v ≡ None →
    ((k : ℕ) → before k ≡ name_in old k) → ((k : ℕ) → after k ≡ (if eqb k v then Some n else before k)) → (k : ℕ) → after k ≡ name_in new k
name_added old new v n before after grown count none kept put k =
    put k ∙ ap (λ r. if eqb k v then Some n else r) (kept k) ∙ ap (λ m. if eqb k v then Some m else name_in old k) count
    ∙ sym (name_in-push old v k (no_name_stands old v none)) ∙ ap (λ vs. name_in vs k) (sym grown)

-- the names of variables with one more that may pass the test
pub names_where-push : (p : ℕ → Bool) (n : ℕ) (vs : List ℕ) (v : ℕ) → names_where p n (vs ++ v ∷ []) ≡ names_where p n vs ++ here (p v) (n + length vs)
names_where-push p n [] v = one (p v)
  where
    one : (b : Bool) → (if b then n ∷ [] else []) ≡ here b (n + 0)
    one true = ap (λ m. m ∷ []) (let same : n ≡ n + 0 = omega arith in same)
    one false = refl
names_where-push p n (x ∷ xs) v = both (p x) (names_where-push p (suc n) xs v) ∙ ap (λ m. names_where p n (x ∷ xs) ++ here (p v) m) (let same : suc n + length xs ≡ n + suc (length xs) = omega arith in same)
  where
    both : (b : Bool) → names_where p (suc n) (xs ++ v ∷ []) ≡ names_where p (suc n) xs ++ here (p v) (suc n + length xs) →
        (if b then n ∷ names_where p (suc n) (xs ++ v ∷ []) else names_where p (suc n) (xs ++ v ∷ []))
        ≡ (if b then n ∷ names_where p (suc n) xs else names_where p (suc n) xs) ++ here (p v) (suc n + length xs)
    both true ih = ap (λ l. n ∷ l) ih
    both false ih = ih

pub names_step : (p : ℕ → Bool) (vs ws : List ℕ) (i d : ℕ) (old new : List ℕ) (b : Bool) → ws ≡ vs → i < length ws → old ≡ names_where p 0 (take i vs) → b ≡ p (get_or ws i d) →
    new ≡ old ++ here b i → new ≡ names_where p 0 (take (i + 1) vs)
names_step p vs ws i d old new b same below before test put =
    let under : i < length vs = subst (λ l. i < length l) same below in
    let count : length (take i vs) ≡ i = length-take-le i vs (omega (arith, under)) in
    put ∙ ap (λ l. l ++ here b i) before ∙ ap (λ c. names_where p 0 (take i vs) ++ here c i) (test ∙ ap (λ l. p (get_or l i d)) same)
    ∙ ap (λ m. names_where p 0 (take i vs) ++ here (p (get_or vs i d)) m) (let same_count : i ≡ 0 + length (take i vs) = omega (arith, count) in same_count)
    ∙ sym (names_where-push p 0 (take i vs) (get_or vs i d)) ∙ ap (names_where p 0) (sym (take_more vs i d under))
