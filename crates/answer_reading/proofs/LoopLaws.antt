-- Tests of lists, item after item.
use Rattle.std.proofs.Common.{◌≡◌, ℕ, zero, suc, ◌+◌, ◌-◌, ◌<◌, ◌≤◌, Bool, true, false, List, [], ◌∷◌, ◌++◌, length, map, drop, get_or, refl, sym, ap, ap₂, ◌∙◌, arith}
use Rattle.std.specs.Prelude.{◌&&◌, ◌||◌, not, eqb}
use Rattle.std.proofs.Math.Seq.{drop-cons}
use Rattle.std.proofs.lemmas.List.{length-drop, length-map}
use Rattle.std.proofs.lemmas.List.Folds.{list_any-append}
use Rattle.kan_model.specs.Answers.InForm.{apart, ascends}
use Rattle.kan_model.specs.Answers.Order.{stands_in}
use Rattle.reify.specs.declared.shaping.NamePair.{NamePair}
use Rattle.reify.specs.declared.shaping.Shape.{Shape}
use Rattle.reify.specs.declared.shaping.Shape.TheVariants.{Pair, Name, Sym, Str, Num, Truth, Nil}
use Rattle.reify.specs.Shapes.{spells}
use Rattle.answer_reading.specs.Forming.{pair_eq, pairs_eq, shape_eq, shapes_eq, wanted_after}

-- the last item alone ascends
short_ascends : {X : Type 0} (before : X → X → Bool) (xs : List X) → length xs ≤ 1 → ascends before xs ≡ true
short_ascends before [] h = refl
short_ascends before (x ∷ []) h = refl
short_ascends before (x ∷ y ∷ ys) h = absurd (let none : ⊥ = omega (arith, h) in none)

last_left : {X : Type 0} (xs : List X) (i : ℕ) → length xs ≤ i → length (drop (i - 1) xs) ≤ 1
last_left xs i past = omega (arith, past, length-drop (i - 1) xs)

pub ascends_end : {X : Type 0} (before : X → X → Bool) (xs : List X) (i : ℕ) → length xs ≤ i → ascends before xs ≡ ascends before (drop (i - 1) xs) → true ≡ ascends before xs
ascends_end before xs i past held = sym (held ∙ short_ascends before (drop (i - 1) xs) (last_left xs i past))

pub mapped_end : {X Y : Type 0} (before : Y → Y → Bool) (f : X → Y) (xs : List X) (i : ℕ) → length xs ≤ i → ascends before (map f xs) ≡ ascends before (map f (drop (i - 1) xs)) → true ≡ ascends before (map f xs)
mapped_end before f xs i past held =
    sym (held ∙ short_ascends before (map f (drop (i - 1) xs)) (omega (arith, last_left xs i past, length-map (drop (i - 1) xs) f)))

-- lists of other lengths differ
pub other_shapes : (xs ys : List Shape) → (length xs ≡ length ys → ⊥) → false ≡ shapes_eq xs ys
other_shapes [] [] other = absurd (other refl)
other_shapes [] (y ∷ ys) other = refl
other_shapes (x ∷ xs) [] other = refl
other_shapes (x ∷ xs) (y ∷ ys) other = sym (ap (λ b. shape_eq x y && b) (sym (other_shapes xs ys (λ e. other (ap suc e)))) ∙ and_false (shape_eq x y))
  where
    and_false : (b : Bool) → (b && false) ≡ false
    and_false true = refl
    and_false false = refl

pub other_pairs : (xs ys : List NamePair) → (length xs ≡ length ys → ⊥) → false ≡ pairs_eq xs ys
other_pairs [] [] other = absurd (other refl)
other_pairs [] (y ∷ ys) other = refl
other_pairs (x ∷ xs) [] other = refl
other_pairs (x ∷ xs) (y ∷ ys) other = sym (ap (λ b. pair_eq x y && b) (sym (other_pairs xs ys (λ e. other (ap suc e)))) ∙ and_false (pair_eq x y))
  where
    and_false : (b : Bool) → (b && false) ≡ false
    and_false true = refl
    and_false false = refl

-- shapes that spell one term
spelled_next : (n : ℕ) (x : Shape) (xs : List Shape) → spells (suc n) (x ∷ xs) ≡ spells (wanted_after x n) xs
spelled_next n Pair xs = refl
spelled_next n (Name m) xs = refl
spelled_next n (Sym s) xs = refl
spelled_next n (Str s) xs = refl
spelled_next n (Num z) xs = refl
spelled_next n (Truth b) xs = refl
spelled_next n Nil xs = refl

few_wanted : (n : ℕ) (x : Shape) → wanted_after x n ≤ n + 2
few_wanted n Pair = omega arith
few_wanted n (Name m) = omega arith
few_wanted n (Sym s) = omega arith
few_wanted n (Str s) = omega arith
few_wanted n (Num z) = omega arith
few_wanted n (Truth b) = omega arith
few_wanted n Nil = omega arith

pub whole_none : (xs : List Shape) (i w : ℕ) (d : Shape) → i < length xs → w ≡ 0 → spells 1 xs ≡ spells w (drop i xs) → false ≡ spells 1 xs
whole_none xs i w d below none held = sym (held ∙ ap₂ spells none (drop-cons xs i d below))

pub whole_next : (xs : List Shape) (i w new : ℕ) (d : Shape) → i < length xs → (w ≡ 0 → ⊥) → new ≡ wanted_after (get_or xs i d) (w - 1) → (w ≤ i + 1) × (spells 1 xs ≡ spells w (drop i xs)) → (new ≤ i + 1 + 1) × (spells 1 xs ≡ spells new (drop (i + 1) xs))
whole_next xs i zero new d below some is held = absurd (some refl)
whole_next xs i (suc w) new d below some is held =
    let less : suc w - 1 ≡ w = omega arith in
    let next : new ≡ wanted_after (get_or xs i d) w = is ∙ ap (wanted_after (get_or xs i d)) less in
    let most : wanted_after (get_or xs i d) w ≤ w + 2 = few_wanted w (get_or xs i d) in (
      omega (arith, next, most, held.0),
      held.1 ∙ ap (spells (suc w)) (drop-cons xs i d below) ∙ spelled_next w (get_or xs i d) (drop (suc i) xs) ∙ ap₂ spells (sym next) (ap (λ k. drop k xs) (let e : suc i ≡ i + 1 = omega arith in e)),
    )

-- a list has no element of two lists exactly where it has none of each
apart_one : (b c r s : Bool) → (not (b || c) && (r && s)) ≡ ((not b && r) && (not c && s))
apart_one true c r s = refl
apart_one false true true s = refl
apart_one false true false s = refl
apart_one false false r s = refl

pub apart_both : (xs ys zs : List ℕ) → apart xs (ys ++ zs) ≡ (apart xs ys && apart xs zs)
apart_both [] ys zs = refl
apart_both (x ∷ xs) ys zs =
    ap₂ (λ a b. not a && b) (list_any-append (eqb x) ys zs) (apart_both xs ys zs) ∙ apart_one (stands_in ys x) (stands_in zs x) (apart xs ys) (apart xs zs)
