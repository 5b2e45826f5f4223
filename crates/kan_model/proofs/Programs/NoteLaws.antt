-- What rows note of their trees.
use Rattle.std.proofs.Common.{◌≡◌, ℕ, suc, zero, ◌+◌, ◌<◌, List, [], ◌∷◌, ◌++◌, length, map, take, get_or, refl, sym, ◌∙◌, ap, ap₂, arith, min, max}
use Rattle.std.specs.Prelude.{slice_get, unwrap_or, Some, None, Option, option_map}
use Rattle.std.proofs.lemmas.List.{map-append, length-map}
use Rattle.std.proofs.lemmas.Option.{unwrap_or-slice_get, slice_get-map}
use Rattle.std.proofs.lemmas.List.{take_more}
use Rattle.kan_terms.specs.Tree.{Tree}
use Rattle.kan_model.specs.Programs.Goals.{Template, Goal}
use Rattle.kan_model.specs.Programs.Measures.{slots, most_slots, goal_slots, noted_height}
use Rattle.kan_model.specs.Programs.Tables.{template_at, goal_at}

-- an element of a list of numbers that is made from another list
picked : {X : Type 0} (f : X → ℕ) (xs : List X) (i : ℕ) (d : X) (e : ℕ) → i < length xs → get_or (map f xs) i e ≡ f (get_or xs i d)
picked f [] i d e within = omega (arith, within)
picked f (x ∷ xs) zero d e within = refl
picked f (x ∷ xs) (suc i) d e within = picked f xs i d e (omega (arith, within))

-- what a row notes is what its tree has, where all rows note it
pub noted : {R X : Type 0} (f : R → ℕ) (g : X → ℕ) (rows : List R) (xs : List X) (i : ℕ) (row r : R) (x : X) →
    map f rows ≡ map g xs → row ≡ get_or rows i r → i < length rows → f row ≡ g (unwrap_or (slice_get xs i) x)
noted f g rows xs i row r x all is within =
    let long : length xs ≡ length rows = sym (length-map xs g) ∙ ap length (sym all) ∙ length-map rows f in
    ap f is ∙ sym (picked f rows i r 0 within) ∙ ap (λ ns. get_or ns i 0) all ∙ picked g xs i x 0 (rw long within) ∙ ap g (sym (unwrap_or-slice_get xs i x))

-- one row more
pub noted-more : {R X : Type 0} (f : R → ℕ) (g : X → ℕ) (rows : List R) (xs : List X) (row : R) (x : X) →
    map f rows ≡ map g xs → f row ≡ g x → map f (rows ++ row ∷ []) ≡ map g (xs ++ x ∷ [])
noted-more f g rows xs row x all one =
    map-append f rows (row ∷ []) ∙ ap₂ (λ ns n. ns ++ n ∷ []) all one ∙ sym (map-append g xs (x ∷ []))

-- the slots of arguments with one more at the end
pub most_slots-last : (ts : List Template) (t : Template) → most_slots (ts ++ t ∷ []) ≡ max (slots t) (most_slots ts)
most_slots-last [] t = refl
most_slots-last (u ∷ ts) t = let rest = most_slots-last ts t in omega (arith, rest)

-- the slots of arguments, one after the other
pub slots-step : (ts : List Template) (is : List ℕ) (n most : ℕ) → most ≡ most_slots (map (template_at ts) (take n is)) → n < length is →
    max (slots (template_at ts (get_or is n 0))) most ≡ most_slots (map (template_at ts) (take (n + 1) is))
slots-step ts is n most so_far within =
    ap (max (slots (template_at ts (get_or is n 0)))) so_far ∙ sym (most_slots-last (map (template_at ts) (take n is)) (template_at ts (get_or is n 0)))
    ∙ ap most_slots (sym (map-append (template_at ts) (take n is) (get_or is n 0 ∷ []))) ∙ ap (λ xs. most_slots (map (template_at ts) xs)) (sym (take_more is n 0 within))

-- the noted height of a pair
pub pair-height : (a b : Template) (x y : ℕ) → x ≡ noted_height a → y ≡ noted_height b → min (max x y) 2048 + 1 ≡ noted_height (Tree.pair a b)
pair-height a b x y left right = omega (arith, left, right)

-- what is read of a row, where all rows note it
pub noted-read : {R X : Type 0} (f : R → ℕ) (g : X → ℕ) (rows : List R) (xs : List X) (at : ℕ) (found : Option R) →
    map f rows ≡ map g xs → found ≡ slice_get rows at → option_map f found ≡ option_map g (slice_get xs at)
noted-read f g rows xs at found all is =
    ap (option_map f) is ∙ sym (slice_get-map f rows at) ∙ ap (λ ns. slice_get ns at) all ∙ slice_get-map g xs at

-- a goal that is there needs what its row notes
pub found-needs : {R : Type 0} (f : R → ℕ) (rows : List R) (gs : List Goal) (at : ℕ) (row : R) →
    map f rows ≡ map goal_slots gs → Some row ≡ slice_get rows at → f row ≡ goal_slots (goal_at gs at)
found-needs f rows gs at row all is = go (slice_get gs at) (noted-read f goal_slots rows gs at (Some row) all is)
  where
    go : (o : Option Goal) → Some (f row) ≡ option_map goal_slots o → f row ≡ goal_slots (unwrap_or o Goal.fail)
    go None e = cc
    go (Some g) e = cc
