-- Marks: how far whole terms go, and when two lists are the same.
use Rattle.std.proofs.Common.{◌≡◌, ℕ, zero, suc, ◌+◌, ◌-◌, ◌<◌, ◌≤◌, Bool, true, false, ◌&&◌, List, [], ◌∷◌, ◌++◌, length, take, drop, get_or, refl, sym, ap, ap₂, ◌∙◌, arith, append_assoc}
use Rattle.std.specs.List.{flat_map}
use Rattle.std.proofs.lemmas.Bool.{and_parts, eq-eqb, eqb-true}
use Rattle.std.proofs.lemmas.Bool.Decides.{Decides-int_eq}
use Rattle.std.proofs.lemmas.List.{length-append, append_cancel_left}
use Rattle.std.proofs.Math.Seq.{take-append_seam, drop-append_seam, drop-cons}
use Rattle.kan_terms.specs.Tree.{Tree, Gd}
use Rattle.kan_terms.specs.Spelling.{spelling}
use Rattle.kan_terms.specs.Reading.{trees, trees-spelling}
use Rattle.kan_terms.specs.declared.marks.Mark.{Mark}
use Rattle.kan_terms.specs.declared.marks.Mark.TheVariants.{Pair, Sym, Str, Num, Truth, Nil}
use Rattle.kan_terms.proofs.TreeLaws.{Decides-bool_eq}
use Rattle.answer_reading.specs.Marks.{mark_eq, marks_eq, whole_length, wanted_after}

pub mark_eq-true : (x y : Mark) → mark_eq x y ≡ true → x ≡ y
mark_eq-true Pair Pair e = refl
mark_eq-true (Sym v) (Sym w) e = ap Sym (eqb-true v w e)
mark_eq-true (Str v) (Str w) e = ap Str (eqb-true v w e)
mark_eq-true (Num v) (Num w) e = ap Num ((Decides-int_eq v w).0 e)
mark_eq-true (Truth v) (Truth w) e = ap Truth ((Decides-bool_eq v w).0 e)
mark_eq-true Nil Nil e = refl
mark_eq-true _ _ e = cc

pub mark_eq-same : (x : Mark) → mark_eq x x ≡ true
mark_eq-same Pair = refl
mark_eq-same (Sym v) = eq-eqb v v refl
mark_eq-same (Str v) = eq-eqb v v refl
mark_eq-same (Num v) = (Decides-int_eq v v).1 refl
mark_eq-same (Truth v) = (Decides-bool_eq v v).1 refl
mark_eq-same Nil = refl

pub marks_eq-true : (xs ys : List Mark) → marks_eq xs ys ≡ true → xs ≡ ys
marks_eq-true [] [] e = refl
marks_eq-true (x ∷ xs) (y ∷ ys) e =
    let parts = and_parts (mark_eq x y) (marks_eq xs ys) e in ap₂ (λ a b. a ∷ b) (mark_eq-true x y parts.0) (marks_eq-true xs ys parts.1)
marks_eq-true _ _ e = cc

pub marks_eq-same : (xs : List Mark) → marks_eq xs xs ≡ true
marks_eq-same [] = refl
marks_eq-same (x ∷ xs) = ap₂ (λ a b. a && b) (mark_eq-same x) (marks_eq-same xs)

pub other_lengths : (xs ys : List Mark) → (length xs ≡ length ys → ⊥) → false ≡ marks_eq xs ys
other_lengths xs ys apart = by (marks_eq xs ys) refl
  where
    by : (b : Bool) → marks_eq xs ys ≡ b → false ≡ b
    by false e = refl
    by true e = absurd (apart (ap length (marks_eq-true xs ys e)))

-- the first of two spelled terms
same_head : {X : Type 0} (a g : X) (xs ys : List X) → a ∷ xs ≡ g ∷ ys → a ≡ g
same_head a g xs ys e = cc

pub split_first : (a g : Gd) (xs ys : List Mark) → spelling a ++ xs ≡ spelling g ++ ys → (a ≡ g) × (xs ≡ ys)
split_first a g xs ys e =
    let same : a ≡ g = same_head a g (trees xs) (trees ys) (sym (trees-spelling a xs) ∙ ap trees e ∙ trees-spelling g ys) in
    (same, append_cancel_left (spelling g) xs ys (ap (λ t. spelling t ++ xs) (sym same) ∙ e))

-- how many marks whole terms have
one_more : (n w : ℕ) → suc w ≡ 1 + w
one_more n w = omega arith

both_long : (a b w s : ℕ) → s ≡ a + b → suc (a + (b + w)) ≡ suc s + w
both_long a b w s e = omega (arith, e)

pub length_spelled : (t : Gd) (n : ℕ) (more : List Mark) → whole_length (suc n) (spelling t ++ more) ≡ length (spelling t) + whole_length n more
length_spelled (Tree.leaf none) n more = absurd none
length_spelled (Tree.sym s) n more = one_more n (whole_length n more)
length_spelled (Tree.str s) n more = one_more n (whole_length n more)
length_spelled (Tree.num m) n more = one_more n (whole_length n more)
length_spelled (Tree.truth b) n more = one_more n (whole_length n more)
length_spelled Tree.nil n more = one_more n (whole_length n more)
length_spelled (Tree.pair a b) n more =
    ap (λ l. suc (whole_length (suc (suc n)) l)) (append_assoc (spelling a) (spelling b) more)
    ∙ ap suc (length_spelled a (suc n) (spelling b ++ more) ∙ ap (λ w. length (spelling a) + w) (length_spelled b n more))
    ∙ both_long (length (spelling a)) (length (spelling b)) (whole_length n more) (length (spelling a ++ spelling b)) (length-append (spelling a) (spelling b))

pub first_length : (t : Gd) (more : List Mark) → whole_length 1 (spelling t ++ more) ≡ length (spelling t)
first_length t more = length_spelled t 0 more ∙ (let e : length (spelling t) + 0 ≡ length (spelling t) = omega arith in e)

pub first_taken : (t : Gd) (more : List Mark) → take (whole_length 1 (spelling t ++ more)) (spelling t ++ more) ≡ spelling t
first_taken t more = ap (λ n. take n (spelling t ++ more)) (first_length t more) ∙ take-append_seam (spelling t) more

pub first_dropped : (t : Gd) (more : List Mark) → drop (whole_length 1 (spelling t ++ more)) (spelling t ++ more) ≡ more
first_dropped t more = ap (λ n. drop n (spelling t ++ more)) (first_length t more) ∙ drop-append_seam (spelling t) more

-- behind the first mark of whole terms come whole terms
pub whole_tail : (ts : List Gd) (ms : List Mark) → ms ≡ flat_map spelling ts → (us : List Gd) × (drop 1 ms ≡ flat_map spelling us)
whole_tail [] ms e = ([], ap (drop 1) e)
whole_tail (Tree.leaf none ∷ ts) ms e = absurd none
whole_tail (Tree.sym s ∷ ts) ms e = (ts, ap (drop 1) e)
whole_tail (Tree.str s ∷ ts) ms e = (ts, ap (drop 1) e)
whole_tail (Tree.num n ∷ ts) ms e = (ts, ap (drop 1) e)
whole_tail (Tree.truth b ∷ ts) ms e = (ts, ap (drop 1) e)
whole_tail (Tree.nil ∷ ts) ms e = (ts, ap (drop 1) e)
whole_tail (Tree.pair a b ∷ ts) ms e = (a ∷ b ∷ ts, ap (drop 1) e ∙ append_assoc (spelling a) (spelling b) (flat_map spelling ts))

pub spelled_filled : (t : Gd) → 0 < length (spelling t)
spelled_filled (Tree.leaf none) = absurd none
spelled_filled (Tree.sym s) = omega arith
spelled_filled (Tree.str s) = omega arith
spelled_filled (Tree.num n) = omega arith
spelled_filled (Tree.truth b) = omega arith
spelled_filled Tree.nil = omega arith
spelled_filled (Tree.pair a b) = omega arith

-- what is wanted after one mark more
few_wanted : (m : Mark) (n : ℕ) → wanted_after m n ≤ suc (suc n)
few_wanted Pair n = omega arith
few_wanted (Sym s) n = omega arith
few_wanted (Str s) n = omega arith
few_wanted (Num z) n = omega arith
few_wanted (Truth b) n = omega arith
few_wanted Nil n = omega arith

pub next_wanted : (ms : List Mark) (at wanted new : ℕ) (d : Mark) → at < length ms → 0 < wanted → new ≡ wanted_after (get_or ms at d) (wanted - 1) →
    ((at ≤ length ms) × (wanted ≤ at + 1) × (at + whole_length wanted (drop at ms) ≡ whole_length 1 ms)) →
    (at + 1 ≤ length ms) × (new ≤ at + 1 + 1) × (at + 1 + whole_length new (drop (at + 1) ms) ≡ whole_length 1 ms)
next_wanted ms at zero new d below some is held = absurd (let none : ⊥ = omega (arith, some) in none)
next_wanted ms at (suc n) new d below some is held =
    let less : suc n - 1 ≡ n = omega arith in
    let now : new ≡ wanted_after (get_or ms at d) n = is ∙ ap (wanted_after (get_or ms at d)) less in
    let front : drop at ms ≡ get_or ms at d ∷ drop (at + 1) ms = drop-cons ms at d below ∙ ap (λ k. get_or ms at d ∷ drop k ms) (let more : suc at ≡ at + 1 = omega arith in more) in
    let step : at + suc (whole_length new (drop (at + 1) ms)) ≡ whole_length 1 ms = ap (λ k. at + suc (whole_length k (drop (at + 1) ms))) now ∙ ap (λ l. at + whole_length (suc n) l) (sym front) ∙ held.2 in
    (omega (arith, below), omega (arith, now, few_wanted (get_or ms at d) n, held.1), omega (arith, step))
