-- The ground terms of names, found node after node.
use Rattle.std.proofs.Common.{◌≡◌, ℕ, zero, suc, ◌+◌, ◌-◌, ◌<◌, ◌≤◌, Bool, true, false, cond, List, [], ◌∷◌, ◌++◌, length, take, drop, map, get_or, refl, sym, ap, ap₂, ◌∙◌, arith, append-nil, subst}
use Rattle.std.specs.Prelude.{eqb, nat_lt, if◌then◌else◌, None}
use Rattle.std.specs.List.{flat_map}
use Rattle.std.proofs.lemmas.Bool.{and_parts, eqb-true, eq-eqb}
use Rattle.std.proofs.lemmas.List.{length-append, length-map, map-append}
use Rattle.std.proofs.Math.Seq.{drop-cons, take-length}
use Rattle.kan_terms.specs.Tree.{Gd}
use Rattle.kan_terms.specs.Valuations.{value_at}
use Rattle.kan_terms.specs.Spelling.{spelling, SpellsTree}
use Rattle.kan_terms.specs.declared.marks.Mark.{Mark}
use Rattle.kan_terms.specs.declared.marks.Mark.TheVariants as marks
use Rattle.kan_terms.proofs.ValuationLaws.{value_at-append}
use Rattle.reify.specs.declared.shaping.Shape.{Shape}
use Rattle.reify.specs.declared.shaping.Shape.TheVariants as shapes
use Rattle.answer_reading.specs.Marks.{node_length, with_node, whole_length}
use Rattle.answer_reading.specs.Finding.{Agrees, FindsSo, Finds, Found, node_under, term_under, rises, reach, after_name}
use Rattle.answer_reading.proofs.MarkLaws.{split_first, first_taken, first_dropped, whole_tail, spelled_filled}

value_at-push : (gs : List Gd) (t : Gd) → value_at (gs ++ t ∷ []) (length gs) ≡ t
value_at-push [] t = refl
value_at-push (g ∷ gs) t = value_at-push gs t

-- one more ground term
agrees_push : (us gs : List Gd) (t : Gd) → Agrees us gs → value_at us (length gs) ≡ t → Agrees us (gs ++ t ∷ [])
agrees_push us gs t agrees e n below = by (eqb n (length gs)) refl
  where
    by : (b : Bool) → eqb n (length gs) ≡ b → value_at us n ≡ value_at (gs ++ t ∷ []) n
    by true same =
        let is : n ≡ length gs = eqb-true n (length gs) same in
        ap (value_at us) is ∙ e ∙ sym (value_at-push gs t) ∙ ap (value_at (gs ++ t ∷ [])) (sym is)
    by false other =
        let apart : n < length gs = by_less n (length gs) other (let more : n < suc (length gs) = omega (arith, below, length-append gs (t ∷ [])) in more) in
        agrees n apart ∙ sym (value_at-append gs (t ∷ []) n apart)
      where
        by_less : (k l : ℕ) → eqb k l ≡ false → k < suc l → k < l
        by_less k l other below = grind (arith, eq-eqb k l)

-- a node that is no name
plain : (xs0 : List Shape) (ms0 : List Mark) (vs : List (List Mark)) (xs : List Shape) (ms : List Mark) (m : Mark) (gs : List Gd) → vs ≡ map spelling gs → (ts : List Gd) → ms ≡ flat_map spelling ts →
    ((us : List Gd) → term_under us xs0 ≡ ms0 → Agrees us gs × (m ∷ term_under us xs ≡ ms)) → rises (length gs) xs ≡ true → reach (length gs) xs ≡ reach 0 xs0 →
    FindsSo xs0 ms0 vs xs (drop 1 ms)
plain xs0 ms0 vs xs ms m gs whole ts spelled fits rising total =
    let tail = whole_tail ts ms spelled in
    record {
      grounds = gs;
      whole = whole;
      trees = tail.0;
      spelled = tail.1;
      fits = λ us e. ((fits us e).0, ap (drop 1) (fits us e).1);
      rising = rising;
      total = total;
    }

-- a name
next_name : (xs0 : List Shape) (ms0 : List Mark) (vs : List (List Mark)) (n : ℕ) (xs : List Shape) (ms : List Mark) (f : FindsSo xs0 ms0 vs (shapes.Name n ∷ xs) ms) (ts : List Gd) → ms ≡ flat_map spelling ts → 0 < length ms →
    FindsSo xs0 ms0 (with_node vs (shapes.Name n) ms) xs (drop (whole_length 1 ms) ms)
next_name xs0 ms0 vs n xs ms f [] spelled some = absurd (let none : ⊥ = omega (arith, some, ap length spelled) in none)
next_name xs0 ms0 vs n xs ms f (t ∷ ts) spelled some = by (eqb n (length vs)) refl
  where
    more : List Mark
    more = flat_map spelling ts

    front : take (whole_length 1 ms) ms ≡ spelling t
    front = ap (λ l. take (whole_length 1 l) l) spelled ∙ first_taken t more

    left : drop (whole_length 1 ms) ms ≡ more
    left = ap (λ l. drop (whole_length 1 l) l) spelled ∙ first_dropped t more

    many : length vs ≡ length f.grounds
    many = ap length f.whole ∙ length-map f.grounds spelling

    parts : (us : List Gd) → term_under us xs0 ≡ ms0 → (value_at us n ≡ t) × (term_under us xs ≡ more)
    parts us e = split_first (value_at us n) t (term_under us xs) more ((f.fits us e).1 ∙ spelled)

    passed : rises (after_name (length f.grounds) n) xs ≡ true
    passed = (and_parts (nat_lt n (suc (length f.grounds))) (rises (after_name (length f.grounds) n) xs) f.rising).1

    after_known : (b : Bool) → eqb n (length vs) ≡ b → after_name (length f.grounds) n ≡ cond b (suc (length f.grounds)) (length f.grounds)
    after_known b e = ap (λ c. cond c (suc (length f.grounds)) (length f.grounds)) (ap (eqb n) (sym many) ∙ e)

    pushed : length (f.grounds ++ t ∷ []) ≡ suc (length f.grounds)
    pushed = length-append f.grounds (t ∷ []) ∙ (let e : length f.grounds + 1 ≡ suc (length f.grounds) = omega arith in e)

    by : (b : Bool) → eqb n (length vs) ≡ b → FindsSo xs0 ms0 (if b then vs ++ take (whole_length 1 ms) ms ∷ [] else vs) xs (drop (whole_length 1 ms) ms)
    by true e = record {
      grounds = f.grounds ++ t ∷ [];
      whole = ap₂ (λ l m. l ++ m ∷ []) f.whole front ∙ sym (map-append spelling f.grounds (t ∷ []));
      trees = ts;
      spelled = left;
      fits = λ us h. (agrees_push us f.grounds t (f.fits us h).0 (ap (value_at us) (sym (eqb-true n (length vs) e ∙ many)) ∙ (parts us h).0), (parts us h).1 ∙ sym left);
      rising = ap (λ k. rises k xs) (pushed ∙ sym (after_known true e)) ∙ passed;
      total = ap (λ k. reach k xs) (pushed ∙ sym (after_known true e)) ∙ f.total;
    }
    by false e = record {
      grounds = f.grounds;
      whole = f.whole;
      trees = ts;
      spelled = left;
      fits = λ us h. ((f.fits us h).0, (parts us h).1 ∙ sym left);
      rising = ap (λ k. rises k xs) (sym (after_known false e)) ∙ passed;
      total = ap (λ k. reach k xs) (sym (after_known false e)) ∙ f.total;
    }

next_node : (xs0 : List Shape) (ms0 : List Mark) (vs : List (List Mark)) (x : Shape) (xs : List Shape) (ms : List Mark) → FindsSo xs0 ms0 vs (x ∷ xs) ms → 0 < length ms →
    FindsSo xs0 ms0 (with_node vs x ms) xs (drop (node_length x ms) ms)
next_node xs0 ms0 vs (shapes.Name n) xs ms f some = next_name xs0 ms0 vs n xs ms f f.trees f.spelled some
next_node xs0 ms0 vs shapes.Pair xs ms f some = plain xs0 ms0 vs xs ms marks.Pair f.grounds f.whole f.trees f.spelled f.fits f.rising f.total
next_node xs0 ms0 vs (shapes.Sym s) xs ms f some = plain xs0 ms0 vs xs ms (marks.Sym s) f.grounds f.whole f.trees f.spelled f.fits f.rising f.total
next_node xs0 ms0 vs (shapes.Str s) xs ms f some = plain xs0 ms0 vs xs ms (marks.Str s) f.grounds f.whole f.trees f.spelled f.fits f.rising f.total
next_node xs0 ms0 vs (shapes.Num s) xs ms f some = plain xs0 ms0 vs xs ms (marks.Num s) f.grounds f.whole f.trees f.spelled f.fits f.rising f.total
next_node xs0 ms0 vs (shapes.Truth s) xs ms f some = plain xs0 ms0 vs xs ms (marks.Truth s) f.grounds f.whole f.trees f.spelled f.fits f.rising f.total
next_node xs0 ms0 vs shapes.Nil xs ms f some = plain xs0 ms0 vs xs ms marks.Nil f.grounds f.whole f.trees f.spelled f.fits f.rising f.total

front_at : {X : Type 0} (xs : List X) (i : ℕ) (d : X) → i < length xs → drop i xs ≡ get_or xs i d ∷ drop (i + 1) xs
front_at xs i d below = drop-cons xs i d below ∙ ap (λ n. get_or xs i d ∷ drop n xs) (let more : suc i ≡ i + 1 = omega arith in more)

-- the loop: at the start, at each node, where no marks are left, and at the end
pub finds_start : (xs : List Shape) (ms : List Mark) → SpellsTree ms → rises 0 xs ≡ true → FindsSo xs ms [] xs ms
finds_start xs ms whole rising = record {
  grounds = [];
  whole = refl;
  trees = whole.0 ∷ [];
  spelled = sym whole.1 ∙ sym (append-nil (spelling whole.0));
  fits = λ us e. ((λ n below. absurd (let none : ⊥ = omega (arith, below) in none)), e);
  rising = rising;
  total = refl;
}

nothing_dropped : {X : Type 0} (n : ℕ) (xs : List X) → length xs ≡ 0 → drop n xs ≡ xs
nothing_dropped zero xs e = refl
nothing_dropped (suc n) [] e = refl
nothing_dropped (suc n) (x ∷ xs) e = absurd (let none : ⊥ = omega (arith, e) in none)

dropped_twice : {X : Type 0} (i j : ℕ) (xs : List X) → drop j (drop i xs) ≡ drop (i + j) xs
dropped_twice zero j xs = ap (λ n. drop n xs) (let e : j ≡ 0 + j = omega arith in e)
dropped_twice (suc i) j [] = nothing_dropped j [] refl ∙ sym (nothing_dropped (suc i + j) [] refl)
dropped_twice (suc i) j (x ∷ xs) = dropped_twice i j xs ∙ ap (λ n. drop n (x ∷ xs)) (let e : suc (i + j) ≡ suc i + j = omega arith in e)

some_left : {X : Type 0} (i : ℕ) (xs : List X) → i < length xs → 0 < length (drop i xs)
some_left zero xs below = below
some_left (suc i) [] below = absurd (let none : ⊥ = omega (arith, below) in none)
some_left (suc i) (x ∷ xs) below = some_left i xs (let less : i < length xs = omega (arith, below) in less)

fewer_left : {X : Type 0} (i : ℕ) (xs : List X) → i ≤ length xs → i + length (drop i xs) ≡ length xs
fewer_left zero xs below = (let e : 0 + length xs ≡ length xs = omega arith in e)
fewer_left (suc i) [] below = absurd (let none : ⊥ = omega (arith, below) in none)
fewer_left (suc i) (x ∷ xs) below = let e : i + length (drop i xs) ≡ length xs = fewer_left i xs (let less : i ≤ length xs = omega (arith, below) in less) in omega (arith, e)

pub cut_all : {X : Type 0} (i : ℕ) (xs : List X) → i < length xs → take (length xs - i) (drop i xs) ≡ drop i xs
cut_all i xs below =
    let whole : i + length (drop i xs) ≡ length xs = fewer_left i xs (let less : i ≤ length xs = omega (arith, below) in less) in
    ap (λ n. take n (drop i xs)) (let many : length xs - i ≡ length (drop i xs) = omega (arith, whole) in many) ∙ take-length (drop i xs)

pub finds_next : (xs0 : List Shape) (ms0 : List Mark) (vs new : List (List Mark)) (i at count : ℕ) (d : Shape) (cut : List Mark) → i < length xs0 → at < length ms0 → cut ≡ drop at ms0 →
    (at ≤ length ms0) × FindsSo xs0 ms0 vs (drop i xs0) (drop at ms0) → new ≡ with_node vs (get_or xs0 i d) cut → count ≡ node_length (get_or xs0 i d) cut → count ≤ length cut →
    (at + count ≤ length ms0) × FindsSo xs0 ms0 new (drop (i + 1) xs0) (drop (at + count) ms0)
finds_next xs0 ms0 vs new i at count d cut below within is held grown many few =
    let ms : List Mark = drop at ms0 in
    let x : Shape = get_or xs0 i d in
    let step = next_node xs0 ms0 vs x (drop (i + 1) xs0) ms (subst (λ l. FindsSo xs0 ms0 vs l ms) (front_at xs0 i d below) held.1) (some_left at ms0 within) in
    let more : count ≡ node_length x ms = many ∙ ap (node_length x) is in
    let room : length cut ≡ length ms = ap length is in (
      let whole : at + length ms ≡ length ms0 = fewer_left at ms0 held.0 in omega (arith, whole, few, room),
      subst (λ l. FindsSo xs0 ms0 new (drop (i + 1) xs0) l) (ap (λ n. drop n ms) (sym more) ∙ dropped_twice at count ms0)
          (subst (λ l. FindsSo xs0 ms0 l (drop (i + 1) xs0) (drop (node_length x ms) ms)) (sym (grown ∙ ap (with_node vs x) is)) step),
    )

node_filled : (us : List Gd) (x : Shape) → 0 < length (node_under us x)
node_filled us shapes.Pair = omega arith
node_filled us (shapes.Name n) = spelled_filled (value_at us n)
node_filled us (shapes.Sym s) = omega arith
node_filled us (shapes.Str s) = omega arith
node_filled us (shapes.Num n) = omega arith
node_filled us (shapes.Truth b) = omega arith
node_filled us shapes.Nil = omega arith

pub finds_none : (xs0 : List Shape) (ms0 : List Mark) (vs : List (List Mark)) (i : ℕ) (d : Shape) (ms : List Mark) → i < length xs0 → length ms ≡ 0 → FindsSo xs0 ms0 vs (drop i xs0) ms → Found xs0 ms0 None
finds_none xs0 ms0 vs i d ms below none f us e =
    let x : Shape = get_or xs0 i d in
    let long : length (node_under us x ++ term_under us (drop (i + 1) xs0)) ≡ 0 = ap (λ l. length (term_under us l)) (sym (front_at xs0 i d below)) ∙ ap length (f.fits us e).1 ∙ none in
    let never : ⊥ = omega (arith, long, node_filled us x, length-append (node_under us x) (term_under us (drop (i + 1) xs0))) in never

nothing_left : {X : Type 0} (xs : List X) (i : ℕ) → length xs ≤ i → drop i xs ≡ []
nothing_left [] zero past = refl
nothing_left [] (suc i) past = refl
nothing_left (x ∷ xs) zero past = absurd (let none : ⊥ = omega (arith, past) in none)
nothing_left (x ∷ xs) (suc i) past = nothing_left xs i (let less : length xs ≤ i = omega (arith, past) in less)

pub none_left : {X : Type 0} (xs : List X) (i : ℕ) → length xs ≤ i → length (drop i xs) ≡ 0
none_left xs i past = ap length (nothing_left xs i past)

pub finds_all : (xs0 : List Shape) (ms0 : List Mark) (vs : List (List Mark)) (i : ℕ) (ms : List Mark) → length xs0 ≤ i → FindsSo xs0 ms0 vs (drop i xs0) ms → Finds xs0 ms0 vs
finds_all xs0 ms0 vs i ms past f = record {
  grounds = f.grounds;
  whole = f.whole;
  agrees = λ us e. (f.fits us e).0;
  total = ap (reach (length f.grounds)) (sym (nothing_left xs0 i past)) ∙ f.total;
}
