-- The names of a term in their order.
use Rattle.std.proofs.Common.{◌≡◌, ℕ, suc, ◌+◌, ◌≤◌, Bool, true, false, cond, List, [], ◌∷◌, ◌++◌, length, refl, sym, ap, ap₂, ◌∙◌, arith}
use Rattle.std.specs.Prelude.{eqb, nat_lt, if◌then◌else◌, ◌&&◌, not, filter}
use Rattle.std.proofs.lemmas.Bool.{and_parts, eqb-true, eq-eqb}
use Rattle.std.proofs.lemmas.Bool.Decides.{nat_tests}
use Rattle.kan_terms.specs.Tree.{Tree, Tm, leaves}
use Rattle.kan_model.specs.Programs.Scope.{all_below}
use Rattle.kan_model.specs.Answers.Order.{each_once}
use Rattle.kan_model.specs.Answers.Answer.{named_variables}
use Rattle.kan_model.specs.Answers.InForm.{counts_up}
use Rattle.reify.specs.Shapes.{spelling}
use Rattle.reify.specs.declared.shaping.Shape.{Shape}
use Rattle.reify.specs.declared.shaping.Shape.TheVariants as shapes
use Rattle.answer_reading.specs.Finding.{after_name, rises, reach, names_in, names_rise, names_reach}

-- shapes and their names
pub names_in-append : (xs ys : List Shape) → names_in (xs ++ ys) ≡ names_in xs ++ names_in ys
names_in-append [] ys = refl
names_in-append (shapes.Name n ∷ xs) ys = ap (λ l. n ∷ l) (names_in-append xs ys)
names_in-append (shapes.Pair ∷ xs) ys = names_in-append xs ys
names_in-append (shapes.Sym s ∷ xs) ys = names_in-append xs ys
names_in-append (shapes.Str s ∷ xs) ys = names_in-append xs ys
names_in-append (shapes.Num s ∷ xs) ys = names_in-append xs ys
names_in-append (shapes.Truth s ∷ xs) ys = names_in-append xs ys
names_in-append (shapes.Nil ∷ xs) ys = names_in-append xs ys

pub names_spelled : (t : Tm) → names_in (spelling t) ≡ leaves t
names_spelled (Tree.leaf v) = refl
names_spelled (Tree.sym s) = refl
names_spelled (Tree.str s) = refl
names_spelled (Tree.num n) = refl
names_spelled (Tree.truth b) = refl
names_spelled Tree.nil = refl
names_spelled (Tree.pair a b) = names_in-append (spelling a) (spelling b) ∙ ap₂ (λ l m. l ++ m) (names_spelled a) (names_spelled b)

pub rises_names : (k : ℕ) (xs : List Shape) → rises k xs ≡ names_rise k (names_in xs)
rises_names k [] = refl
rises_names k (shapes.Name n ∷ xs) = ap (λ b. nat_lt n (suc k) && b) (rises_names (after_name k n) xs)
rises_names k (shapes.Pair ∷ xs) = rises_names k xs
rises_names k (shapes.Sym s ∷ xs) = rises_names k xs
rises_names k (shapes.Str s ∷ xs) = rises_names k xs
rises_names k (shapes.Num s ∷ xs) = rises_names k xs
rises_names k (shapes.Truth s ∷ xs) = rises_names k xs
rises_names k (shapes.Nil ∷ xs) = rises_names k xs

pub reach_names : (k : ℕ) (xs : List Shape) → reach k xs ≡ names_reach k (names_in xs)
reach_names k [] = refl
reach_names k (shapes.Name n ∷ xs) = reach_names (after_name k n) xs
reach_names k (shapes.Pair ∷ xs) = reach_names k xs
reach_names k (shapes.Sym s ∷ xs) = reach_names k xs
reach_names k (shapes.Str s ∷ xs) = reach_names k xs
reach_names k (shapes.Num s ∷ xs) = reach_names k xs
reach_names k (shapes.Truth s ∷ xs) = reach_names k xs
reach_names k (shapes.Nil ∷ xs) = reach_names k xs

-- two filters as one
filters : (p q r : ℕ → Bool) → ((y : ℕ) → (if q y then p y else false) ≡ r y) → (xs : List ℕ) → filter p (filter q xs) ≡ filter r xs
filters p q r same [] = refl
filters p q r same (x ∷ xs) = by (filters p q r same xs) (q x) refl (p x) refl
  where
    by : filter p (filter q xs) ≡ filter r xs → (a : Bool) → q x ≡ a → (b : Bool) → p x ≡ b → filter p (filter q (x ∷ xs)) ≡ filter r (x ∷ xs)
    by ih true e true f = let s : true ≡ r x = ap₂ (λ a b. if a then b else false) (sym e) (sym f) ∙ same x in rw (e, f, sym s) (ap (λ l. x ∷ l) ih)
    by ih true e false f = let s : false ≡ r x = ap₂ (λ a b. if a then b else false) (sym e) (sym f) ∙ same x in rw (e, f, sym s) ih
    by ih false e b f = let s : false ≡ r x = ap (λ a. if a then p x else false) (sym e) ∙ same x in rw (e, sym s) ih

-- the names that are not among the first k
abbrev later : ℕ → List ℕ → List ℕ
later k ns = filter (λ y. not (nat_lt y k)) (each_once eqb ns)

from_next : (k y : ℕ) → (if not (eqb k y) then not (nat_lt y k) else false) ≡ not (nat_lt y (suc k))
from_next k y = grind (arith, nat_tests)

from_same : (k n y : ℕ) → nat_lt n k ≡ true → (if not (eqb n y) then not (nat_lt y k) else false) ≡ not (nat_lt y k)
from_same k n y h = grind (arith, nat_tests)

all_kept : (ns : List ℕ) → filter (λ y. not (nat_lt y 0)) ns ≡ ns
all_kept [] = refl
all_kept (n ∷ ns) = let none : nat_lt n 0 ≡ false = grind (arith, nat_tests) in rw none (ap (λ l. n ∷ l) (all_kept ns))

-- which of the three cases a name is
later_next : (k : ℕ) (ns : List ℕ) → later k (k ∷ ns) ≡ k ∷ later (suc k) ns
later_next k ns =
    let here : nat_lt k k ≡ false = grind (arith, nat_tests) in
    rw here (ap (λ l. k ∷ l) (filters (λ y. not (nat_lt y k)) (λ y. not (eqb k y)) (λ y. not (nat_lt y (suc k))) (from_next k) (each_once eqb ns)))

later_old : (k n : ℕ) (ns : List ℕ) → nat_lt n k ≡ true → later k (n ∷ ns) ≡ later k ns
later_old k n ns h = rw h (filters (λ y. not (nat_lt y k)) (λ y. not (eqb n y)) (λ y. not (nat_lt y k)) (λ y. from_same k n y h) (each_once eqb ns))

later_far : (k n : ℕ) (ns : List ℕ) → nat_lt n (suc k) ≡ false → counts_up k (later k (n ∷ ns)) ≡ false
later_far k n ns h =
    let here : nat_lt n k ≡ false = grind (arith, nat_tests) in
    let apart : eqb k n ≡ false = grind (arith, nat_tests) in
    rw (here, apart) refl

pub counts_rise : (k : ℕ) (ns : List ℕ) → counts_up k (later k ns) ≡ names_rise k ns
counts_rise k [] = refl
counts_rise k (n ∷ ns) = by (λ m. counts_rise m ns) (nat_lt n (suc k)) refl (eqb n k) refl
  where
    by : ((m : ℕ) → counts_up m (later m ns) ≡ names_rise m ns) → (a : Bool) → nat_lt n (suc k) ≡ a → (b : Bool) → eqb n k ≡ b → counts_up k (later k (n ∷ ns)) ≡ names_rise k (n ∷ ns)
    by ih false h b e = later_far k n ns h ∙ ap (λ c. c && names_rise (after_name k n) ns) (sym h)
    by ih true h true e =
        let is : n ≡ k = eqb-true n k e in
        ap (λ m. counts_up k (later k (m ∷ ns))) is ∙ ap (counts_up k) (later_next k ns)
        ∙ ap (λ c. c && counts_up (suc k) (later (suc k) ns)) (eq-eqb k k refl) ∙ ih (suc k)
        ∙ ap₂ (λ c m. c && names_rise m ns) (sym h) (ap (λ c. cond c (suc k) k) (sym e))
    by ih true h false e =
        let old : nat_lt n k ≡ true = grind (arith, nat_tests) in
        ap (counts_up k) (later_old k n ns old) ∙ ih k ∙ ap₂ (λ c m. c && names_rise m ns) (sym h) (ap (λ c. cond c (suc k) k) (sym e))

count_on : (k l : ℕ) → suc l + k ≡ l + suc k
count_on k l = omega arith

pub later_reach : (k : ℕ) (ns : List ℕ) → names_rise k ns ≡ true → length (later k ns) + k ≡ names_reach k ns
later_reach k [] h = (let e : 0 + k ≡ k = omega arith in e)
later_reach k (n ∷ ns) h = by (λ m. later_reach m ns) (eqb n k) refl
  where
    parts : (nat_lt n (suc k) ≡ true) × (names_rise (after_name k n) ns ≡ true)
    parts = and_parts (nat_lt n (suc k)) (names_rise (after_name k n) ns) h

    by : ((m : ℕ) → names_rise m ns ≡ true → length (later m ns) + m ≡ names_reach m ns) → (b : Bool) → eqb n k ≡ b → length (later k (n ∷ ns)) + k ≡ names_reach k (n ∷ ns)
    by ih true e =
        let is : n ≡ k = eqb-true n k e in
        let after : after_name k n ≡ suc k = ap (λ c. cond c (suc k) k) e in
        ap (λ m. length (later k (m ∷ ns)) + k) is ∙ ap (λ l. length l + k) (later_next k ns) ∙ count_on k (length (later (suc k) ns))
        ∙ ih (suc k) (ap (λ m. names_rise m ns) (sym after) ∙ parts.1) ∙ ap (λ m. names_reach m ns) (sym after)
    by ih false e =
        let within : nat_lt n (suc k) ≡ true = parts.0 in
        let old : nat_lt n k ≡ true = grind (arith, nat_tests) in
        let after : after_name k n ≡ k = ap (λ c. cond c (suc k) k) e in
        ap (λ l. length l + k) (later_old k n ns old) ∙ ih k (ap (λ m. names_rise m ns) (sym after) ∙ parts.1) ∙ ap (λ m. names_reach m ns) (sym after)

-- a term's names come in order where its shapes say so
pub term_rises : (t : Tm) → counts_up 0 (named_variables t) ≡ rises 0 (spelling t)
term_rises t =
    ap (counts_up 0) (sym (all_kept (named_variables t))) ∙ counts_rise 0 (leaves t) ∙ ap (names_rise 0) (sym (names_spelled t)) ∙ sym (rises_names 0 (spelling t))

pub term_reach : (t : Tm) → rises 0 (spelling t) ≡ true → reach 0 (spelling t) ≡ length (named_variables t)
term_reach t h =
    let names : names_rise 0 (leaves t) ≡ true = ap (names_rise 0) (sym (names_spelled t)) ∙ sym (rises_names 0 (spelling t)) ∙ h in
    let far : length (later 0 (leaves t)) + 0 ≡ names_reach 0 (leaves t) = later_reach 0 (leaves t) names in
    reach_names 0 (spelling t) ∙ ap (names_reach 0) (names_spelled t) ∙ sym far
    ∙ ap (λ l. length l + 0) (all_kept (named_variables t)) ∙ (let e : length (named_variables t) + 0 ≡ length (named_variables t) = omega arith in e)

-- and then they lie below their count
grows : (k : ℕ) (ns : List ℕ) → k ≤ names_reach k ns
grows k [] = omega arith
grows k (n ∷ ns) = by (λ m. grows m ns) (eqb n k) refl
  where
    by : ((m : ℕ) → m ≤ names_reach m ns) → (b : Bool) → eqb n k ≡ b → k ≤ names_reach (after_name k n) ns
    by ih true e = let more : suc k ≤ names_reach (suc k) ns = ih (suc k) in rw e (let less : k ≤ names_reach (suc k) ns = omega (arith, more) in less)
    by ih false e = rw e (ih k)

abbrev pub AllBelow : ℕ → List ℕ → Type 0
AllBelow m [] = Unit {0}
AllBelow m (n ∷ ns) = (nat_lt n m ≡ true) × AllBelow m ns

pub each_below : (k : ℕ) (ns : List ℕ) (m : ℕ) → names_rise k ns ≡ true → names_reach k ns ≤ m → AllBelow m ns
each_below k [] m h past = tt
each_below k (n ∷ ns) m h past =
    let parts : (nat_lt n (suc k) ≡ true) × (names_rise (after_name k n) ns ≡ true) = and_parts (nat_lt n (suc k)) (names_rise (after_name k n) ns) h in
    (below (eqb n k) refl parts.0, each_below (after_name k n) ns m parts.1 past)
  where
    below : (b : Bool) → eqb n k ≡ b → nat_lt n (suc k) ≡ true → nat_lt n m ≡ true
    below true e h = let far : suc k ≤ names_reach (after_name k n) ns = rw e (grows (suc k) ns) in let is : n ≡ k = eqb-true n k e in grind (arith, nat_tests)
    below false e h = let far : after_name k n ≤ names_reach (after_name k n) ns = grows (after_name k n) ns in let same : after_name k n ≡ k = ap (λ c. cond c (suc k) k) e in grind (arith, nat_tests)

below_front : (m : ℕ) (xs ys : List ℕ) → AllBelow m (xs ++ ys) → AllBelow m xs × AllBelow m ys
below_front m [] ys h = (tt, h)
below_front m (x ∷ xs) ys h = let parts = below_front m xs ys h.1 in ((h.0, parts.0), parts.1)

term_below : (m : ℕ) (t : Tm) → AllBelow m (leaves t) → all_below m t ≡ true
term_below m (Tree.leaf v) h = h.0
term_below m (Tree.sym s) h = refl
term_below m (Tree.str s) h = refl
term_below m (Tree.num n) h = refl
term_below m (Tree.truth b) h = refl
term_below m Tree.nil h = refl
term_below m (Tree.pair a b) h = let parts = below_front m (leaves a) (leaves b) h in ap₂ (λ x y. x && y) (term_below m a parts.0) (term_below m b parts.1)

pub own_below : (t : Tm) → counts_up 0 (named_variables t) ≡ true → all_below (length (named_variables t)) t ≡ true
own_below t h =
    let shapes_rise : rises 0 (spelling t) ≡ true = sym (term_rises t) ∙ h in
    let names : names_rise 0 (leaves t) ≡ true = ap (names_rise 0) (sym (names_spelled t)) ∙ sym (rises_names 0 (spelling t)) ∙ shapes_rise in
    let far : names_reach 0 (leaves t) ≡ length (named_variables t) = ap (names_reach 0) (sym (names_spelled t)) ∙ sym (reach_names 0 (spelling t)) ∙ term_reach t shapes_rise in
    term_below (length (named_variables t)) t (each_below 0 (leaves t) (length (named_variables t)) names (let within : names_reach 0 (leaves t) ≤ length (named_variables t) = omega (arith, far) in within))
