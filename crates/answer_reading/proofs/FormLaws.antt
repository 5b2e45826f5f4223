-- Tests on shapes are those of answers in form.
use Rattle.std.proofs.Common.{◌≡◌, ℕ, Bool, true, false, List, [], ◌∷◌, ◌++◌, length, map, refl, sym, ap, ap₂, ◌∙◌, true≢false}
use Rattle.std.specs.Prelude.{◌&&◌, ◌||◌, not, eqb, nat_lt, if◌then◌else◌, Option, Some, None, ℤ}
use Rattle.std.specs.List.{list_all, list_any}
use Rattle.std.specs.Ordering.{int_eq}
use Rattle.std.proofs.lemmas.Bool.{and_parts, eqb-true, eq-eqb}
use Rattle.std.proofs.lemmas.Bool.Decides.{Decides-int_eq}
use Rattle.std.proofs.lemmas.List.Folds.{list_all-append, list_any-append}
use Rattle.kan_terms.specs.Table.{Table}
use Rattle.kan_terms.specs.Tree.{Tree, Tm, bool_eq, occurs, term_eq}
use Rattle.kan_terms.proofs.TreeLaws.{term_eq-true, eq-term_eq}
use Rattle.kan_model.specs.Programs.Scope.{all_below}
use Rattle.kan_model.specs.Answers.Answer.{named_variables}
use Rattle.kan_model.specs.Answers.AnswerText.{difference_le}
use Rattle.kan_model.specs.Answers.InForm as forms
use Rattle.kan_model.specs.Answers.InForm.{absence_in_form, apart, ascends, counts_up, difference_in_form, equal_pairs, in_form, is_filled, is_replaced, name_before, name_count, names_in_form, pair_in_form, replaces_lower, tag_before}
use Rattle.reify.specs.declared.shaping.NamePair.{NamePair}
use Rattle.reify.specs.declared.shaping.Shape.{Shape}
use Rattle.reify.specs.declared.shaping.Shape.TheVariants.{Pair, Name, Sym, Str, Num, Truth, Nil}
use Rattle.reify.specs.OverNames.{absence}
use Rattle.reify.specs.Shapes.{all_whole, named_pair, spelling, spells, tree_of}
use Rattle.reify.proofs.ShapeLaws.{spelled_whole, tree_of-spelling}
use Rattle.answer_reading.specs.Finding.{reach, rises}
use Rattle.answer_reading.specs.Forming.{all_different, are_absences_formed, are_differences_formed, are_kinds_formed, are_whole, count_from, is_below, is_difference_formed, is_free_of, is_higher, is_name, is_pair_formed, pairs_eq, shape_eq, shapes_eq}
use Rattle.answer_reading.specs.declared.constraints.Parts.{Parts}
use Rattle.answer_reading.specs.Listing.{meaning}
use Rattle.answer_reading.proofs.OrderLaws.{term_reach, term_rises}

-- names of shapes
below_tree : (n : ℕ) (t : Tm) → list_all (is_below n) (spelling t) ≡ all_below n t
below_tree n (Tree.leaf v) = and_end (nat_lt v n)
  where
    and_end : (b : Bool) → (b && true) ≡ b
    and_end true = refl
    and_end false = refl
below_tree n (Tree.sym s) = refl
below_tree n (Tree.str s) = refl
below_tree n (Tree.num z) = refl
below_tree n (Tree.truth b) = refl
below_tree n Tree.nil = refl
below_tree n (Tree.pair a b) = list_all-append (is_below n) (spelling a) (spelling b) ∙ ap₂ (λ x y. x && y) (below_tree n a) (below_tree n b)

name_tree : (v : ℕ) (t : Tm) → list_any (is_name v) (spelling t) ≡ occurs v t
name_tree v (Tree.leaf w) = or_end (eqb v w)
  where
    or_end : (b : Bool) → (b || false) ≡ b
    or_end true = refl
    or_end false = refl
name_tree v (Tree.sym s) = refl
name_tree v (Tree.str s) = refl
name_tree v (Tree.num z) = refl
name_tree v (Tree.truth b) = refl
name_tree v Tree.nil = refl
name_tree v (Tree.pair a b) = list_any-append (is_name v) (spelling a) (spelling b) ∙ ap₂ (λ x y. x || y) (name_tree v a) (name_tree v b)

higher_tree : (v : ℕ) (t : Tm) → is_higher v (spelling t) ≡ replaces_lower v t
higher_tree v (Tree.leaf w) = refl
higher_tree v (Tree.sym s) = refl
higher_tree v (Tree.str s) = refl
higher_tree v (Tree.num z) = refl
higher_tree v (Tree.truth b) = refl
higher_tree v Tree.nil = refl
higher_tree v (Tree.pair a b) = refl

-- equal shapes
int_same : (z : ℤ) → int_eq z z ≡ true
int_same z = (Decides-int_eq z z).1 refl

bool_same : (b : Bool) → bool_eq b b ≡ true
bool_same true = refl
bool_same false = refl

bool_eq-true : (a b : Bool) → bool_eq a b ≡ true → a ≡ b
bool_eq-true true true h = refl
bool_eq-true true false h = absurd (true≢false (sym h))
bool_eq-true false true h = absurd (true≢false (sym h))
bool_eq-true false false h = refl

shape_same : (x : Shape) → shape_eq x x ≡ true
shape_same Pair = refl
shape_same (Name n) = eq-eqb n n refl
shape_same (Sym s) = eq-eqb s s refl
shape_same (Str s) = eq-eqb s s refl
shape_same (Num z) = int_same z
shape_same (Truth b) = bool_same b
shape_same Nil = refl

shapes_same : (xs : List Shape) → shapes_eq xs xs ≡ true
shapes_same [] = refl
shapes_same (x ∷ xs) = ap₂ (λ a b. a && b) (shape_same x) (shapes_same xs)

pub shape_eq-true : (x y : Shape) → shape_eq x y ≡ true → x ≡ y
shape_eq-true Pair Pair h = refl
shape_eq-true (Name m) (Name n) h = ap Name (eqb-true m n h)
shape_eq-true (Sym s) (Sym r) h = ap Sym (eqb-true s r h)
shape_eq-true (Str s) (Str r) h = ap Str (eqb-true s r h)
shape_eq-true (Num m) (Num n) h = ap Num ((Decides-int_eq m n).0 h)
shape_eq-true (Truth a) (Truth b) h = ap Truth (bool_eq-true a b h)
shape_eq-true Nil Nil h = refl
shape_eq-true x y h = absurd (true≢false (sym h))

shapes_eq-true : (xs ys : List Shape) → shapes_eq xs ys ≡ true → xs ≡ ys
shapes_eq-true [] [] h = refl
shapes_eq-true [] (y ∷ ys) h = absurd (true≢false (sym h))
shapes_eq-true (x ∷ xs) [] h = absurd (true≢false (sym h))
shapes_eq-true (x ∷ xs) (y ∷ ys) h = let parts = and_parts (shape_eq x y) (shapes_eq xs ys) h in ap₂ (λ a b. a ∷ b) (shape_eq-true x y parts.0) (shapes_eq-true xs ys parts.1)

pub shapes_tree : (s t : Tm) → shapes_eq (spelling s) (spelling t) ≡ term_eq s t
shapes_tree s t = by (shapes_eq (spelling s) (spelling t)) (term_eq s t) refl refl
  where
    by : (a b : Bool) → shapes_eq (spelling s) (spelling t) ≡ a → term_eq s t ≡ b → a ≡ b
    by true true e f = refl
    by false false e f = refl
    by true false e f =
        let same : s ≡ t = sym (tree_of-spelling s) ∙ ap tree_of (shapes_eq-true (spelling s) (spelling t) e) ∙ tree_of-spelling t in
        sym (eq-term_eq s t same) ∙ f
    by false true e f =
        let same : s ≡ t = term_eq-true s t f in
        sym (e) ∙ ap (λ u. shapes_eq (spelling s) (spelling u)) (sym same) ∙ shapes_same (spelling s)

-- the same of whole pairs
pair_formed : (n : ℕ) (p : NamePair) → spells 1 p.term ≡ true → is_pair_formed n p ≡ pair_in_form n (named_pair p)
pair_formed n p whole =
    let same : spelling (tree_of p.term) ≡ p.term = spelled_whole p.term whole in
    ap₂ (λ x y. nat_lt p.name n && x && y) (ap (list_all (is_below n)) (sym same) ∙ below_tree n (tree_of p.term)) (ap (is_higher p.name) (sym same) ∙ higher_tree p.name (tree_of p.term))

name_formed : (v : ℕ) (p : NamePair) → spells 1 p.term ≡ true → list_any (is_name v) p.term ≡ occurs v (tree_of p.term)
name_formed v p whole = ap (list_any (is_name v)) (sym (spelled_whole p.term whole)) ∙ name_tree v (tree_of p.term)

pair_same : (p r : NamePair) → spells 1 p.term ≡ true → spells 1 r.term ≡ true → shapes_eq p.term r.term ≡ term_eq (tree_of p.term) (tree_of r.term)
pair_same p r one other = ap₂ shapes_eq (sym (spelled_whole p.term one)) (sym (spelled_whole r.term other)) ∙ shapes_tree (tree_of p.term) (tree_of r.term)

-- tests over whole pairs
each_whole : {Y : Type 0} (f : NamePair → Bool) (g : Y → Bool) (h : NamePair → Y) → ((p : NamePair) → spells 1 p.term ≡ true → f p ≡ g (h p)) → (ps : List NamePair) → all_whole ps ≡ true → list_all f ps ≡ list_all g (map h ps)
each_whole f g h so [] whole = refl
each_whole f g h so (p ∷ ps) whole = let parts = and_parts (spells 1 p.term) (all_whole ps) whole in ap₂ (λ x y. x && y) (so p parts.0) (each_whole f g h so ps parts.1)

free_formed : (ps : List NamePair) → all_whole ps ≡ true → (v : ℕ) → is_free_of ps v ≡ list_all (λ r. not (occurs v r.by)) (map named_pair ps)
free_formed ps whole v = each_whole (λ r. not (list_any (is_name v) r.term)) (λ r. not (occurs v r.by)) named_pair (λ p one. ap not (name_formed v p one)) ps whole

filled_map : {X Y : Type 0} (f : X → Y) (xs : List X) → is_filled xs ≡ is_filled (map f xs)
filled_map f [] = refl
filled_map f (x ∷ xs) = refl

pub ascends_map : {X Y : Type 0} (before : Y → Y → Bool) (f : X → Y) (xs : List X) → ascends (λ a b. before (f a) (f b)) xs ≡ ascends before (map f xs)
ascends_map before f [] = refl
ascends_map before f (x ∷ []) = refl
ascends_map before f (x ∷ y ∷ ys) = ap (λ r. before (f x) (f y) && r) (ascends_map before f (y ∷ ys))

difference_formed : (n : ℕ) (ps : List NamePair) → all_whole ps ≡ true → is_difference_formed n ps ≡ difference_in_form n (map named_pair ps)
difference_formed n ps whole =
    ap₂ (λ x y. x && y)
    (ap₂ (λ x y. x && y)
    (ap₂ (λ x y. x && y) (filled_map named_pair ps) (each_whole (is_pair_formed n) (pair_in_form n) named_pair (pair_formed n) ps whole))
    (each_whole (λ p. is_free_of ps p.name) (is_replaced (map named_pair ps)) named_pair (λ p one. free_formed ps whole p.name) ps whole))
    (ascends_map name_before named_pair ps)

differences_formed : (n : ℕ) (ds : List (List NamePair)) → list_all all_whole ds ≡ true → list_all (is_difference_formed n) ds ≡ list_all (difference_in_form n) (map (map named_pair) ds)
differences_formed n [] whole = refl
differences_formed n (d ∷ ds) whole = let parts = and_parts (all_whole d) (list_all all_whole ds) whole in ap₂ (λ x y. x && y) (difference_formed n d parts.0) (differences_formed n ds parts.1)

pairs_same : (ps rs : List NamePair) → all_whole ps ≡ true → all_whole rs ≡ true → pairs_eq ps rs ≡ equal_pairs (map named_pair ps) (map named_pair rs)
pairs_same [] [] one other = refl
pairs_same [] (r ∷ rs) one other = refl
pairs_same (p ∷ ps) [] one other = refl
pairs_same (p ∷ ps) (r ∷ rs) one other =
    let a = and_parts (spells 1 p.term) (all_whole ps) one in
    let b = and_parts (spells 1 r.term) (all_whole rs) other in
    ap₂ (λ x y. eqb p.name r.name && x && y) (pair_same p r a.0 b.0) (pairs_same ps rs a.1 b.1)

among_same : (ps : List NamePair) (ds : List (List NamePair)) → all_whole ps ≡ true → list_all all_whole ds ≡ true → list_any (pairs_eq ps) ds ≡ list_any (equal_pairs (map named_pair ps)) (map (map named_pair) ds)
among_same ps [] one all = refl
among_same ps (d ∷ ds) one all = let parts = and_parts (all_whole d) (list_all all_whole ds) all in ap₂ (λ x y. x || y) (pairs_same ps d one parts.0) (among_same ps ds one parts.1)

different_formed : (ds : List (List NamePair)) → list_all all_whole ds ≡ true → all_different ds ≡ forms.all_different (map (map named_pair) ds)
different_formed [] whole = refl
different_formed (d ∷ ds) whole = let parts = and_parts (all_whole d) (list_all all_whole ds) whole in ap₂ (λ x y. not x && y) (among_same d ds parts.0 parts.1) (different_formed ds parts.1)

-- all together
and_six : (p n s t x y z : Bool) → (p && (n && s && t && x && y && z)) ≡ (p && n && s && t && x && y && z)
and_six true n s t x y z = refl
and_six false n s t x y z = refl

and_two : (p b g : Bool) → (p && (b && g)) ≡ (p && b && g)
and_two true b g = refl
and_two false b g = refl

counted : (n : ℕ) (term : List Shape) → spells 1 term ≡ true → count_from 0 term ≡ Some n → (counts_up 0 (named_variables (tree_of term)) ≡ true) × (n ≡ length (named_variables (tree_of term)))
counted n term whole found = by (rises 0 term) refl found
  where
    same : spelling (tree_of term) ≡ term
    same = spelled_whole term whole

    by : (b : Bool) → rises 0 term ≡ b → (if b then Some (reach 0 term) else None) ≡ Some n → (counts_up 0 (named_variables (tree_of term)) ≡ true) × (n ≡ length (named_variables (tree_of term)))
    by true e f =
        let rise : rises 0 (spelling (tree_of term)) ≡ true = ap (rises 0) same ∙ e in
        let is : n ≡ reach 0 term = cc in
        (term_rises (tree_of term) ∙ rise, is ∙ ap (reach 0) (sym same) ∙ term_reach (tree_of term) rise)
    by false e f = absurd cc

uncounted : (term : List Shape) → spells 1 term ≡ true → count_from 0 term ≡ None → counts_up 0 (named_variables (tree_of term)) ≡ false
uncounted term whole found = by (rises 0 term) refl found
  where
    by : (b : Bool) → rises 0 term ≡ b → (if b then Some (reach 0 term) else None) ≡ None → counts_up 0 (named_variables (tree_of term)) ≡ false
    by true e f = absurd cc
    by false e f = term_rises (tree_of term) ∙ ap (rises 0) (spelled_whole term whole) ∙ e

pub formed_some : (table : Table) (parts : Parts) (n : ℕ) (count : Option ℕ) (term : List Shape) (d k b : Bool) → are_whole parts.term parts.disequalities.items ≡ true → term ≡ parts.term → count ≡ count_from 0 term → count ≡ Some n →
    d ≡ are_differences_formed table n parts.disequalities.items → k ≡ are_kinds_formed n parts.kinds.numbers.items parts.kinds.symbols.items parts.kinds.strings.items →
    b ≡ are_absences_formed table n parts.kinds.numbers.items parts.kinds.strings.items (map absence parts.absences.items) → (d && k && b) ≡ in_form table (meaning parts)
formed_some table parts n count term d k b whole lent read found first second third =
    let wholes = and_parts (spells 1 parts.term) (list_all all_whole parts.disequalities.items) whole in
    let names = counted n parts.term wholes.0 (ap (count_from 0) (sym lent) ∙ sym read ∙ found) in
    let ds = parts.disequalities.items in
    let m : ℕ = name_count (meaning parts) in
    let as_ = map absence parts.absences.items in
    let differs : d ≡ (counts_up 0 (named_variables (tree_of parts.term)) && list_all (difference_in_form m) (map (map named_pair) ds) && forms.all_different (map (map named_pair) ds) && ascends (difference_le table) (map (map named_pair) ds)) =
    first ∙ ap₂ (λ x y. x && y) (ap₂ (λ x y. x && y) (differences_formed n ds wholes.1 ∙ ap (λ j. list_all (difference_in_form j) (map (map named_pair) ds)) names.1) (different_formed ds wholes.1)) (ascends_map (difference_le table) (map named_pair) ds)
    ∙ ap (λ c. c && list_all (difference_in_form m) (map (map named_pair) ds) && forms.all_different (map (map named_pair) ds) && ascends (difference_le table) (map (map named_pair) ds)) (sym names.0) in
    let numbers = parts.kinds.numbers.items in
    let symbols = parts.kinds.symbols.items in
    let strings = parts.kinds.strings.items in
    ap₂ (λ x y. x && y) (ap₂ (λ x y. x && y) differs (second ∙ ap (λ j. are_kinds_formed j numbers symbols strings) names.1)) (third ∙ ap (λ j. are_absences_formed table j numbers strings as_) names.1)
    ∙ ap (λ x. x && are_absences_formed table m numbers strings as_)
    (and_six (counts_up 0 (named_variables (tree_of parts.term)) && list_all (difference_in_form m) (map (map named_pair) ds) && forms.all_different (map (map named_pair) ds) && ascends (difference_le table) (map (map named_pair) ds))
    (names_in_form m numbers) (names_in_form m symbols) (names_in_form m strings) (apart numbers symbols) (apart strings symbols) (apart numbers strings))
    ∙ and_two _ (list_all (absence_in_form m (numbers ++ strings)) as_) (ascends (tag_before table) as_)

pub formed_none : (table : Table) (parts : Parts) (count : Option ℕ) (term : List Shape) → are_whole parts.term parts.disequalities.items ≡ true → term ≡ parts.term → count ≡ count_from 0 term → count ≡ None → false ≡ in_form table (meaning parts)
formed_none table parts count term whole lent read found =
    let wholes = and_parts (spells 1 parts.term) (list_all all_whole parts.disequalities.items) whole in
    let none : counts_up 0 (named_variables (tree_of parts.term)) ≡ false = uncounted parts.term wholes.0 (ap (count_from 0) (sym lent) ∙ sym read ∙ found) in
    rw none refl
