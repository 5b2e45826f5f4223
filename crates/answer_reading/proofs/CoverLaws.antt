-- An answer covers the ground terms that the code finds.
use Rattle.std.proofs.Common.{◌≡◌, ◌↔◌, ℕ, zero, suc, ◌<◌, Bool, true, false, List, [], ◌∷◌, ◌++◌, length, map, refl, sym, ap, ap₂, ◌∙◌, arith, subst}
use Rattle.std.specs.Prelude.{IsTrue, nat_lt, ◌&&◌, ◌||◌, not, Option, None, Result, Ok, Err, IfOk}
use Rattle.std.specs.List.{list_all, list_any}
use Rattle.std.proofs.lemmas.Bool.{and_parts, both_ways, false_from_ne_true}
use Rattle.std.proofs.lemmas.Bool.Decides.{nat_tests}
use Rattle.std.proofs.lemmas.Grind.{flat_map-append}
use Rattle.std.proofs.lemmas.List.Folds.{list_any-append}
use Rattle.kan_terms.specs.Tree.{Tree, Tm, Gd, has_symbol, ground_eq}
use Rattle.kan_terms.specs.Valuations.{value_at, value}
use Rattle.kan_terms.specs.Spelling as grounds
use Rattle.kan_terms.specs.declared.marks.Mark.{Mark}
use Rattle.kan_terms.specs.declared.marks.Mark.TheVariants as marks
use Rattle.kan_terms.proofs.SpellingLaws.{spelling-same}
use Rattle.kan_terms.proofs.TreeLaws.{Decides-ground_eq}
use Rattle.kan_model.specs.Programs.Scope.{all_below}
use Rattle.kan_model.specs.Meaning.Holds.{is_symbol, is_number, is_string}
use Rattle.kan_model.specs.declared.prims.Kind.TheVariants.{Symbol, Number, Text}
use Rattle.kan_model.specs.Answers.Answer.{NamedPair, Absence, Answer, named_variables}
use Rattle.kan_model.specs.Answers.InForm.{counts_up, name_count}
use Rattle.kan_model.specs.Answers.Covers as model
use Rattle.reify.specs.Shapes.{spelling}
use Rattle.reify.specs.declared.shaping.Shape.{Shape}
use Rattle.answer_reading.specs.Marks.{marks_eq, marks_at, term_marks, node_marks, begins, is_tag, pair_met, difference_met, type_met, tag_met, absence_met, all_met, covers}
use Rattle.reify.specs.OverNames.{pair_below, names_below, constraints_below, is_over_names}
use Rattle.answer_reading.specs.Finding.{Agrees, Finds, Found, term_under, node_under, rises}
use Rattle.answer_reading.proofs.MarkLaws.{marks_eq-true, marks_eq-same}
use Rattle.answer_reading.proofs.OrderLaws.{term_rises, term_reach, own_below}

lower : (n k m : ℕ) → nat_lt n k ≡ true → m ≡ k → n < m
lower n k m h e = let below : n < k = grind (arith, nat_tests) in omega (arith, below, e)

-- the marks of the names
marks_mapped : (gs : List Gd) (n : ℕ) → n < length gs → marks_at (map grounds.spelling gs) n ≡ grounds.spelling (value_at gs n)
marks_mapped [] n below = absurd (let none : ⊥ = omega (arith, below) in none)
marks_mapped (g ∷ gs) zero below = refl
marks_mapped (g ∷ gs) (suc n) below = marks_mapped gs n (let less : n < length gs = omega (arith, below) in less)

-- two ground terms are the same where their marks are
same_marked : (x y : Gd) → marks_eq (grounds.spelling x) (grounds.spelling y) ≡ ground_eq x y
same_marked x y = by (ground_eq x y) refl
  where
    by : (b : Bool) → ground_eq x y ≡ b → marks_eq (grounds.spelling x) (grounds.spelling y) ≡ b
    by true e = ap (λ z. marks_eq (grounds.spelling x) (grounds.spelling z)) (sym ((Decides-ground_eq x y).0 e)) ∙ marks_eq-same (grounds.spelling x)
    by false e = false_from_ne_true (marks_eq (grounds.spelling x) (grounds.spelling y))
        (λ h. both_ways false refl (sym e ∙ (Decides-ground_eq x y).1 (spelling-same x y (marks_eq-true (grounds.spelling x) (grounds.spelling y) h))))

or_none : (b : Bool) → (b || false) ≡ b
or_none true = refl
or_none false = refl

tag_marked : (tag : ℕ) (g : Gd) → list_any (is_tag tag) (grounds.spelling g) ≡ has_symbol tag g
tag_marked tag (Tree.leaf none) = absurd none
tag_marked tag (Tree.sym s) = or_none (is_tag tag (marks.Sym s))
tag_marked tag (Tree.str s) = refl
tag_marked tag (Tree.num n) = refl
tag_marked tag (Tree.truth b) = refl
tag_marked tag Tree.nil = refl
tag_marked tag (Tree.pair a b) = list_any-append (is_tag tag) (grounds.spelling a) (grounds.spelling b) ∙ ap₂ (λ x y. x || y) (tag_marked tag a) (tag_marked tag b)

symbol_marked : (g : Gd) → begins Symbol (grounds.spelling g) ≡ is_symbol g
symbol_marked (Tree.leaf none) = absurd none
symbol_marked (Tree.sym s) = refl
symbol_marked (Tree.str s) = refl
symbol_marked (Tree.num n) = refl
symbol_marked (Tree.truth b) = refl
symbol_marked Tree.nil = refl
symbol_marked (Tree.pair a b) = refl

number_marked : (g : Gd) → begins Number (grounds.spelling g) ≡ is_number g
number_marked (Tree.leaf none) = absurd none
number_marked (Tree.sym s) = refl
number_marked (Tree.str s) = refl
number_marked (Tree.num n) = refl
number_marked (Tree.truth b) = refl
number_marked Tree.nil = refl
number_marked (Tree.pair a b) = refl

string_marked : (g : Gd) → begins Text (grounds.spelling g) ≡ is_string g
string_marked (Tree.leaf none) = absurd none
string_marked (Tree.sym s) = refl
string_marked (Tree.str s) = refl
string_marked (Tree.num n) = refl
string_marked (Tree.truth b) = refl
string_marked Tree.nil = refl
string_marked (Tree.pair a b) = refl

-- tests that agree where another holds
all_same : {X : Type 0} (p q r : X → Bool) → ((x : X) → r x ≡ true → p x ≡ q x) → (xs : List X) → list_all r xs ≡ true → list_all p xs ≡ list_all q xs
all_same p q r same [] h = refl
all_same p q r same (x ∷ xs) h = let parts = and_parts (r x) (list_all r xs) h in ap₂ (λ a b. a && b) (same x parts.0) (all_same p q r same xs parts.1)

-- a valuation under which the first names have these marks
module _ (vs : List (List Mark)) (us : List Gd) (k : ℕ) (at : (n : ℕ) → nat_lt n k ≡ true → marks_at vs n ≡ grounds.spelling (value_at us n)) where
  term_marked : (t : Tm) → all_below k t ≡ true → term_marks vs (spelling t) ≡ grounds.spelling (value us t)
  term_marked (Tree.leaf v) h = single (marks_at vs v) ∙ at v h
    where
      single : (xs : List Mark) → xs ++ [] ≡ xs
      single [] = refl
      single (x ∷ xs) = ap (λ l. x ∷ l) (single xs)
  term_marked (Tree.sym s) h = refl
  term_marked (Tree.str s) h = refl
  term_marked (Tree.num n) h = refl
  term_marked (Tree.truth b) h = refl
  term_marked Tree.nil h = refl
  term_marked (Tree.pair a b) h =
      let parts = and_parts (all_below k a) (all_below k b) h in
      ap (λ l. marks.Pair ∷ l) (flat_map-append (node_marks vs) (spelling a) (spelling b) ∙ ap₂ (λ l m. l ++ m) (term_marked a parts.0) (term_marked b parts.1))

  pair_marked : (p : NamedPair) → pair_below k p ≡ true → pair_met vs p ≡ model.pair_met us p
  pair_marked p h =
      let parts = and_parts (nat_lt p.name k) (all_below k p.by) h in
      ap₂ marks_eq (at p.name parts.0) (term_marked p.by parts.1) ∙ same_marked (value_at us p.name) (value us p.by)

  difference_marked : (ps : List NamedPair) → list_all (pair_below k) ps ≡ true → difference_met vs ps ≡ model.difference_met us ps
  difference_marked ps h = ap not (all_same (pair_met vs) (model.pair_met us) (pair_below k) pair_marked ps h)

  absence_marked : (kept : Absence) → names_below k kept.names ≡ true → absence_met vs kept ≡ model.absence_met us kept
  absence_marked kept h =
      all_same (tag_met vs kept.tag) (λ n. not (has_symbol kept.tag (value_at us n))) (λ v. nat_lt v k) (λ n below. ap not (ap (list_any (is_tag kept.tag)) (at n below) ∙ tag_marked kept.tag (value_at us n))) kept.names h

  pub all_marked : (a : Answer) → constraints_below k a ≡ true → all_met vs a ≡ model.meets us a
  all_marked a h =
      let one : Bool = list_all (list_all (pair_below k)) a.disequalities in
      let two : Bool = names_below k a.numbers in
      let three : Bool = names_below k a.symbols in
      let four : Bool = names_below k a.strings in
      let five : Bool = list_all (λ kept. names_below k kept.names) a.absences in
      let last = and_parts (one && two && three && four) five h in
      let next = and_parts (one && two && three) four last.0 in
      let third = and_parts (one && two) three next.0 in
      let first = and_parts one two third.0 in
      ap₂ (λ x y. x && y) (ap₂ (λ x y. x && y) (ap₂ (λ x y. x && y) (ap₂ (λ x y. x && y)
      (all_same (difference_met vs) (model.difference_met us) (list_all (pair_below k)) difference_marked a.disequalities first.0)
      (all_same (type_met vs Number) (λ n. is_number (value_at us n)) (λ v. nat_lt v k) (λ n below. ap (begins Number) (at n below) ∙ number_marked (value_at us n)) a.numbers first.1))
      (all_same (type_met vs Symbol) (λ n. is_symbol (value_at us n)) (λ v. nat_lt v k) (λ n below. ap (begins Symbol) (at n below) ∙ symbol_marked (value_at us n)) a.symbols third.1))
      (all_same (type_met vs Text) (λ n. is_string (value_at us n)) (λ v. nat_lt v k) (λ n below. ap (begins Text) (at n below) ∙ string_marked (value_at us n)) a.strings next.1))
      (all_same (absence_met vs) (model.absence_met us) (λ kept. names_below k kept.names) absence_marked a.absences last.1)

  pub term_known : (t : Tm) → all_below k t ≡ true → term_marks vs (spelling t) ≡ grounds.spelling (value us t)
  term_known t h = term_marked t h

-- the marks of a term under a valuation
under_marked : (us : List Gd) (t : Tm) → term_under us (spelling t) ≡ grounds.spelling (value us t)
under_marked us (Tree.leaf v) = single (grounds.spelling (value_at us v))
  where
    single : (xs : List Mark) → xs ++ [] ≡ xs
    single [] = refl
    single (x ∷ xs) = ap (λ l. x ∷ l) (single xs)
under_marked us (Tree.sym s) = refl
under_marked us (Tree.str s) = refl
under_marked us (Tree.num n) = refl
under_marked us (Tree.truth b) = refl
under_marked us Tree.nil = refl
under_marked us (Tree.pair a b) = ap (λ l. marks.Pair ∷ l) (flat_map-append (node_under us) (spelling a) (spelling b) ∙ ap₂ (λ l m. l ++ m) (under_marked us a) (under_marked us b))

pub over_rises : (a : Answer) → is_over_names a ≡ true → rises 0 (spelling a.term) ≡ true
over_rises a h = sym (term_rises a.term) ∙ (and_parts (counts_up 0 (named_variables a.term)) (constraints_below (name_count a) a) h).0

pub covers_exactly : (a : Answer) (u : Gd) (vs : List (List Mark)) (b : Bool) → is_over_names a ≡ true → Finds (spelling a.term) (grounds.spelling u) vs → b ≡ covers vs a (grounds.spelling u) → IsTrue b ↔ model.Covers a u
covers_exactly a u vs b over f is = (there, back)
  where
    parts : (counts_up 0 (named_variables a.term) ≡ true) × (constraints_below (name_count a) a ≡ true)
    parts = and_parts (counts_up 0 (named_variables a.term)) (constraints_below (name_count a) a) over

    many : length f.grounds ≡ name_count a
    many = f.total ∙ term_reach a.term (over_rises a over)

    own : all_below (name_count a) a.term ≡ true
    own = own_below a.term parts.0

    at : (us : List Gd) → Agrees us f.grounds → (n : ℕ) → nat_lt n (name_count a) ≡ true → marks_at vs n ≡ grounds.spelling (value_at us n)
    at us agrees n h =
        let below : n < length f.grounds = lower n (name_count a) (length f.grounds) h many in
        ap (λ l. marks_at l n) f.whole ∙ marks_mapped f.grounds n below ∙ ap grounds.spelling (sym (agrees n below))

    there : IsTrue b → model.Covers a u
    there h =
        let holds = and_parts (marks_eq (term_marks vs (spelling a.term)) (grounds.spelling u)) (all_met vs a) (sym is ∙ h) in
        let same : (n : ℕ) → nat_lt n (name_count a) ≡ true → marks_at vs n ≡ grounds.spelling (value_at f.grounds n) = at f.grounds (λ n below. refl) in (
          f.grounds,
          spelling-same (value f.grounds a.term) u (sym (term_known vs f.grounds (name_count a) same a.term own) ∙ marks_eq-true (term_marks vs (spelling a.term)) (grounds.spelling u) holds.0),
          sym (all_marked vs f.grounds (name_count a) same a parts.1) ∙ holds.1,
        )

    back : model.Covers a u → IsTrue b
    back cover =
        let us : List Gd = cover.0 in
        let fits : term_under us (spelling a.term) ≡ grounds.spelling u = under_marked us a.term ∙ ap grounds.spelling cover.1 in
        let same : (n : ℕ) → nat_lt n (name_count a) ≡ true → marks_at vs n ≡ grounds.spelling (value_at us n) = at us (f.agrees us fits) in
        is ∙ ap₂ (λ x y. x && y)
        (ap (λ l. marks_eq l (grounds.spelling u)) (term_known vs us (name_count a) same a.term own ∙ ap grounds.spelling cover.1) ∙ marks_eq-same (grounds.spelling u))
        (all_marked vs us (name_count a) same a parts.1 ∙ cover.2)

pub covered_none : (a : Answer) (u : Gd) → Found (spelling a.term) (grounds.spelling u) None → IsTrue false ↔ model.Covers a u
covered_none a u never = ((λ h. absurd (both_ways false refl h)), (λ cover. absurd (never cover.0 (under_marked cover.0 a.term ∙ ap grounds.spelling cover.1))))

-- what was found, by what the parts of a call say
pub found_as : (xs ys : List Shape) (ms ns : List Mark) (one other : Option (List (List Mark))) → xs ≡ ys → ms ≡ ns → one ≡ other → Found xs ms one → Found ys ns other
found_as xs ys ms ns one other e f g found = subst (λ l. Found l ns other) e (subst (λ l. Found xs l other) f (subst (Found xs ms) g found))

pub covered_as : {E : Type 0} (a : Answer) (u : Gd) (values : List (List Mark)) (r : Result Bool E) (vs : List (List Mark)) (ms : List Mark) → is_over_names a ≡ true → Finds (spelling a.term) (grounds.spelling u) values →
    vs ≡ values → ms ≡ grounds.spelling u → IfOk r (λ b. b ≡ covers vs a ms) → IfOk r (λ b. IsTrue b ↔ model.Covers a u)
covered_as a u values (Ok b) vs ms over f e g is = covers_exactly a u values b over f (is ∙ ap₂ (λ l m. covers l a m) e g)
covered_as a u values (Err x) vs ms over f e g is = tt
