-- Shapes and the terms that they spell, and their text.
use Rattle.std.proofs.Common.{◌≡◌, ℕ, suc, ◌+◌, true, List, [], ◌∷◌, ◌++◌, length, refl, sym, ◌∙◌, ap, append_assoc, append-nil, arith, true≢false, ◌<◌, get_or, drop, drop-cons, zero}
use Rattle.std.specs.Prelude.{codes}
use Rattle.std.specs.List.{flat_map}
use Rattle.kan_terms.specs.Tree.{Tree, Tm, join_two, first_tree}
use Rattle.kan_terms.specs.Table.{Table}
use Rattle.kan_model.specs.Answers.Text.{name_text, symbol_text, string_text, truth_text, print, print_rest, term_text}
use Rattle.kan_model.specs.Answers.Decimals.{number_text}
use Rattle.kan_model.specs.Answers.AnswerText.{pair_text}
use Rattle.reify.specs.Shapes.{spelling, trees, tree_of, spells}
use Rattle.reify.specs.Printing.{shapes_text}
use Rattle.reify.specs.declared.shaping.Shape.{Shape}
use Rattle.reify.specs.declared.shaping.Shape.TheVariants.{Pair, Name, Sym, Str, Num, Truth, Nil}
use Rattle.reify.specs.declared.printing.Place.{Place}
use Rattle.reify.specs.declared.printing.Place.TheVariants.{Element, Rest}

-- what is read from a term's shapes and others after them
pub trees-spelling : (t : Tm) (more : List Shape) → trees (spelling t ++ more) ≡ t ∷ trees more
trees-spelling (Tree.leaf v) more = refl
trees-spelling (Tree.sym s) more = refl
trees-spelling (Tree.str s) more = refl
trees-spelling (Tree.num n) more = refl
trees-spelling (Tree.truth b) more = refl
trees-spelling Tree.nil more = refl
trees-spelling (Tree.pair a b) more =
    ap (λ l. join_two (trees l)) (append_assoc (spelling a) (spelling b) more)
    ∙ ap join_two (trees-spelling a (spelling b ++ more) ∙ ap (λ l. a ∷ l) (trees-spelling b more))

-- a term is read back from its shapes
pub tree_of-spelling : (t : Tm) → tree_of (spelling t) ≡ t
tree_of-spelling t = ap tree_of (sym (append-nil (spelling t))) ∙ ap first_tree (trees-spelling t [])

-- a term's shapes are one whole term
spells-spelling : (t : Tm) (n : ℕ) (more : List Shape) → spells (suc n) (spelling t ++ more) ≡ spells n more
spells-spelling (Tree.leaf v) n more = refl
spells-spelling (Tree.sym s) n more = refl
spells-spelling (Tree.str s) n more = refl
spells-spelling (Tree.num m) n more = refl
spells-spelling (Tree.truth b) n more = refl
spells-spelling Tree.nil n more = refl
spells-spelling (Tree.pair a b) n more =
    ap (spells (suc (suc n))) (append_assoc (spelling a) (spelling b) more) ∙ spells-spelling a (suc n) (spelling b ++ more) ∙ spells-spelling b n more

pub one_spelled : (t : Tm) → spells 1 (spelling t) ≡ true
one_spelled t = ap (spells 1) (sym (append-nil (spelling t))) ∙ spells-spelling t 0 []

-- shapes of whole terms are the shapes of the terms that are read from them
joined : (xs : List Shape) (ts : List Tm) (n : ℕ) → xs ≡ flat_map spelling ts → length ts ≡ suc (suc n) →
    (Pair ∷ xs ≡ flat_map spelling (join_two ts)) × (length (join_two ts) ≡ suc n)
joined xs [] n e l = absurd (let none : ⊥ = omega (arith, l) in none)
joined xs (a ∷ []) n e l = absurd (let none : ⊥ = omega (arith, l) in none)
joined xs (a ∷ b ∷ more) n e l =
    (ap (λ ys. Pair ∷ ys) (e ∙ sym (append_assoc (spelling a) (spelling b) (flat_map spelling more))), (let r : suc (length more) ≡ suc n = omega (arith, l) in r))

spelled : (n : ℕ) (xs : List Shape) → spells n xs ≡ true → (xs ≡ flat_map spelling (trees xs)) × (length (trees xs) ≡ n)
spelled zero [] e = (refl, refl)
spelled zero (x ∷ xs) e = absurd (true≢false (sym e))
spelled (suc n) [] e = absurd (true≢false (sym e))
spelled (suc n) (Pair ∷ xs) e = let ih = spelled (suc (suc n)) xs e in joined xs (trees xs) n ih.0 ih.1
spelled (suc n) (Name m ∷ xs) e = let ih = spelled n xs e in (ap (λ ys. Name m ∷ ys) ih.0, ap suc ih.1)
spelled (suc n) (Sym s ∷ xs) e = let ih = spelled n xs e in (ap (λ ys. Sym s ∷ ys) ih.0, ap suc ih.1)
spelled (suc n) (Str s ∷ xs) e = let ih = spelled n xs e in (ap (λ ys. Str s ∷ ys) ih.0, ap suc ih.1)
spelled (suc n) (Num m ∷ xs) e = let ih = spelled n xs e in (ap (λ ys. Num m ∷ ys) ih.0, ap suc ih.1)
spelled (suc n) (Truth b ∷ xs) e = let ih = spelled n xs e in (ap (λ ys. Truth b ∷ ys) ih.0, ap suc ih.1)
spelled (suc n) (Nil ∷ xs) e = let ih = spelled n xs e in (ap (λ ys. Nil ∷ ys) ih.0, ap suc ih.1)

only_spelled : (xs : List Shape) (ts : List Tm) → xs ≡ flat_map spelling ts → length ts ≡ 1 → spelling (first_tree ts) ≡ xs
only_spelled xs [] e l = absurd (let none : ⊥ = omega (arith, l) in none)
only_spelled xs (t ∷ []) e l = sym (e ∙ append-nil (spelling t))
only_spelled xs (t ∷ u ∷ ts) e l = absurd (let none : ⊥ = omega (arith, l) in none)

pub spelled_whole : (xs : List Shape) → spells 1 xs ≡ true → spelling (tree_of xs) ≡ xs
spelled_whole xs e = let s = spelled 1 xs e in only_spelled xs (trees xs) s.0 s.1

-- the text of a term's shapes is the term's, as an element and behind one
dotted : (d x rest : List ℕ) → (d ++ x ++ 41 ∷ []) ++ rest ≡ (d ++ x) ++ 41 ∷ rest
dotted d x rest = append_assoc (d ++ x) (41 ∷ []) rest

in_list : (a b rest : List ℕ) → 40 ∷ (a ++ (b ++ 41 ∷ rest)) ≡ (40 ∷ a ++ b ++ 41 ∷ []) ++ rest
in_list a b rest = ap (λ l. 40 ∷ l) (sym (append_assoc (a ++ b) (41 ∷ []) rest ∙ append_assoc a b (41 ∷ rest)))

mutual
  pub element_printed : (table : Table) (ps : List Place) (t : Tm) (more : List Shape) →
      shapes_text table (Element ∷ ps) (spelling t ++ more) ≡ print name_text table t ++ shapes_text table ps more
  element_printed table ps (Tree.leaf v) more = refl
  element_printed table ps (Tree.sym s) more = refl
  element_printed table ps (Tree.str s) more = refl
  element_printed table ps (Tree.num n) more = refl
  element_printed table ps (Tree.truth b) more = refl
  element_printed table ps Tree.nil more = refl
  element_printed table ps (Tree.pair a b) more =
      ap (λ l. 40 ∷ shapes_text table (Element ∷ Rest ∷ ps) l) (append_assoc (spelling a) (spelling b) more)
      ∙ ap (λ l. 40 ∷ l) (element_printed table (Rest ∷ ps) a (spelling b ++ more) ∙ ap (λ l. print name_text table a ++ l) (rest_printed table ps b more))
      ∙ in_list (print name_text table a) (print_rest name_text table b) (shapes_text table ps more)

  pub rest_printed : (table : Table) (ps : List Place) (t : Tm) (more : List Shape) →
      shapes_text table (Rest ∷ ps) (spelling t ++ more) ≡ print_rest name_text table t ++ 41 ∷ shapes_text table ps more
  rest_printed table ps (Tree.leaf v) more = dotted (codes " . ") (name_text v) (shapes_text table ps more)
  rest_printed table ps (Tree.sym s) more = dotted (codes " . ") (symbol_text table s) (shapes_text table ps more)
  rest_printed table ps (Tree.str s) more = dotted (codes " . ") (string_text table s) (shapes_text table ps more)
  rest_printed table ps (Tree.num n) more = dotted (codes " . ") (number_text n) (shapes_text table ps more)
  rest_printed table ps (Tree.truth b) more = dotted (codes " . ") (truth_text b) (shapes_text table ps more)
  rest_printed table ps Tree.nil more = refl
  rest_printed table ps (Tree.pair a b) more =
      ap (λ l. 32 ∷ shapes_text table (Element ∷ Rest ∷ ps) l) (append_assoc (spelling a) (spelling b) more)
      ∙ ap (λ l. 32 ∷ l) (element_printed table (Rest ∷ ps) a (spelling b ++ more) ∙ ap (λ l. print name_text table a ++ l) (rest_printed table ps b more))
      ∙ ap (λ l. 32 ∷ l) (sym (append_assoc (print name_text table a) (print_rest name_text table b) (41 ∷ shapes_text table ps more)))

-- the text of shapes that spell one term
pub whole_printed : (table : Table) (xs : List Shape) → spells 1 xs ≡ true → shapes_text table (Element ∷ []) xs ≡ term_text table (tree_of xs)
whole_printed table xs e =
    ap (shapes_text table (Element ∷ [])) (sym (spelled_whole xs e) ∙ sym (append-nil (spelling (tree_of xs))))
    ∙ element_printed table [] (tree_of xs) [] ∙ append-nil (term_text table (tree_of xs))

-- the next shape printed
pub next_printed : (table : Table) (text longer : List ℕ) (old new : List Place) (xs : List Shape) (i : ℕ) (d : Shape) (whole : List ℕ) → i < length xs →
    ((more : List Shape) → longer ++ shapes_text table new more ≡ text ++ shapes_text table old (get_or xs i d ∷ more)) →
    text ++ shapes_text table old (drop i xs) ≡ whole → longer ++ shapes_text table new (drop (i + 1) xs) ≡ whole
next_printed table text longer old new xs i d whole below printed kept =
    let next : drop i xs ≡ get_or xs i d ∷ drop (i + 1) xs = drop-cons xs i d below ∙ ap (λ n. get_or xs i d ∷ drop n xs) (let more : suc i ≡ i + 1 = omega arith in more) in
    printed (drop (i + 1) xs) ∙ ap (λ l. text ++ shapes_text table old l) (sym next) ∙ kept

-- a pair of a disequality, piece by piece
five_pieces : (t a b c d e : List ℕ) → t ++ a ++ b ++ c ++ d ++ e ≡ t ++ (a ++ b ++ c ++ d ++ e)
five_pieces t a b c d e = simp append_assoc

pub pair_printed : (table : Table) (name : ℕ) (xs : List Shape) (text one two three four five : List ℕ) → spells 1 xs ≡ true →
    one ≡ text ++ 40 ∷ [] → two ≡ one ++ name_text name → three ≡ two ++ 32 ∷ [] → four ≡ three ++ shapes_text table (Element ∷ []) xs → five ≡ four ++ 41 ∷ [] →
    five ≡ text ++ pair_text table (record { name = name; by = tree_of xs })
pair_printed table name xs text one two three four five whole first second third fourth fifth =
    fifth ∙ ap (λ l. l ++ 41 ∷ []) (fourth ∙ ap (λ l. l ++ shapes_text table (Element ∷ []) xs) (third ∙ ap (λ l. l ++ 32 ∷ []) (second ∙ ap (λ l. l ++ name_text name) first))
    ∙ ap (λ l. text ++ 40 ∷ [] ++ name_text name ++ 32 ∷ [] ++ l) (whole_printed table xs whole))
    ∙ five_pieces text (40 ∷ []) (name_text name) (32 ∷ []) (term_text table (tree_of xs)) (41 ∷ [])

-- the text of an answer in two pieces
pub answer_printed : (table : Table) (xs : List Shape) (rest one two : List ℕ) → spells 1 xs ≡ true → one ≡ shapes_text table (Element ∷ []) xs → two ≡ one ++ rest → two ≡ term_text table (tree_of xs) ++ rest
answer_printed table xs rest one two whole first second = second ∙ ap (λ l. l ++ rest) (first ∙ whole_printed table xs whole)
