-- The names and numbers of an answer whose text is a line are ones that the code holds.
use Rattle.std.proofs.Common.{◌≡◌, ℕ, suc, ◌+◌, ◌≤◌, ◌^◌, Bool, true, false, cond, List, [], ◌∷◌, ◌++◌, length, map, refl, sym, ap, ap₂, ◌∙◌, arith}
use Rattle.std.specs.Prelude.{◌&&◌, nat_lt, eqb, pos, negsuc}
use Rattle.std.specs.List.{list_all}
use Rattle.std.proofs.lemmas.Bool.{and_parts}
use Rattle.std.proofs.lemmas.Bool.Decides.{nat_tests}
use Rattle.std.proofs.lemmas.List.{length-append}
use Rattle.std.proofs.lemmas.List.Folds.{list_all-append}
use Rattle.kan_terms.specs.Table.{Table}
use Rattle.kan_terms.specs.Tree.{Tree, Tm, leaves}
use Rattle.kan_model.specs.Programs.Scope.{all_below}
use Rattle.kan_model.specs.Answers.Answer as model
use Rattle.kan_model.specs.Answers.Answer.{named_variables}
use Rattle.kan_model.specs.Answers.AnswerText.{answer_text, constraint_texts, where_text}
use Rattle.kan_model.specs.Answers.InForm.{counts_up, in_form, is_readable, name_count, numbers_fit}
use Rattle.kan_model.specs.Answers.Text.{name_text, print, print_rest, term_text}
use Rattle.reify.specs.OverNames.{constraints_below, names_below, pair_below}
use Rattle.reify.specs.Shapes.{spelling}
use Rattle.reify.proofs.AnswerLaws.{form_over}
use Rattle.reify.proofs.ShapeLaws.{one_spelled}
use Rattle.answer_reading.specs.Finding.{names_reach, rises}
use Rattle.term_reading.specs.Words.{is_fine}
use Rattle.answer_reading.specs.Listing.{is_fine_absence, is_fine_answer, is_fine_pair, is_short, shaped_pair}
use Rattle.answer_reading.specs.Answering.{is_over, is_term_over}
use Rattle.answer_reading.proofs.OrderLaws.{names_spelled, own_below, reach_names, term_reach, term_rises}
use Rattle.term_reading.proofs.KnownTerms.{all_further}

-- there are no more names than leaves, and no more leaves than bytes
few_names : (k : ℕ) (ns : List ℕ) → names_reach k ns ≤ k + length ns
few_names k [] = omega arith
few_names k (n ∷ ns) = by (λ m. few_names m ns) (eqb n k)
  where
    by : ((m : ℕ) → names_reach m ns ≤ m + length ns) → (b : Bool) → names_reach (cond b (suc k) k) ns ≤ k + suc (length ns)
    by ih true = let most : names_reach (suc k) ns ≤ suc k + length ns = ih (suc k) in omega (arith, most)
    by ih false = let most : names_reach k ns ≤ k + length ns = ih k in omega (arith, most)

mutual
  few_leaves : (table : Table) (t : Tm) → length (leaves t) ≤ length (print name_text table t)
  few_leaves table (Tree.leaf v) = omega arith
  few_leaves table (Tree.sym s) = omega arith
  few_leaves table (Tree.str s) = omega arith
  few_leaves table (Tree.num n) = omega arith
  few_leaves table (Tree.truth b) = omega arith
  few_leaves table Tree.nil = omega arith
  few_leaves table (Tree.pair a b) =
      omega (
        arith,
        few_leaves table a,
        few_rest table b,
        length-append (leaves a) (leaves b),
        length-append (print name_text table a ++ print_rest name_text table b) (41 ∷ []),
        length-append (print name_text table a) (print_rest name_text table b),
      )

  few_rest : (table : Table) (t : Tm) → length (leaves t) ≤ length (print_rest name_text table t)
  few_rest table (Tree.leaf v) = omega arith
  few_rest table (Tree.sym s) = omega arith
  few_rest table (Tree.str s) = omega arith
  few_rest table (Tree.num n) = omega arith
  few_rest table (Tree.truth b) = omega arith
  few_rest table Tree.nil = omega arith
  few_rest table (Tree.pair a b) =
      omega (arith, few_leaves table a, few_rest table b, length-append (leaves a) (leaves b), length-append (print name_text table a) (print_rest name_text table b))

few_counted : (table : Table) (a : model.Answer) (line : List ℕ) → counts_up 0 (named_variables a.term) ≡ true → answer_text table a ≡ line → name_count a ≤ length line
few_counted table a line counts is =
    let rise : rises 0 (spelling a.term) ≡ true = sym (term_rises a.term) ∙ counts in
    let far : name_count a ≡ names_reach 0 (leaves a.term) = sym (term_reach a.term rise) ∙ reach_names 0 (spelling a.term) ∙ ap (names_reach 0) (names_spelled a.term) in
    let most : names_reach 0 (leaves a.term) ≤ 0 + length (leaves a.term) = few_names 0 (leaves a.term) in
    omega (arith, far, most, few_leaves table a.term, sym (ap length is), length-append (term_text table a.term) (where_text (constraint_texts table a)))

-- terms
short_below : (n v : ℕ) → n ≤ 2 ^ 31 → nat_lt v n ≡ true → is_short v ≡ true
short_below n v few low = grind (arith, nat_tests)

term_fine : (table : Table) (n : ℕ) (t : Tm) → n ≤ 2 ^ 31 → all_below n t ≡ true → is_term_over table t ≡ true → numbers_fit t ≡ true → list_all (is_fine table) (spelling t) ≡ true
term_fine table n (Tree.leaf v) few low over fit = ap (λ b. b && true) (short_below n v few low)
term_fine table n (Tree.sym s) few low over fit = ap (λ b. b && true) over
term_fine table n (Tree.str s) few low over fit = ap (λ b. b && true) over
term_fine table n (Tree.num (pos z)) few low over fit = ap (λ b. b && true) fit
term_fine table n (Tree.num (negsuc z)) few low over fit = ap (λ b. b && true) fit
term_fine table n (Tree.truth b) few low over fit = refl
term_fine table n Tree.nil few low over fit = refl
term_fine table n (Tree.pair a b) few low over fit =
    let l = and_parts (all_below n a) (all_below n b) low in
    let o = and_parts (is_term_over table a) (is_term_over table b) over in
    let f = and_parts (numbers_fit a) (numbers_fit b) fit in
    list_all-append (is_fine table) (spelling a) (spelling b) ∙ ap₂ (λ x y. x && y) (term_fine table n a few l.0 o.0 f.0) (term_fine table n b few l.1 o.1 f.1)

-- pairs
pairs_fine : (table : Table) (n : ℕ) (ps : List model.NamedPair) → n ≤ 2 ^ 31 → list_all (pair_below n) ps ≡ true → list_all (λ p. is_term_over table p.by) ps ≡ true → list_all (λ p. numbers_fit p.by) ps ≡ true →
    list_all (is_fine_pair table) (map shaped_pair ps) ≡ true
pairs_fine table n [] few low over fit = refl
pairs_fine table n (p ∷ ps) few low over fit =
    let l = and_parts (pair_below n p) (list_all (pair_below n) ps) low in
    let b = and_parts (nat_lt p.name n) (all_below n p.by) l.0 in
    let o = and_parts (is_term_over table p.by) (list_all (λ r. is_term_over table r.by) ps) over in
    let f = and_parts (numbers_fit p.by) (list_all (λ r. numbers_fit r.by) ps) fit in
    ap₂ (λ x y. x && y) (ap₂ (λ x y. x && y) (ap₂ (λ x y. x && y) (short_below n p.name few b.0) (one_spelled p.by)) (term_fine table n p.by few b.1 o.0 f.0)) (pairs_fine table n ps few l.1 o.1 f.1)

differences_fine : (table : Table) (n : ℕ) (ds : List (List model.NamedPair)) → n ≤ 2 ^ 31 → list_all (list_all (pair_below n)) ds ≡ true → list_all (list_all (λ p. is_term_over table p.by)) ds ≡ true →
    list_all (list_all (λ p. numbers_fit p.by)) ds ≡ true → list_all (list_all (is_fine_pair table)) (map (map shaped_pair) ds) ≡ true
differences_fine table n [] few low over fit = refl
differences_fine table n (d ∷ ds) few low over fit =
    let l = and_parts (list_all (pair_below n) d) (list_all (list_all (pair_below n)) ds) low in
    let o = and_parts (list_all (λ p. is_term_over table p.by) d) (list_all (list_all (λ p. is_term_over table p.by)) ds) over in
    let f = and_parts (list_all (λ p. numbers_fit p.by) d) (list_all (list_all (λ p. numbers_fit p.by)) ds) fit in
    ap₂ (λ x y. x && y) (pairs_fine table n d few l.0 o.0 f.0) (differences_fine table n ds few l.1 o.1 f.1)

names_fine : (n : ℕ) (ns : List ℕ) → n ≤ 2 ^ 31 → names_below n ns ≡ true → list_all is_short ns ≡ true
names_fine n ns few low = all_further (λ v. nat_lt v n) is_short (λ v. short_below n v few) ns low

absences_fine : (table : Table) (n : ℕ) (as_ : List model.Absence) → n ≤ 2 ^ 31 → list_all (λ kept. names_below n kept.names) as_ ≡ true → list_all (λ kept. nat_lt kept.tag (length table.symbols)) as_ ≡ true →
    list_all (is_fine_absence table) as_ ≡ true
absences_fine table n [] few low over = refl
absences_fine table n (a ∷ as_) few low over =
    let l = and_parts (names_below n a.names) (list_all (λ kept. names_below n kept.names) as_) low in
    let o = and_parts (nat_lt a.tag (length table.symbols)) (list_all (λ kept. nat_lt kept.tag (length table.symbols)) as_) over in
    ap₂ (λ x y. x && y) (ap₂ (λ x y. x && y) o.0 (names_fine n a.names few l.0)) (absences_fine table n as_ few l.1 o.1)

pub answer_fine : (table : Table) (line : List ℕ) (a : model.Answer) → length line ≤ 2 ^ 31 → is_over table a ≡ true → is_readable table a ≡ true → answer_text table a ≡ line → is_fine_answer table a ≡ true
answer_fine table line a short over readable is =
    let r1 = and_parts (in_form table a && numbers_fit a.term) (list_all (list_all (λ p. numbers_fit p.by)) a.disequalities) readable in
    let r2 = and_parts (in_form table a) (numbers_fit a.term) r1.0 in
    let n : ℕ = name_count a in
    let names = and_parts (counts_up 0 (named_variables a.term)) (constraints_below n a) (form_over table a r2.0) in
    let few : n ≤ 2 ^ 31 = omega (arith, few_counted table a line names.0 is, short) in
    let d : Bool = list_all (list_all (pair_below n)) a.disequalities in
    let c1 = and_parts (d && names_below n a.numbers && names_below n a.symbols && names_below n a.strings) (list_all (λ kept. names_below n kept.names) a.absences) names.1 in
    let c2 = and_parts (d && names_below n a.numbers && names_below n a.symbols) (names_below n a.strings) c1.0 in
    let c3 = and_parts (d && names_below n a.numbers) (names_below n a.symbols) c2.0 in
    let c4 = and_parts d (names_below n a.numbers) c3.0 in
    let o1 = and_parts (is_term_over table a.term && list_all (list_all (λ p. is_term_over table p.by)) a.disequalities) (list_all (λ kept. nat_lt kept.tag (length table.symbols)) a.absences) over in
    let o2 = and_parts (is_term_over table a.term) (list_all (list_all (λ p. is_term_over table p.by)) a.disequalities) o1.0 in
    ap₂ (λ x y. x && y) (term_fine table n a.term few (own_below a.term names.0) o2.0 r2.1)
    (ap₂ (λ x y. x && y) (ap₂ (λ x y. x && y) (ap₂ (λ x y. x && y) (ap₂ (λ x y. x && y)
    (differences_fine table n a.disequalities few c4.0 o2.1 r1.1) (names_fine n a.numbers few c4.1)) (names_fine n a.symbols few c3.1)) (names_fine n a.strings few c2.1)) (absences_fine table n a.absences few c1.1 o1.1))
