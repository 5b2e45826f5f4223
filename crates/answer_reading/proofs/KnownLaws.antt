-- Texts over a table that goes on from another one.
use Rattle.std.proofs.Common.{◌≡◌, ℕ, zero, suc, Bool, true, false, List, [], ◌∷◌, ◌++◌, length, map, refl, sym, ap, ap₂, ◌∙◌, arith, true≢false}
use Rattle.std.specs.Prelude.{◌&&◌, not, nat_lt, codes, unwrap_or, slice_get, pos, negsuc, ◌^◌}
use Rattle.std.specs.List.{list_all}
use Rattle.std.proofs.lemmas.Bool.{and_parts}
use Rattle.std.proofs.lemmas.Bool.Decides.{nat_tests}
use Rattle.std.proofs.lemmas.List.Folds.{list_all-append}
use Rattle.kan_terms.specs.Table.{Table}
use Rattle.kan_terms.specs.Tree.{Tree, Tm}
use Rattle.kan_model.specs.Answers.Answer as model
use Rattle.kan_model.specs.Answers.AnswerText.{absence_text, answer_text, difference_le, difference_text, names_texts, pair_text, where_text}
use Rattle.kan_model.specs.Answers.InForm.{ascends, in_form, is_readable, numbers_fit, tag_before, counts_up, difference_in_form, name_count, all_different, names_in_form, apart, absence_in_form}
use Rattle.kan_model.specs.Answers.Order.{bytes_le}
use Rattle.kan_model.specs.Answers.Text.{name_text, print, print_rest, string_text, symbol_text, with_spaces, in_quotes}
use Rattle.kan_grammar.specs.Texts.TextNames.{GoesOn}
use Rattle.reify.specs.declared.answers.Absence.{Absence}
use Rattle.reify.specs.declared.shaping.NamePair.{NamePair}
use Rattle.reify.specs.declared.shaping.Shape.{Shape}
use Rattle.reify.specs.declared.shaping.Shape.TheVariants.{Sym}
use Rattle.reify.specs.OverNames.{absence}
use Rattle.reify.specs.Shapes.{all_whole, named_pair, spelling, spells, tree_of}
use Rattle.reify.proofs.ShapeLaws.{spelled_whole}
use Rattle.term_reading.proofs.KnownTerms.{all_further, known_further}
use Rattle.answer_reading.specs.declared.constraints.Parts.{Parts}
use Rattle.term_reading.specs.Words.{is_known}
use Rattle.answer_reading.specs.Listing.{are_constraints_known, are_parts_known, is_absence_known, is_pair_known, meaning}
use Rattle.answer_reading.specs.Forming.{are_whole}
use Rattle.answer_reading.specs.Answering.{is_over, is_term_over}

pub pair_further : (old new : Table) → GoesOn old new → (p : NamePair) → is_pair_known old p ≡ true → is_pair_known new p ≡ true
pair_further old new goes p h = all_further (is_known old) (is_known new) (known_further old new goes) p.term h

pub pairs_further : (old new : Table) → GoesOn old new → (ps : List NamePair) → list_all (is_pair_known old) ps ≡ true → list_all (is_pair_known new) ps ≡ true
pairs_further old new goes ps h = all_further (is_pair_known old) (is_pair_known new) (pair_further old new goes) ps h

pub differences_further : (old new : Table) → GoesOn old new → (ds : List (List NamePair)) → list_all (list_all (is_pair_known old)) ds ≡ true → list_all (list_all (is_pair_known new)) ds ≡ true
differences_further old new goes ds h = all_further (list_all (is_pair_known old)) (list_all (is_pair_known new)) (pairs_further old new goes) ds h

pub absences_further : (old new : Table) → GoesOn old new → (as_ : List Absence) → list_all (is_absence_known old) as_ ≡ true → list_all (is_absence_known new) as_ ≡ true
absences_further old new goes as_ h = all_further (is_absence_known old) (is_absence_known new) (λ a. known_further old new goes (Sym a.tag)) as_ h

-- the terms of parts are over a table
term_over : (table : Table) (t : Tm) → list_all (is_known table) (spelling t) ≡ true → is_term_over table t ≡ true
term_over table (Tree.leaf v) h = refl
term_over table (Tree.sym s) h = (and_parts (nat_lt s (length table.symbols)) true h).0
term_over table (Tree.str s) h = (and_parts (nat_lt s (length table.strings)) true h).0
term_over table (Tree.num n) h = refl
term_over table (Tree.truth b) h = refl
term_over table Tree.nil h = refl
term_over table (Tree.pair a b) h =
    let parts = and_parts (list_all (is_known table) (spelling a)) (list_all (is_known table) (spelling b)) (sym (list_all-append (is_known table) (spelling a) (spelling b)) ∙ h) in
    ap₂ (λ x y. x && y) (term_over table a parts.0) (term_over table b parts.1)

shapes_over : (table : Table) (xs : List Shape) → spells 1 xs ≡ true → list_all (is_known table) xs ≡ true → is_term_over table (tree_of xs) ≡ true
shapes_over table xs whole h = term_over table (tree_of xs) (ap (list_all (is_known table)) (spelled_whole xs whole) ∙ h)

pairs_over : (table : Table) (ps : List NamePair) → all_whole ps ≡ true → list_all (is_pair_known table) ps ≡ true → list_all (λ p. is_term_over table p.by) (map named_pair ps) ≡ true
pairs_over table [] whole h = refl
pairs_over table (p ∷ ps) whole h =
    let w = and_parts (spells 1 p.term) (all_whole ps) whole in
    let k = and_parts (is_pair_known table p) (list_all (is_pair_known table) ps) h in
    ap₂ (λ x y. x && y) (shapes_over table p.term w.0 k.0) (pairs_over table ps w.1 k.1)

differences_over : (table : Table) (ds : List (List NamePair)) → list_all all_whole ds ≡ true → list_all (list_all (is_pair_known table)) ds ≡ true → list_all (list_all (λ p. is_term_over table p.by)) (map (map named_pair) ds) ≡ true
differences_over table [] whole h = refl
differences_over table (d ∷ ds) whole h =
    let w = and_parts (all_whole d) (list_all all_whole ds) whole in
    let k = and_parts (list_all (is_pair_known table) d) (list_all (list_all (is_pair_known table)) ds) h in
    ap₂ (λ x y. x && y) (pairs_over table d w.0 k.0) (differences_over table ds w.1 k.1)

absences_over : (table : Table) (as_ : List Absence) → list_all (is_absence_known table) as_ ≡ true → list_all (λ kept. nat_lt kept.tag (length table.symbols)) (map absence as_) ≡ true
absences_over table [] h = refl
absences_over table (a ∷ as_) h =
    let k = and_parts (is_absence_known table a) (list_all (is_absence_known table) as_) h in ap₂ (λ x y. x && y) k.0 (absences_over table as_ k.1)

pub parts_over : (table : Table) (parts : Parts) → are_whole parts.term parts.disequalities.items ≡ true → are_parts_known table parts ≡ true → is_over table (meaning parts) ≡ true
parts_over table parts whole known =
    let w = and_parts (spells 1 parts.term) (list_all all_whole parts.disequalities.items) whole in
    let k = and_parts (list_all (is_known table) parts.term) (are_constraints_known table parts) known in
    let c = and_parts (list_all (list_all (is_pair_known table)) parts.disequalities.items) (list_all (is_absence_known table) parts.absences.items) k.1 in
    ap₂ (λ x y. x && y) (ap₂ (λ x y. x && y) (shapes_over table parts.term w.0 k.0) (differences_over table parts.disequalities.items w.1 c.0)) (absences_over table parts.absences.items c.1)

-- and their numbers fit
term_fits : (table : Table) (t : Tm) → list_all (is_known table) (spelling t) ≡ true → numbers_fit t ≡ true
term_fits table (Tree.leaf v) h = refl
term_fits table (Tree.sym s) h = refl
term_fits table (Tree.str s) h = refl
term_fits table (Tree.num (pos n)) h = (and_parts (nat_lt n (2 ^ 127)) true h).0
term_fits table (Tree.num (negsuc n)) h = (and_parts (nat_lt n (2 ^ 127)) true h).0
term_fits table (Tree.truth b) h = refl
term_fits table Tree.nil h = refl
term_fits table (Tree.pair a b) h =
    let parts = and_parts (list_all (is_known table) (spelling a)) (list_all (is_known table) (spelling b)) (sym (list_all-append (is_known table) (spelling a) (spelling b)) ∙ h) in
    ap₂ (λ x y. x && y) (term_fits table a parts.0) (term_fits table b parts.1)

shapes_fit : (table : Table) (xs : List Shape) → spells 1 xs ≡ true → list_all (is_known table) xs ≡ true → numbers_fit (tree_of xs) ≡ true
shapes_fit table xs whole h = term_fits table (tree_of xs) (ap (list_all (is_known table)) (spelled_whole xs whole) ∙ h)

pairs_fit : (table : Table) (ps : List NamePair) → all_whole ps ≡ true → list_all (is_pair_known table) ps ≡ true → list_all (λ p. numbers_fit p.by) (map named_pair ps) ≡ true
pairs_fit table [] whole h = refl
pairs_fit table (p ∷ ps) whole h =
    let w = and_parts (spells 1 p.term) (all_whole ps) whole in
    let k = and_parts (is_pair_known table p) (list_all (is_pair_known table) ps) h in
    ap₂ (λ x y. x && y) (shapes_fit table p.term w.0 k.0) (pairs_fit table ps w.1 k.1)

differences_fit : (table : Table) (ds : List (List NamePair)) → list_all all_whole ds ≡ true → list_all (list_all (is_pair_known table)) ds ≡ true → list_all (list_all (λ p. numbers_fit p.by)) (map (map named_pair) ds) ≡ true
differences_fit table [] whole h = refl
differences_fit table (d ∷ ds) whole h =
    let w = and_parts (all_whole d) (list_all all_whole ds) whole in
    let k = and_parts (list_all (is_pair_known table) d) (list_all (list_all (is_pair_known table)) ds) h in
    ap₂ (λ x y. x && y) (pairs_fit table d w.0 k.0) (differences_fit table ds w.1 k.1)

pub parts_readable : (table : Table) (parts : Parts) → are_whole parts.term parts.disequalities.items ≡ true → are_parts_known table parts ≡ true → in_form table (meaning parts) ≡ true → is_readable table (meaning parts) ≡ true
parts_readable table parts whole known form =
    let w = and_parts (spells 1 parts.term) (list_all all_whole parts.disequalities.items) whole in
    let k = and_parts (list_all (is_known table) parts.term) (are_constraints_known table parts) known in
    let c = and_parts (list_all (list_all (is_pair_known table)) parts.disequalities.items) (list_all (is_absence_known table) parts.absences.items) k.1 in
    ap₂ (λ x y. x && y) (ap₂ (λ x y. x && y) form (shapes_fit table parts.term w.0 k.0)) (differences_fit table parts.disequalities.items w.1 c.0)

-- their texts are the same over a table that goes on
at_front : (texts more : List (List ℕ)) (s : ℕ) → nat_lt s (length texts) ≡ true → slice_get (texts ++ more) s ≡ slice_get texts s
at_front [] more s low = absurd (true≢false (sym low ∙ none s))
  where
    none : (s : ℕ) → nat_lt s 0 ≡ false
    none s = grind (arith, nat_tests)
at_front (t ∷ ts) more zero low = refl
at_front (t ∷ ts) more (suc s) low = at_front ts more s (let l : nat_lt s (length ts) ≡ true = grind (arith, nat_tests) in l)

module _ (old new : Table) (goes : GoesOn old new) where
  symbol_same : (s : ℕ) → nat_lt s (length old.symbols) ≡ true → symbol_text new s ≡ symbol_text old s
  symbol_same s low = ap (λ o. unwrap_or o []) (ap (λ l. slice_get l s) goes.symbols.1 ∙ at_front old.symbols goes.symbols.0 s low)

  string_same : (s : ℕ) → nat_lt s (length old.strings) ≡ true → string_text new s ≡ string_text old s
  string_same s low = ap (λ o. in_quotes (unwrap_or o [])) (ap (λ l. slice_get l s) goes.strings.1 ∙ at_front old.strings goes.strings.0 s low)

  mutual
    term_same : (t : Tm) → is_term_over old t ≡ true → print name_text new t ≡ print name_text old t
    term_same (Tree.leaf v) h = refl
    term_same (Tree.sym s) h = symbol_same s h
    term_same (Tree.str s) h = string_same s h
    term_same (Tree.num n) h = refl
    term_same (Tree.truth b) h = refl
    term_same Tree.nil h = refl
    term_same (Tree.pair a b) h = let parts = and_parts (is_term_over old a) (is_term_over old b) h in ap₂ (λ x y. 40 ∷ x ++ y ++ 41 ∷ []) (term_same a parts.0) (rest_same b parts.1)

    rest_same : (t : Tm) → is_term_over old t ≡ true → print_rest name_text new t ≡ print_rest name_text old t
    rest_same (Tree.leaf v) h = refl
    rest_same (Tree.sym s) h = ap (λ l. codes " . " ++ l) (symbol_same s h)
    rest_same (Tree.str s) h = ap (λ l. codes " . " ++ l) (string_same s h)
    rest_same (Tree.num n) h = refl
    rest_same (Tree.truth b) h = refl
    rest_same Tree.nil h = refl
    rest_same (Tree.pair a b) h = let parts = and_parts (is_term_over old a) (is_term_over old b) h in ap₂ (λ x y. 32 ∷ x ++ y) (term_same a parts.0) (rest_same b parts.1)

  pairs_same : (ps : List model.NamedPair) → list_all (λ p. is_term_over old p.by) ps ≡ true → map (pair_text new) ps ≡ map (pair_text old) ps
  pairs_same [] h = refl
  pairs_same (p ∷ ps) h =
      let parts = and_parts (is_term_over old p.by) (list_all (λ r. is_term_over old r.by) ps) h in
      ap₂ (λ x xs. (codes "(" ++ name_text p.name ++ codes " " ++ x ++ codes ")") ∷ xs) (term_same p.by parts.0) (pairs_same ps parts.1)

  difference_same : (d : List model.NamedPair) → list_all (λ p. is_term_over old p.by) d ≡ true → difference_text new d ≡ difference_text old d
  difference_same d h = ap (λ l. codes "(=/= (" ++ with_spaces l ++ codes "))") (pairs_same d h)

  differences_same : (ds : List (List model.NamedPair)) → list_all (list_all (λ p. is_term_over old p.by)) ds ≡ true → map (difference_text new) ds ≡ map (difference_text old) ds
  differences_same [] h = refl
  differences_same (d ∷ ds) h =
      let parts = and_parts (list_all (λ p. is_term_over old p.by) d) (list_all (list_all (λ p. is_term_over old p.by)) ds) h in
      ap₂ (λ x xs. x ∷ xs) (difference_same d parts.0) (differences_same ds parts.1)

  absences_same : (as_ : List model.Absence) → list_all (λ kept. nat_lt kept.tag (length old.symbols)) as_ ≡ true → map (absence_text new) as_ ≡ map (absence_text old) as_
  absences_same [] h = refl
  absences_same (a ∷ as_) h =
      let parts = and_parts (nat_lt a.tag (length old.symbols)) (list_all (λ kept. nat_lt kept.tag (length old.symbols)) as_) h in
      ap₂ (λ x xs. (codes "(absent " ++ x ++ codes " " ++ with_spaces (map name_text a.names) ++ codes ")") ∷ xs) (symbol_same a.tag parts.0) (absences_same as_ parts.1)

  over_parts : (a : model.Answer) → is_over old a ≡ true → (is_term_over old a.term ≡ true) × (list_all (list_all (λ p. is_term_over old p.by)) a.disequalities ≡ true) × (list_all (λ kept. nat_lt kept.tag (length old.symbols)) a.absences ≡ true)
  over_parts a h =
      let one = and_parts (is_term_over old a.term && list_all (list_all (λ p. is_term_over old p.by)) a.disequalities) (list_all (λ kept. nat_lt kept.tag (length old.symbols)) a.absences) h in
      let two = and_parts (is_term_over old a.term) (list_all (list_all (λ p. is_term_over old p.by)) a.disequalities) one.0 in
      (two.0, two.1, one.1)

  pub text_same : (a : model.Answer) → is_over old a ≡ true → answer_text new a ≡ answer_text old a
  text_same a h =
      let parts = over_parts a h in
      ap₂ (λ x y. x ++ where_text y) (term_same a.term parts.0)
      (ap₂ (λ d b. d ++ names_texts (codes "num") a.numbers ++ names_texts (codes "sym") a.symbols ++ names_texts (codes "str") a.strings ++ b) (differences_same a.disequalities parts.1) (absences_same a.absences parts.2))

  ascends_same : {X : Type 0} (one other : X → X → Bool) (p : X → Bool) → ((x y : X) → p x ≡ true → p y ≡ true → one x y ≡ other x y) → (xs : List X) → list_all p xs ≡ true → ascends one xs ≡ ascends other xs
  ascends_same one other p so [] h = refl
  ascends_same one other p so (x ∷ []) h = refl
  ascends_same one other p so (x ∷ y ∷ ys) h =
      let a = and_parts (p x) (p y && list_all p ys) h in
      let b = and_parts (p y) (list_all p ys) a.1 in
      ap₂ (λ u v. u && v) (so x y a.0 b.0) (ascends_same one other p so (y ∷ ys) a.1)

  pub form_same : (a : model.Answer) → is_over old a ≡ true → in_form new a ≡ in_form old a
  form_same a h =
      let parts = over_parts a h in
      let n : ℕ = name_count a in
      ap₂ (λ d b. counts_up 0 (model.named_variables a.term) && list_all (difference_in_form n) a.disequalities && all_different a.disequalities && d
      && names_in_form n a.numbers && names_in_form n a.symbols && names_in_form n a.strings && apart a.numbers a.symbols && apart a.strings a.symbols && apart a.numbers a.strings
      && list_all (absence_in_form n (a.numbers ++ a.strings)) a.absences && b)
      (ascends_same (difference_le new) (difference_le old) (list_all (λ p. is_term_over old p.by)) (λ x y p q. ap₂ bytes_le (difference_same x p) (difference_same y q)) a.disequalities parts.1)
      (ascends_same (tag_before new) (tag_before old) (λ kept. nat_lt kept.tag (length old.symbols))
      (λ x y p q. ap₂ (λ u v. bytes_le u v && not (bytes_le v u)) (symbol_same x.tag p) (symbol_same y.tag q)) a.absences parts.2)
