-- The parts of an answer, read from its text.
use Rattle.std.proofs.Common.{◌≡◌, ℕ, true, false, List, [], ◌∷◌, ◌++◌, drop, map, refl, sym, ap, ap₂, ◌∙◌, append_assoc}
use Rattle.std.specs.Prelude.{◌==◌, ◌&&◌, codes, Result, Ok, Err, IfOk}
use Rattle.std.specs.List.{flat_map, list_all}
use Rattle.std.proofs.lemmas.Bool.{and_parts}
use Rattle.std.proofs.lemmas.Grind.{flat_map-append}
use Rattle.kan_terms.specs.Table.{Table}
use Rattle.kan_terms.specs.Tree.{Tm}
use Rattle.kan_model.specs.Answers.Answer as model
use Rattle.kan_model.specs.Answers.AnswerText as texts
use Rattle.kan_model.specs.Answers.AnswerText.{absence_text, constraint_texts, names_texts, where_text}
use Rattle.kan_model.specs.Answers.Text.{name_text, term_text, with_spaces}
use Rattle.kan_grammar.specs.Texts.TextNames.{GoesOn}
use Rattle.reify.specs.declared.shaping.NamePair.{NamePair}
use Rattle.reify.specs.declared.shaping.Shape.{Shape}
use Rattle.reify.specs.Constraints.{behind_space}
use Rattle.reify.specs.OverNames.{absence}
use Rattle.reify.specs.Shapes.{all_whole, named_pair, spelling, spells, tree_of}
use Rattle.reify.proofs.ShapeLaws.{one_spelled, tree_of-spelling}
use Rattle.reify.proofs.TextLaws.{where_spaced}
use Rattle.answer_reading.specs.declared.constraints.Kinds.{Kinds}
use Rattle.answer_reading.specs.declared.constraints.Parts.{Parts}
use Rattle.term_reading.specs.Words.{ends, is_fine, is_known}
use Rattle.term_reading.specs.Reading.{GetsTerm, text_from}
use Rattle.answer_reading.specs.Listing.{GetsAbsences, GetsConstraints, GetsDifferences, GetsKinds, GetsParts, are_constraints_known, are_fine_constraints, are_parts_known, constraints_text, difference_text, has_fourth, is_fine_absence, is_fine_pair, is_short, kinds_text, meaning, pair_text, shaped_pair}
use Rattle.term_reading.proofs.TermLaws.{continues_back, term_printed}
use Rattle.answer_reading.proofs.ListLaws.{kind_fourth}
use Rattle.term_reading.proofs.KnownTerms.{terms_further}

absences_fourth : (b : ℕ) (table : Table) (as_ : List model.Absence) → (98 == b) ≡ false → has_fourth b (flat_map behind_space (map (absence_text table) as_)) ≡ false
absences_fourth b table [] other = refl
absences_fourth b table (a ∷ as_) other = other

kinds_fourth : (numbers symbols strings more : List ℕ) → has_fourth 47 more ≡ false → has_fourth 47 (kinds_text numbers symbols strings ++ more) ≡ false
kinds_fourth numbers symbols strings more other =
    let a : List ℕ = flat_map behind_space (names_texts (codes "num") numbers) in
    let b : List ℕ = flat_map behind_space (names_texts (codes "sym") symbols) in
    let c : List ℕ = flat_map behind_space (names_texts (codes "str") strings) in
    ap (has_fourth 47) (append_assoc (a ++ b) c more ∙ append_assoc a b (c ++ more))
    ∙ kind_fourth 47 110 117 109 numbers (b ++ (c ++ more)) refl (kind_fourth 47 115 121 109 symbols (c ++ more) refl (kind_fourth 47 115 116 114 strings more refl other))

pub constraints_got : (middle new : Table) (bytes rest left : List ℕ) (ds : List (List NamePair)) (kinds : Kinds) (as_ : List model.Absence) (parts : Parts) →
    GetsDifferences middle bytes ds rest → GoesOn middle new → GetsKinds rest kinds left → GetsAbsences new left as_ →
    parts.disequalities.items ≡ ds → parts.kinds ≡ kinds → map absence parts.absences.items ≡ as_ → GetsConstraints new bytes parts
constraints_got middle new bytes rest left ds kinds as_ parts first goes second third one two three table on es numbers symbols strings bs fine is =
    let f1 = and_parts (list_all (list_all (is_fine_pair table)) es && list_all is_short numbers && list_all is_short symbols && list_all is_short strings) (list_all (is_fine_absence table) bs) fine in
    let f2 = and_parts (list_all (list_all (is_fine_pair table)) es && list_all is_short numbers && list_all is_short symbols) (list_all is_short strings) f1.0 in
    let f3 = and_parts (list_all (list_all (is_fine_pair table)) es && list_all is_short numbers) (list_all is_short symbols) f2.0 in
    let f4 = and_parts (list_all (list_all (is_fine_pair table)) es) (list_all is_short numbers) f3.0 in
    let d : List ℕ = flat_map behind_space (map (difference_text table) es) in
    let k : List ℕ = kinds_text numbers symbols strings in
    let a : List ℕ = flat_map behind_space (map (absence_text table) bs) in
    let got = first table (continues_back middle new table goes on) es (k ++ a) f4.0 (kinds_fourth numbers symbols strings a (absences_fourth 47 table bs refl)) (is ∙ append_assoc d k a) in
    let typed = second numbers symbols strings a f4.1 f3.1 f2.1 (absences_fourth 117 table bs refl) (absences_fourth 121 table bs refl) (absences_fourth 116 table bs refl) got.1 in
    (one ∙ got.0, ap (λ x. x.numbers.items) two ∙ typed.0, ap (λ x. x.symbols.items) two ∙ typed.1, ap (λ x. x.strings.items) two ∙ typed.2, three ∙ third table on bs f1.1 typed.3)

-- the text of constraints
where_ends : (ts : List (List ℕ)) → ends (where_text ts) ≡ true
where_ends [] = refl
where_ends (t ∷ ts) = refl

where_cut : (ts : List (List ℕ)) → drop 6 (where_text ts) ≡ flat_map behind_space ts
where_cut [] = refl
where_cut (t ∷ ts) = ap (drop 6) (where_spaced (t ∷ ts) refl)

term_shapes : (table : Table) (t : Tm) → term_text table t ≡ text_from table true 0 (spelling t)
term_shapes table t = sym (term_printed table t)

pair_shapes : (table : Table) (p : model.NamedPair) → texts.pair_text table p ≡ pair_text table (shaped_pair p)
pair_shapes table p = ap (λ l. codes "(" ++ name_text p.name ++ codes " " ++ l ++ codes ")") (term_shapes table p.by)

pairs_shapes : (table : Table) (ps : List model.NamedPair) → map (texts.pair_text table) ps ≡ map (pair_text table) (map shaped_pair ps)
pairs_shapes table [] = refl
pairs_shapes table (p ∷ ps) = ap₂ (λ x xs. x ∷ xs) (pair_shapes table p) (pairs_shapes table ps)

differences_shapes : (table : Table) (ds : List (List model.NamedPair)) → map (texts.difference_text table) ds ≡ map (difference_text table) (map (map shaped_pair) ds)
differences_shapes table [] = refl
differences_shapes table (d ∷ ds) = ap₂ (λ x xs. (codes "(=/= (" ++ with_spaces x ++ codes "))") ∷ xs) (pairs_shapes table d) (differences_shapes table ds)

constraints_are : (table : Table) (a : model.Answer) → flat_map behind_space (constraint_texts table a) ≡ constraints_text table (map (map shaped_pair) a.disequalities) a.numbers a.symbols a.strings a.absences
constraints_are table a =
    let d : List (List ℕ) = map (texts.difference_text table) a.disequalities in
    let n : List (List ℕ) = names_texts (codes "num") a.numbers in
    let s : List (List ℕ) = names_texts (codes "sym") a.symbols in
    let t : List (List ℕ) = names_texts (codes "str") a.strings in
    let b : List (List ℕ) = map (absence_text table) a.absences in
    let f : List (List ℕ) → List ℕ = flat_map behind_space in
    flat_map-append behind_space (d ++ n ++ s ++ t) b
    ∙ ap (λ l. l ++ f b) (flat_map-append behind_space (d ++ n ++ s) t
    ∙ ap (λ l. l ++ f t) (flat_map-append behind_space (d ++ n) s ∙ ap (λ l. l ++ f s) (flat_map-append behind_space d n))
    ∙ ap (λ l. l ++ f t) (append_assoc (f d) (f n) (f s)) ∙ append_assoc (f d) (f n ++ f s) (f t)
    ∙ ap (λ l. flat_map behind_space l ++ (f n ++ f s ++ f t)) (differences_shapes table a.disequalities))

pair_back : (p : model.NamedPair) → named_pair (shaped_pair p) ≡ p
pair_back p = λ i. record { name = p.name; by = tree_of-spelling p.by i }

pairs_back : (ps : List model.NamedPair) → map named_pair (map shaped_pair ps) ≡ ps
pairs_back [] = refl
pairs_back (p ∷ ps) = ap₂ (λ x xs. x ∷ xs) (pair_back p) (pairs_back ps)

differences_back : (ds : List (List model.NamedPair)) → map (map named_pair) (map (map shaped_pair) ds) ≡ ds
differences_back [] = refl
differences_back (d ∷ ds) = ap₂ (λ x xs. x ∷ xs) (pairs_back d) (differences_back ds)

pairs_whole : (ps : List model.NamedPair) → all_whole (map shaped_pair ps) ≡ true
pairs_whole [] = refl
pairs_whole (p ∷ ps) = ap₂ (λ x y. x && y) (one_spelled p.by) (pairs_whole ps)

differences_whole : (ds : List (List model.NamedPair)) → list_all all_whole (map (map shaped_pair) ds) ≡ true
differences_whole [] = refl
differences_whole (d ∷ ds) = ap₂ (λ x y. x && y) (pairs_whole d) (differences_whole ds)

pub parts_got : (middle new : Table) (line rest cut : List ℕ) (term : List Shape) (parts : Parts) →
    GetsTerm middle line term rest → GoesOn middle new → cut ≡ drop 6 rest → parts.term ≡ term → GetsConstraints new cut parts → GetsParts new line parts
parts_got middle new line rest cut term parts first goes one same second table on a fine is =
    let fines = and_parts (list_all (is_fine table) (spelling a.term)) (are_fine_constraints table (map (map shaped_pair) a.disequalities) a.numbers a.symbols a.strings a.absences) fine in
    let text : line ≡ text_from table true 0 (spelling a.term) ++ where_text (constraint_texts table a) = sym is ∙ ap (λ l. l ++ where_text (constraint_texts table a)) (term_shapes table a.term) in
    let got = first table (continues_back middle new table goes on) (spelling a.term) (where_text (constraint_texts table a)) (one_spelled a.term) fines.0 (where_ends (constraint_texts table a)) text in
    let bytes : cut ≡ constraints_text table (map (map shaped_pair) a.disequalities) a.numbers a.symbols a.strings a.absences = one ∙ ap (drop 6) got.1 ∙ where_cut (constraint_texts table a) ∙ constraints_are table a in
    let has = second table on (map (map shaped_pair) a.disequalities) a.numbers a.symbols a.strings a.absences fines.1 bytes in (
      ap₂ (λ x y. x && y) (ap (spells 1) (same ∙ got.0) ∙ one_spelled a.term) (ap (list_all all_whole) has.0 ∙ differences_whole a.disequalities),
      whole (ap tree_of (same ∙ got.0) ∙ tree_of-spelling a.term) (ap (map (map named_pair)) has.0 ∙ differences_back a.disequalities) has.1 has.2 has.3 has.4,
    )
  where
    whole : tree_of parts.term ≡ a.term → map (map named_pair) parts.disequalities.items ≡ a.disequalities → parts.kinds.numbers.items ≡ a.numbers → parts.kinds.symbols.items ≡ a.symbols →
        parts.kinds.strings.items ≡ a.strings → map absence parts.absences.items ≡ a.absences → meaning parts ≡ a
    whole t d n s r b = λ i. record { term = t i; disequalities = d i; numbers = n i; symbols = s i; strings = r i; absences = b i }

-- the same of what a call gives
pub parts_by : {E : Type 0} (middle new : Table) (line rest cut : List ℕ) (term : List Shape) (r : Result Parts E) → GetsTerm middle line term rest → GoesOn middle new → cut ≡ drop 6 rest → IfOk r (λ parts. parts.term ≡ term) →
    IfOk r (λ parts. GetsConstraints new cut parts) → IfOk r (λ parts. GetsParts new line parts)
parts_by middle new line rest cut term (Ok parts) first goes one same second = parts_got middle new line rest cut term parts first goes one same second
parts_by middle new line rest cut term (Err e) first goes one same second = second

pub parts_known : {E : Type 0} (middle new : Table) (term : List Shape) (r : Result Parts E) → list_all (is_known middle) term ≡ true → GoesOn middle new → IfOk r (λ parts. parts.term ≡ term) →
    IfOk r (λ parts. are_constraints_known new parts ≡ true) → IfOk r (λ parts. are_parts_known new parts ≡ true)
parts_known middle new term (Ok parts) known goes same others =
    ap₂ (λ x y. x && y) (ap (list_all (is_known new)) same ∙ terms_further middle new goes term known) others
parts_known middle new term (Err e) known goes same others = others
