-- The answer of a kept store is in form.
use Rattle.std.proofs.Common.{◌≡◌, ◌≢◌, ℕ, ◌<◌, Bool, true, false, ◌&&◌, not, eqb, nat_lt, List, [], ◌∷◌, ◌++◌, map, filter, length, Option, Some, None, sym, subst, refl, ◌∙◌, inl, inr, unwrap_or}
use Rattle.std.specs.List.{list_all, list_any}
use Rattle.std.proofs.lemmas.Bool.{and_from, and_parts, or_cases, eqb-true, eqb-false, ltb-true, both_ways, false_from_ne_true, not_from_false, not-true, true≢false}
use Rattle.kan_terms.specs.Tree.{Tree, Tm, term_eq}
use Rattle.kan_terms.proofs.TreeLaws.{eq-term_eq}
use Rattle.kan_model.specs.Programs.Goals.{Primitive}
use Rattle.kan_model.specs.Stores.Store.{Store, Equation}
use Rattle.kan_model.specs.Answers.Order.{each_once, in_order}
use Rattle.kan_model.specs.Stores.Solve.{Replacement, image, apply, solve_store}
use Rattle.kan_model.specs.Stores.Kept.{allows, is_variable, gives_type, has_type, lacks_type, gives_one_type, holds_under, holds_with}
use Rattle.kan_model.specs.declared.prims.Kind.{Kind}
use Rattle.kan_model.specs.declared.prims.Kind.TheVariants.{Symbol, Number, Text}
use Rattle.kan_terms.specs.Table.{Table}
use Rattle.kan_model.specs.Answers.Text.{symbol_text}
use Rattle.kan_model.specs.Answers.Answer.{NamedPair, Absence, may_have_tag, named_variables, in_names, rank, ranks_lower, solved_form, in_rank, all_named, can_be_equal, if_written, and_form, forms_of, same_form, is_weaker, strongest, form_in_names, names_where, has_absence, tags_of, absence_of, has_names, tag_le, absences_of}
use Rattle.kan_model.specs.Answers.AnswerText.{difference_text, difference_le, answer_under, answer_by}
use Rattle.kan_model.specs.Answers.InForm.{counts_up, ascends, is_filled, difference_in_form, equal_pairs, all_different, names_in_form, apart, absence_in_form, tag_before, in_form, TextsDiffer, AnswerInForm}
use Rattle.kan_model.proofs.Solving.SolveLaws.{solve_by-Solves}
use Rattle.kan_model.proofs.Solving.UnifierLaws.{answer_unifies}
use Rattle.kan_model.proofs.Solving.ReplacedLaws.{apply-kept, answer_clean}
use Rattle.kan_model.proofs.ListLaws.{EachTwo, Each-like, Each-both, Each-all, EachTwo-like, EachTwo-with, Each-map, EachTwo-map, Each-filter, filter_passed, EachTwo-filter, Each-each_once, each_once_apart, Each-in_order, EachTwo-in_order, ascends-in_order, ascends_strictly, list_all-from_Each, Each-from_list_all, list_any_none-from_Each}
use Rattle.kan_model.specs.Each.{Each}
use Rattle.kan_model.proofs.Answering.NameLaws.{names_count_up, name_count-in_names, names_where-in_form, names_where-apart, apart_both}
use Rattle.kan_model.proofs.Answering.SolvedForms.{rank-one, Rising, Once, Solves-rises, Solves-once, entries_gone}
use Rattle.kan_model.proofs.Answering.FormLaws.{Named, Named-from_test, IsSolved, form_is_in_form, form_is_named, form_in_names-one, equal_pairs-same}
use Rattle.kan_model.proofs.Answering.ByteOrder.{bytes_le-total, bytes_le-both}

also : {x y : Bool} → x ≡ true → y ≡ true → (x && y) ≡ true
also {x} {y} h k = and_from x y h k

-- a form that is written: over named variables, and in form under their names
abbrev Written : List ℕ → Replacement → Type 0
Written vs f = (difference_in_form (length vs) (form_in_names vs f) ≡ true) × Named vs f

-- the solved form of a disequality that is allowed
abbrev sides : Replacement → Tm → Tm → List Equation
sides s a b = record { left = apply s a; right = apply s b } ∷ []

form_solved : (vs : List ℕ) (s : Replacement) (a b : Tm) (f : Replacement) → solved_form vs s a b ≡ Some f → IsSolved vs f
form_solved vs s a b f h =
    let d = solve_by-Solves (ranks_lower vs) (sides s a b) in
    let rising = subst OnForm h (Solves-rises (rank vs) (rank-one vs) (sides s a b) (solved_form vs s a b) d) in
    let once = subst OnOnce h (Solves-once (ranks_lower vs) (sides s a b) (solved_form vs s a b) d) in
    let (from, theirs, gone) = answer_clean (ranks_lower vs) (sides s a b) f h in
    (rising, once, entries_gone f once gone)
  where
    OnForm : Option Replacement → Type 0
    OnForm None = Unit {0}
    OnForm (Some f) = Rising (rank vs) f

    OnOnce : Option Replacement → Type 0
    OnOnce None = Unit {0}
    OnOnce (Some f) = Once f

form_filled : (vs : List ℕ) (s : Replacement) (a b : Tm) (f : Replacement) → solved_form vs s a b ≡ Some f → allows s (Primitive.differ a b) ≡ true → is_filled f ≡ true
form_filled vs s a b [] h allowed =
    let (same, _) = answer_unifies (ranks_lower vs) (sides s a b) [] h in
    let equal : apply s a ≡ apply s b = sym (apply-kept [] (apply s a) (λ v _. refl)) ∙ same ∙ apply-kept [] (apply s b) (λ v _. refl) in
    absurd (both_ways (term_eq (apply s a) (apply s b)) (not-true (term_eq (apply s a) (apply s b)) allowed) (eq-term_eq (apply s a) (apply s b) equal))
form_filled vs s a b (p ∷ f) h allowed = refl

forms_written : (vs : List ℕ) (st : Store) (s : Replacement) (ps : List (Primitive Tm)) → Each (λ p. allows s p ≡ true) ps → Each (Written vs) (forms_of vs st s ps)
forms_written vs st s [] h = tt
forms_written vs st s (Primitive.differ a b ∷ ps) (allowed, hs) = by (solved_form vs s a b) refl (forms_written vs st s ps hs)
  where
    written : (f : Replacement) → solved_form vs s a b ≡ Some f → all_named vs f ≡ true → Written vs (in_rank vs f)
    written f e named = (
      form_is_in_form vs f (form_filled vs s a b f e allowed) (Named-from_test vs f named) (form_solved vs s a b f e),
      form_is_named vs f (form_filled vs s a b f e allowed) (Named-from_test vs f named) (form_solved vs s a b f e),
    )

    choice : (f : Replacement) → solved_form vs s a b ≡ Some f → (c : Bool) → (all_named vs f && can_be_equal st a b) ≡ c → (fs : List Replacement) → Each (Written vs) fs → Each (Written vs) (if_written c (in_rank vs f) fs)
    choice f e true k fs hs = (written f e (and_parts (all_named vs f) (can_be_equal st a b) k).0, hs)
    choice f e false k fs hs = hs

    by : (o : Option Replacement) → solved_form vs s a b ≡ o → Each (Written vs) (forms_of vs st s ps) → Each (Written vs) (and_form vs st a b o (forms_of vs st s ps))
    by None e ih = ih
    by (Some f) e ih = choice f e (all_named vs f && can_be_equal st a b) refl (forms_of vs st s ps) ih
forms_written vs st s (p ∷ ps) (h, hs) = forms_written vs st s ps hs

-- disequalities that differ in pairs are all different
all_different-from_two : (ds : List (List NamedPair)) → EachTwo (λ d e. d ≢ e) ds → all_different ds ≡ true
all_different-from_two [] h = refl
all_different-from_two (d ∷ ds) (h, hs) =
    also (not_from_false (list_any (equal_pairs d) ds) (list_any_none-from_Each (equal_pairs d) ds
    (Each-like (λ e. d ≢ e) (λ e. equal_pairs d e ≡ false) (λ e other. false_from_ne_true (equal_pairs d e) (λ same. other (equal_pairs-same d e same))) ds h)))
    (all_different-from_two ds hs)

-- the disequalities of an answer
module _ (table : Table) (vs : List ℕ) (fs : List Replacement) (written : Each (Written vs) fs) where
  abbrev strong : List Replacement
  strong = strongest fs

  abbrev written_forms : List (List NamedPair)
  written_forms = in_order (difference_le table) (map (form_in_names vs) strong)

  strong_written : Each (Written vs) strong
  strong_written = Each-each_once (Written vs) same_form (filter (λ f. not (is_weaker fs f)) fs) (Each-filter (Written vs) (λ f. not (is_weaker fs f)) fs written)

  differences_in_form : list_all (difference_in_form (length vs)) written_forms ≡ true
  differences_in_form =
      list_all-from_Each (difference_in_form (length vs)) written_forms
      (Each-in_order (λ d. difference_in_form (length vs) d ≡ true) (difference_le table) (map (form_in_names vs) strong)
      (Each-map (λ d. difference_in_form (length vs) d ≡ true) (form_in_names vs) strong (Each-like (Written vs) (λ f. difference_in_form (length vs) (form_in_names vs f) ≡ true) (λ f w. w.0) strong strong_written)))

  differences_differ : all_different written_forms ≡ true
  differences_differ =
      all_different-from_two written_forms
      (EachTwo-in_order (λ d e. d ≢ e) (λ d e other same. other (sym same)) (difference_le table) (map (form_in_names vs) strong)
      (EachTwo-map (λ d e. d ≢ e) (form_in_names vs) strong
      (EachTwo-like (λ f g. Written vs f × Written vs g × (same_form f g ≡ false)) (λ f g. form_in_names vs f ≢ form_in_names vs g)
      (λ f g (w, k, other) same. both_ways (same_form f g) other (form_in_names-one vs f g w.1 k.1 same)) strong
      (EachTwo-with (Written vs) (λ f g. same_form f g ≡ false) strong strong_written (each_once_apart same_form (filter (λ f. not (is_weaker fs f)) fs))))))

  differences_ascend : ascends (difference_le table) written_forms ≡ true
  differences_ascend = ascends-in_order (difference_le table) (λ d e. bytes_le-total (difference_text table d) (difference_text table e)) (map (form_in_names vs) strong)

-- a variable that has a type has no other one
module _ (s : Replacement) (ps : List (Primitive Tm)) (v : ℕ) where
  without_type : (kind : Kind) (t : Tm) → lacks_type kind s ps t ≡ true → is_variable v t ≡ true → has_type kind s ps v ≡ false
  without_type kind (Tree.leaf w) h k = subst (λ x. has_type kind s ps x ≡ false) (sym (eqb-true v w k)) (not-true (has_type kind s ps w) h)
  without_type kind (Tree.sym r) h k = absurd (true≢false (sym k))
  without_type kind (Tree.str r) h k = absurd (true≢false (sym k))
  without_type kind (Tree.num n) h k = absurd (true≢false (sym k))
  without_type kind (Tree.truth b) h k = absurd (true≢false (sym k))
  without_type kind Tree.nil h k = absurd (true≢false (sym k))
  without_type kind (Tree.pair a b) h k = absurd (true≢false (sym k))

  pub symbol_alone : (q : Primitive Tm) → gives_one_type s ps q ≡ true → gives_type Symbol s v q ≡ true → (has_type Number s ps v ≡ false) × (has_type Text s ps v ≡ false)
  symbol_alone (Primitive.symbol a) h k =
      let (number, string) = and_parts (lacks_type Number s ps (apply s a)) (lacks_type Text s ps (apply s a)) h in
      (without_type Number (apply s a) number k, without_type Text (apply s a) string k)
  symbol_alone (Primitive.same a b) h k = absurd (true≢false (sym k))
  symbol_alone (Primitive.differ a b) h k = absurd (true≢false (sym k))
  symbol_alone (Primitive.number a) h k = absurd (true≢false (sym k))
  symbol_alone (Primitive.text a) h k = absurd (true≢false (sym k))
  symbol_alone (Primitive.absent t a) h k = absurd (true≢false (sym k))

  pub string_alone : (q : Primitive Tm) → gives_one_type s ps q ≡ true → gives_type Text s v q ≡ true → has_type Number s ps v ≡ false
  string_alone (Primitive.text a) h k = without_type Number (apply s a) h k
  string_alone (Primitive.same a b) h k = absurd (true≢false (sym k))
  string_alone (Primitive.differ a b) h k = absurd (true≢false (sym k))
  string_alone (Primitive.symbol a) h k = absurd (true≢false (sym k))
  string_alone (Primitive.number a) h k = absurd (true≢false (sym k))
  string_alone (Primitive.absent t a) h k = absurd (true≢false (sym k))

  -- what follows from each primitive that gives a type follows where one does
  pub where_given : (kind : Kind) (P : Type 0) → ((q : Primitive Tm) → gives_one_type s ps q ≡ true → gives_type kind s v q ≡ true → P) →
      (qs : List (Primitive Tm)) → list_all (gives_one_type s ps) qs ≡ true → list_any (gives_type kind s v) qs ≡ true → P
  where_given kind P follows [] h k = absurd (true≢false (sym k))
  where_given kind P follows (q ∷ qs) h k =
      let (first, rest) = and_parts (gives_one_type s ps q) (list_all (gives_one_type s ps) qs) h in
      elim (or_cases (gives_type kind s v q) (list_any (gives_type kind s v) qs) k) [
        | inl here ↦ follows q first here
        | inr later ↦ where_given kind P follows qs rest later
      ]

-- the absences of an answer
names_filled : (xs : List ℕ) → nat_lt 0 (length xs) ≡ true → is_filled xs ≡ true
names_filled [] h = absurd (true≢false (sym h))
names_filled (x ∷ xs) h = refl

module _ (table : Table) (differ : TextsDiffer table) (vs : List ℕ) (s : Replacement) (ps : List (Primitive Tm)) (there : list_all (λ tag. nat_lt tag (length table.symbols)) (tags_of ps) ≡ true) where
  abbrev once_tags : List ℕ
  once_tags = each_once eqb (tags_of ps)

  abbrev all_absences : List Absence
  all_absences = map (absence_of vs s ps) once_tags

  abbrev numbers : List ℕ
  numbers = names_where (has_type Number s ps) 0 vs

  abbrev strings : List ℕ
  strings = names_where (has_type Text s ps) 0 vs

  abbrev test_of : ℕ → ℕ → Bool
  test_of tag v = has_absence s ps tag v && may_have_tag s ps v

  tagged : (tag v : ℕ) → test_of tag v ≡ true → (has_type Number s ps v ≡ false) × (has_type Text s ps v ≡ false)
  tagged tag v h =
      let (_, may) = and_parts (has_absence s ps tag v) (may_have_tag s ps v) h in
      let (number, string) = and_parts (not (has_type Number s ps v)) (not (has_type Text s ps v)) may in
      (not-true (has_type Number s ps v) number, not-true (has_type Text s ps v) string)

  absence_names : (tag : ℕ) → (names_in_form (length vs) (absence_of vs s ps tag).names ≡ true) × (apart (absence_of vs s ps tag).names (numbers ++ strings) ≡ true)
  absence_names tag = (
    names_where-in_form (test_of tag) vs,
    apart_both (absence_of vs s ps tag).names numbers strings
        (names_where-apart (test_of tag) (has_type Number s ps) (λ v h. (tagged tag v h).0) 0 vs)
        (names_where-apart (test_of tag) (has_type Text s ps) (λ v h. (tagged tag v h).1) 0 vs),
  )

  absences_in_form : list_all (absence_in_form (length vs) (numbers ++ strings)) (absences_of table vs s ps) ≡ true
  absences_in_form =
      list_all-from_Each (absence_in_form (length vs) (numbers ++ strings)) (absences_of table vs s ps)
      (Each-in_order (λ a. absence_in_form (length vs) (numbers ++ strings) a ≡ true) (tag_le table) (filter has_names all_absences)
      (Each-like (λ a. (has_names a ≡ true) × ((names_in_form (length vs) a.names ≡ true) × (apart a.names (numbers ++ strings) ≡ true))) (λ a. absence_in_form (length vs) (numbers ++ strings) a ≡ true)
      (λ a (has, (formed, separate)). also (also (names_filled a.names has) formed) separate) (filter has_names all_absences)
      (Each-both (λ a. has_names a ≡ true) (λ a. (names_in_form (length vs) a.names ≡ true) × (apart a.names (numbers ++ strings) ≡ true)) (filter has_names all_absences) (filter_passed has_names all_absences)
      (Each-filter (λ a. (names_in_form (length vs) a.names ≡ true) × (apart a.names (numbers ++ strings) ≡ true)) has_names all_absences
      (Each-map (λ a. (names_in_form (length vs) a.names ≡ true) × (apart a.names (numbers ++ strings) ≡ true)) (absence_of vs s ps) once_tags
      (Each-all (λ t. (names_in_form (length vs) (absence_of vs s ps t).names ≡ true) × (apart (absence_of vs s ps t).names (numbers ++ strings) ≡ true)) absence_names once_tags))))))

  abbrev OtherTags : Absence → Absence → Type 0
  OtherTags a b = (a.tag < length table.symbols) × (b.tag < length table.symbols) × (a.tag ≢ b.tag)

  tags_differ : EachTwo OtherTags (filter has_names all_absences)
  tags_differ =
      EachTwo-filter OtherTags has_names all_absences
      (EachTwo-map OtherTags (absence_of vs s ps) once_tags
      (EachTwo-like (λ t u. (t < length table.symbols) × (u < length table.symbols) × (eqb t u ≡ false)) (λ t u. (t < length table.symbols) × (u < length table.symbols) × (t ≢ u)) (λ t u (l, m, other). (l, m, eqb-false t u other)) once_tags
      (EachTwo-with (λ t. t < length table.symbols) (λ t u. eqb t u ≡ false) once_tags
      (Each-each_once (λ t. t < length table.symbols) eqb (tags_of ps) (Each-like (λ t. nat_lt t (length table.symbols) ≡ true) (λ t. t < length table.symbols) (λ t. ltb-true t (length table.symbols)) (tags_of ps) (Each-from_list_all (λ t. nat_lt t (length table.symbols)) (tags_of ps) there)))
      (each_once_apart eqb (tags_of ps)))))

  tags_strictly : (a b : Absence) → OtherTags a b → tag_le table a b ≡ true → tag_before table a b ≡ true
  tags_strictly a b (l, m, other) h =
      also h (not_from_false (tag_le table b a) (false_from_ne_true (tag_le table b a) (λ k. other (differ a.tag b.tag l m (bytes_le-both (symbol_text table a.tag) (symbol_text table b.tag) h k)))))

  absences_ascend : ascends (tag_before table) (absences_of table vs s ps) ≡ true
  absences_ascend =
      ascends_strictly (tag_le table) (tag_before table) OtherTags tags_strictly (absences_of table vs s ps)
      (EachTwo-in_order OtherTags (λ a b (l, m, other). (m, l, λ same. other (sym same))) (tag_le table) (filter has_names all_absences) tags_differ)
      (ascends-in_order (tag_le table) (λ a b. bytes_le-total (symbol_text table a.tag) (symbol_text table b.tag)) (filter has_names all_absences))

-- the answer under what the solver gives
answer_under_in_form : (table : Table) (st : Store) (s : Replacement) → TextsDiffer table → list_all (λ tag. nat_lt tag (length table.symbols)) (tags_of st.prims) ≡ true →
    holds_under st.prims s ≡ true → in_form table (answer_under table st s (named_variables (image s 0))) ≡ true
answer_under_in_form table st s differ there h = subst (λ n. parts n ≡ true) (sym (name_count-in_names (image s 0))) all_parts
  where
    vs : List ℕ
    vs = named_variables (image s 0)

    forms : List Replacement
    forms = forms_of vs st s st.prims

    numbers_of : List ℕ
    numbers_of = names_where (has_type Number s st.prims) 0 vs

    symbols_of : List ℕ
    symbols_of = names_where (has_type Symbol s st.prims) 0 vs

    strings_of : List ℕ
    strings_of = names_where (has_type Text s st.prims) 0 vs

    parts : ℕ → Bool
    parts n =
        counts_up 0 (named_variables (in_names vs (image s 0)))
        && list_all (difference_in_form n) (in_order (difference_le table) (map (form_in_names vs) (strongest forms)))
        && all_different (in_order (difference_le table) (map (form_in_names vs) (strongest forms)))
        && ascends (difference_le table) (in_order (difference_le table) (map (form_in_names vs) (strongest forms)))
        && names_in_form n numbers_of && names_in_form n symbols_of && names_in_form n strings_of
        && apart numbers_of symbols_of && apart strings_of symbols_of && apart numbers_of strings_of
        && list_all (absence_in_form n (numbers_of ++ strings_of)) (absences_of table vs s st.prims)
        && ascends (tag_before table) (absences_of table vs s st.prims)

    allowed : list_all (allows s) st.prims ≡ true
    allowed = (and_parts (list_all (allows s) st.prims) (list_all (gives_one_type s st.prims) st.prims) h).0

    one_type : list_all (gives_one_type s st.prims) st.prims ≡ true
    one_type = (and_parts (list_all (allows s) st.prims) (list_all (gives_one_type s st.prims) st.prims) h).1

    written : Each (Written vs) forms
    written = forms_written vs st s st.prims (Each-from_list_all (allows s) st.prims allowed)

    other_than_symbol : (v : ℕ) → has_type Symbol s st.prims v ≡ true → (has_type Number s st.prims v ≡ false) × (has_type Text s st.prims v ≡ false)
    other_than_symbol v = where_given s st.prims v Symbol ((has_type Number s st.prims v ≡ false) × (has_type Text s st.prims v ≡ false)) (symbol_alone s st.prims v) st.prims one_type

    number_is_no_symbol : (v : ℕ) → has_type Number s st.prims v ≡ true → has_type Symbol s st.prims v ≡ false
    number_is_no_symbol v k = false_from_ne_true (has_type Symbol s st.prims v) (λ j. both_ways (has_type Number s st.prims v) (other_than_symbol v j).0 k)

    string_is_no_symbol : (v : ℕ) → has_type Text s st.prims v ≡ true → has_type Symbol s st.prims v ≡ false
    string_is_no_symbol v k = false_from_ne_true (has_type Symbol s st.prims v) (λ j. both_ways (has_type Text s st.prims v) (other_than_symbol v j).1 k)

    number_is_no_string : (v : ℕ) → has_type Number s st.prims v ≡ true → has_type Text s st.prims v ≡ false
    number_is_no_string v k = false_from_ne_true (has_type Text s st.prims v)
        (λ j. both_ways (has_type Number s st.prims v) (where_given s st.prims v Text (has_type Number s st.prims v ≡ false) (string_alone s st.prims v) st.prims one_type j) k)

    all_parts : parts (length vs) ≡ true
    all_parts =
        also (also (also (also (also (also (also (also (also (also (also (names_count_up (image s 0)) (differences_in_form table vs forms written)) (differences_differ table vs forms written)) (differences_ascend table vs forms written))
        (names_where-in_form (has_type Number s st.prims) vs)) (names_where-in_form (has_type Symbol s st.prims) vs)) (names_where-in_form (has_type Text s st.prims) vs))
        (names_where-apart (has_type Number s st.prims) (has_type Symbol s st.prims) number_is_no_symbol 0 vs))
        (names_where-apart (has_type Text s st.prims) (has_type Symbol s st.prims) string_is_no_symbol 0 vs))
        (names_where-apart (has_type Number s st.prims) (has_type Text s st.prims) number_is_no_string 0 vs))
        (absences_in_form table differ vs s st.prims there)) (absences_ascend table differ vs s st.prims there)

pub answer_in_form : AnswerInForm
answer_in_form table st differ there kept = by (solve_store st) kept
  where
    by : (o : Option Replacement) → holds_with st.prims o ≡ true → in_form table (answer_by table st (unwrap_or o [])) ≡ true
    by None h = absurd (true≢false (sym h))
    by (Some s) h = answer_under_in_form table st s differ there h
