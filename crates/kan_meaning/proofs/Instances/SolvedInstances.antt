-- Each instance of the answer of a kept store is the value of variable 0 under a solution of the store.
use Rattle.std.proofs.Common.{◌≡◌, ℕ, ◌+◌, ◌<◌, ◌≤◌, max, Bool, true, false, ◌&&◌, not, eqb, nat_lt, List, [], ◌∷◌, ◌++◌, length, map, filter, Option, Some, None, inl, inr, refl, sym, ap, ap₂, subst, ◌∙◌, arith, unwrap_or}
use Rattle.std.specs.List.{list_all}
use Rattle.std.proofs.lemmas.Bool.{and_from, and_parts, or_cases, eqb-true, ltb-false, both_ways, not-true, not-false, false_from_ne_true, true≢false}
use Rattle.std.proofs.lemmas.List.Folds.{list_all-append}
use Rattle.kan_terms.specs.Table.{Table}
use Rattle.kan_terms.specs.Tree.{Tree, Tm, Gd, fill, occurs, has_symbol, term_eq}
use Rattle.kan_terms.specs.Valuations.{value_at, value}
use Rattle.kan_terms.proofs.TreeLaws.{term_eq-true, eq-ground_eq}
use Rattle.kan_model.specs.Answers.Answer.{named_variables, solved_form, in_rank, rank, ranks_lower, all_named, is_no_difference, can_be_equal, if_written, and_form, forms_of, is_weaker, same_pair, same_form, strongest, form_in_names, in_names, names_where, has_absence, may_have_tag, tags_of, absence_of, has_names, tag_le, absences_of}
use Rattle.kan_model.specs.Answers.AnswerText.{difference_le, answer_under, answer_by, answer_of}
use Rattle.kan_model.specs.Answers.Covers.{pair_met, difference_met, absence_met, meets, Covers}
use Rattle.kan_model.specs.Answers.Order.{each_once, in_order, place_of, stands_in}
use Rattle.kan_model.specs.Meaning.Holds.{is_symbol, is_number, is_string, holds_at, IsSolution}
use Rattle.kan_model.specs.Programs.Goals.{Primitive}
use Rattle.kan_model.specs.Programs.Scope.{all_below, sides_below, is_counted}
use Rattle.kan_model.specs.Stores.Kept.{allows, has_type, gives_one_type, holds_under, holds_with, is_kept}
use Rattle.kan_model.specs.Stores.Solve.{Replaced, Replacement, image, apply, left_first, Solves, solve_by, solve_store}
use Rattle.kan_model.specs.Stores.Store.{Store, Equation, equations}
use Rattle.kan_model.specs.declared.prims.Kind.{Kind}
use Rattle.kan_model.specs.declared.prims.Kind.TheVariants.{Symbol, Number, Text}
use Rattle.kan_model.proofs.Answering.SolvedForms.{rank-one, Once, Solves-once}
use Rattle.kan_model.proofs.ListLaws.{Each-like, Each-both, Each-in_order, Each-from_list_all}
use Rattle.kan_model.specs.Each.{Each}
use Rattle.kan_model.proofs.Solving.SolveLaws.{solve_by-Solves}
use Rattle.kan_model.proofs.Solving.UnifierLaws.{answer_unifies, answer_most_general}
use Rattle.pull_bounds.specs.Finding.{IsSolvedAt}
use Rattle.store_laws.proofs.OneForm.{answer_rises, through_answer}
use Rattle.kan_meaning.specs.Instances.{InstancesAreValues}
use Rattle.kan_meaning.specs.KeptStores.{HasSolution}
use Rattle.kan_meaning.proofs.ChoiceLaws.{Each-from_filter, Each-from_once, Each-from_in_order, Each-from_map, variables_named, named_pass}
use Rattle.kan_meaning.proofs.CoveredSolutions.{named-in_rank, solutions_are_covered}
use Rattle.kan_meaning.proofs.FreeSolutions.{under_answer, Apart, value_is, each_holds, others_hold, all_hold}
use Rattle.pull_bounds.proofs.KeptStores.{is_of, values_unify, type-value, solved_is_kept}
use Rattle.kan_meaning.proofs.GroundLaws.{symbol_or_number, symbol_or_string, string_or_number}
use Rattle.kan_meaning.proofs.KeptLaws.{kept_has_solution}
use Rattle.kan_meaning.proofs.Instances.NamedValues.{PairHolds, Agrees, value-named, hold_met}
use Rattle.kan_meaning.proofs.Instances.OwnForms.{free_values, named-free, own-free, above_values, above_terms, factors_hold, holding_named}
use Rattle.kan_meaning.proofs.Instances.OwnValues.{own_of, own_apart, first-length, first_at}
use Rattle.kan_meaning.proofs.Instances.SolvedLaws.{kind_by, bound_all, each_equal}
use Rattle.kan_meaning.proofs.ImpliedLaws.{weaker_follow}

-- equal forms are the same
pub same_form-true : (g h : Replacement) → same_form g h ≡ true → g ≡ h
same_form-true [] [] e = refl
same_form-true [] (q ∷ h) e = absurd (true≢false (sym e))
same_form-true (p ∷ g) [] e = absurd (true≢false (sym e))
same_form-true (p ∷ g) (q ∷ h) e =
    let (first, rest) = and_parts (same_pair p q) (same_form g h) e in
    let (var, term) = and_parts (eqb p.var q.var) (term_eq p.by q.by) first in
    ap₂ (λ r rs. r ∷ rs) (same p q (eqb-true p.var q.var var) (term_eq-true p.by q.by term)) (same_form-true g h rest)
  where
    same : (p q : Replaced) → p.var ≡ q.var → p.by ≡ q.by → p ≡ q
    same p q e k = λ i. record { var = e i; by = k i }

-- a solved form replaces each variable once
abbrev pub sides : Replacement → Tm → Tm → List Equation
sides s a b = record { left = apply s a; right = apply s b } ∷ []

pub form_once : (vs : List ℕ) (es : List Equation) (g : Replacement) → solve_by (ranks_lower vs) es ≡ Some g → Once g
form_once vs es g h = by (solve_by (ranks_lower vs) es) (solve_by-Solves (ranks_lower vs) es) h
  where
    by : (q : Option Replacement) → Solves (ranks_lower vs) es q → q ≡ Some g → Once g
    by None d h = cc
    by (Some g') d h = let same : g' ≡ g = cc in subst Once same (Solves-once (ranks_lower vs) es (Some g') d)

-- a number above the atoms of the terms of all forms
abbrev pub form_above : Option Replacement → ℕ
form_above None = 0
form_above (Some g) = above_terms g

abbrev forms_above : List ℕ → Replacement → List (Primitive Tm) → ℕ
forms_above vs s [] = 0
forms_above vs s (Primitive.differ a b ∷ ps) = max (form_above (solved_form vs s a b)) (forms_above vs s ps)
forms_above vs s (p ∷ ps) = forms_above vs s ps

-- the forms of a store are over named variables
forms_named : (vs : List ℕ) (st : Store) (s : Replacement) (ps : List (Primitive Tm)) → Each (λ g. all_named vs g ≡ true) (forms_of vs st s ps)
forms_named vs st s [] = tt
forms_named vs st s (Primitive.differ a b ∷ ps) = by (solved_form vs s a b) (forms_named vs st s ps)
  where
    choice : (g : Replacement) (c : Bool) → (all_named vs g && can_be_equal st a b) ≡ c → Each (λ g. all_named vs g ≡ true) (forms_of vs st s ps) →
        Each (λ g. all_named vs g ≡ true) (if_written c (in_rank vs g) (forms_of vs st s ps))
    choice g true k hs = (named-in_rank vs g (and_parts (all_named vs g) (can_be_equal st a b) k).0, hs)
    choice g false k hs = hs

    by : (o : Option Replacement) → Each (λ g. all_named vs g ≡ true) (forms_of vs st s ps) → Each (λ g. all_named vs g ≡ true) (and_form vs st a b o (forms_of vs st s ps))
    by None hs = hs
    by (Some g) hs = choice g (all_named vs g && can_be_equal st a b) refl hs
forms_named vs st s (Primitive.same a b ∷ ps) = forms_named vs st s ps
forms_named vs st s (Primitive.symbol a ∷ ps) = forms_named vs st s ps
forms_named vs st s (Primitive.number a ∷ ps) = forms_named vs st s ps
forms_named vs st s (Primitive.text a ∷ ps) = forms_named vs st s ps
forms_named vs st s (Primitive.absent tag a ∷ ps) = forms_named vs st s ps

-- where a tag is kept out of a variable, what holds of all tags holds of it
one_tag : (s : Replacement) (P : ℕ → Type 0) (tag v : ℕ) (ps : List (Primitive Tm)) → Each P (tags_of ps) → has_absence s ps tag v ≡ true → P tag
one_tag s P tag v [] h e = absurd (true≢false (sym e))
one_tag s P tag v (Primitive.absent t a ∷ ps) (h, hs) e = elim (or_cases (eqb tag t && occurs v (apply s a)) (has_absence s ps tag v) e) [
  | inl here ↦ subst P (sym (eqb-true tag t (and_parts (eqb tag t) (occurs v (apply s a)) here).0)) h
  | inr there ↦ one_tag s P tag v ps hs there
]
one_tag s P tag v (Primitive.same a b ∷ ps) h e = one_tag s P tag v ps h e
one_tag s P tag v (Primitive.differ a b ∷ ps) h e = one_tag s P tag v ps h e
one_tag s P tag v (Primitive.symbol a ∷ ps) h e = one_tag s P tag v ps h e
one_tag s P tag v (Primitive.number a ∷ ps) h e = one_tag s P tag v ps h e
one_tag s P tag v (Primitive.text a ∷ ps) h e = one_tag s P tag v ps h e

tags_low : (s : Replacement) (n : ℕ) (ps : List (Primitive Tm)) → bound_all s ps ≤ n → Each (λ tag. tag < n) (tags_of ps)
tags_low s n [] low = tt
tags_low s n (Primitive.absent t a ∷ ps) low = (omega (arith, low), tags_low s n ps (omega (arith, low)))
tags_low s n (Primitive.same a b ∷ ps) low = tags_low s n ps (omega (arith, low))
tags_low s n (Primitive.differ a b ∷ ps) low = tags_low s n ps (omega (arith, low))
tags_low s n (Primitive.symbol a ∷ ps) low = tags_low s n ps (omega (arith, low))
tags_low s n (Primitive.number a ∷ ps) low = tags_low s n ps (omega (arith, low))
tags_low s n (Primitive.text a ∷ ps) low = tags_low s n ps (omega (arith, low))

-- numbers and strings have no symbol in them
number_clear : (tag : ℕ) (g : Gd) → is_number g ≡ true → has_symbol tag g ≡ false
number_clear tag (Tree.leaf none) e = absurd none
number_clear tag (Tree.sym s) e = cc
number_clear tag (Tree.str s) e = refl
number_clear tag (Tree.num n) e = refl
number_clear tag (Tree.truth b) e = refl
number_clear tag Tree.nil e = refl
number_clear tag (Tree.pair a b) e = cc

string_clear : (tag : ℕ) (g : Gd) → is_string g ≡ true → has_symbol tag g ≡ false
string_clear tag (Tree.leaf none) e = absurd none
string_clear tag (Tree.sym s) e = cc
string_clear tag (Tree.str s) e = refl
string_clear tag (Tree.num n) e = refl
string_clear tag (Tree.truth b) e = refl
string_clear tag Tree.nil e = refl
string_clear tag (Tree.pair a b) e = cc

-- a value of its own is of the type that its variable has
own_number : (m : ℕ) (number text : Bool) → number ≡ true → is_number (own_of m (kind_by number text)) ≡ true
own_number m true text e = refl
own_number m false text e = cc

own_string : (m : ℕ) (number text : Bool) → number ≡ false → text ≡ true → is_string (own_of m (kind_by number text)) ≡ true
own_string m true text d e = cc
own_string m false true d e = refl
own_string m false false d e = cc

own_symbol : (m : ℕ) (number text : Bool) → number ≡ false → text ≡ false → is_symbol (own_of m (kind_by number text)) ≡ true
own_symbol m true text d e = cc
own_symbol m false true d e = cc
own_symbol m false false d e = refl

module _ (table : Table) (st : Store) (s : Replacement) (ws : List Gd) where
  abbrev vs : List ℕ
  vs = named_variables (image s 0)

  abbrev ps : List (Primitive Tm)
  ps = st.prims

  abbrev n : ℕ
  n = max (bound_all s ps) (max (forms_above vs s ps) (above_values ws))

  abbrev kinds : ℕ → Kind
  kinds v = kind_by (has_type Number s ps v) (has_type Text s ps v)

  abbrev f : ℕ → Gd
  f = free_values vs ws n kinds

  abbrev us : List Gd
  us = under_answer s f st.counter

  abbrev forms : List Replacement
  forms = forms_of vs st s ps

  agrees : Agrees vs ws f
  agrees v h = sym (named-free vs ws n kinds v h)

  -- what it is to meet the answer
  record Met : Type 0 where
    pub differences : list_all (difference_met ws) (in_order (difference_le table) (map (form_in_names vs) (strongest forms))) ≡ true
    pub numbers : list_all (λ m. is_number (value_at ws m)) (names_where (has_type Number s ps) 0 vs) ≡ true
    pub symbols : list_all (λ m. is_symbol (value_at ws m)) (names_where (has_type Symbol s ps) 0 vs) ≡ true
    pub strings : list_all (λ m. is_string (value_at ws m)) (names_where (has_type Text s ps) 0 vs) ≡ true
    pub absences : list_all (absence_met ws) (absences_of table vs s ps) ≡ true

  met_parts : meets ws (answer_under table st s vs) ≡ true → Met
  met_parts h =
      let (four, absences) = and_parts (d && m && y && t) (list_all (absence_met ws) (absences_of table vs s ps)) h in
      let (three, strings) = and_parts (d && m && y) t four in
      let (two, symbols) = and_parts (d && m) y three in
      let (differences, numbers) = and_parts d m two in
      record { differences = differences; numbers = numbers; symbols = symbols; strings = strings; absences = absences }
    where
      d : Bool
      d = list_all (difference_met ws) (in_order (difference_le table) (map (form_in_names vs) (strongest forms)))

      m : Bool
      m = list_all (λ m. is_number (value_at ws m)) (names_where (has_type Number s ps) 0 vs)

      y : Bool
      y = list_all (λ m. is_symbol (value_at ws m)) (names_where (has_type Symbol s ps) 0 vs)

      t : Bool
      t = list_all (λ m. is_string (value_at ws m)) (names_where (has_type Text s ps) 0 vs)

  at_name : (R : Gd → Bool) (p : ℕ → Bool) → list_all (λ m. R (value_at ws m)) (names_where p 0 vs) ≡ true → (v : ℕ) → stands_in vs v ≡ true → p v ≡ true → R (f v) ≡ true
  at_name R p h v inside pass =
      let zero_more : 0 + place_of vs v ≡ place_of vs v = omega arith in
      ap R (named-free vs ws n kinds v inside) ∙ subst (λ m. R (value_at ws m) ≡ true) zero_more (named_pass p (λ m. R (value_at ws m)) 0 vs v h inside pass)

  -- a solution that the store has tells that no variable has two types
  module _ (found : solve_store st ≡ Some s) (solved : HasSolution st) where
    has_value : (kind : Kind) (v : ℕ) → has_type kind s ps v ≡ true → is_of kind (value_at solved.0 v) ≡ true
    has_value kind v e =
        type-value solved.0 s (through_answer left_first (equations ps) s (value_at solved.0) found (values_unify solved.0 ps solved.1.1)) kind v ps solved.1.1 e

    typed : Met → (kind : Kind) (v : ℕ) → has_type kind s ps v ≡ true → is_of kind (f v) ≡ true
    typed met kind v e = by kind e (stands_in vs v) refl
      where
        apart : (v : ℕ) (a b : Kind) → ((g : Gd) → is_of a g ≡ true → is_of b g ≡ true → ⊥) → has_type a s ps v ≡ true → has_type b s ps v ≡ false
        apart v a b none e = false_from_ne_true (has_type b s ps v) (λ k. none (value_at solved.0 v) (has_value a v e) (has_value b v k))

        by : (kind : Kind) → has_type kind s ps v ≡ true → (c : Bool) → stands_in vs v ≡ c → is_of kind (f v) ≡ true
        by Symbol e true inside = at_name is_symbol (has_type Symbol s ps) met.symbols v inside e
        by Number e true inside = at_name is_number (has_type Number s ps) met.numbers v inside e
        by Text e true inside = at_name is_string (has_type Text s ps) met.strings v inside e
        by Symbol e false outside =
            ap is_symbol (own-free vs ws n kinds v outside)
            ∙ own_symbol (n + v) (has_type Number s ps v) (has_type Text s ps v) (apart v Symbol Number symbol_or_number e) (apart v Symbol Text symbol_or_string e)
        by Number e false outside = ap is_number (own-free vs ws n kinds v outside) ∙ own_number (n + v) (has_type Number s ps v) (has_type Text s ps v) e
        by Text e false outside =
            ap is_string (own-free vs ws n kinds v outside) ∙ own_string (n + v) (has_type Number s ps v) (has_type Text s ps v) (apart v Text Number string_or_number e) e

    -- the absences of an answer, met for all tags
    tags_met : Met → Each (λ tag. absence_met ws (absence_of vs s ps tag) ≡ true) (tags_of ps)
    tags_met met =
        Each-from_once (λ tag. absence_met ws (absence_of vs s ps tag) ≡ true) eqb (λ t u e. subst (λ tag. absence_met ws (absence_of vs s ps tag) ≡ true) (eqb-true t u e)) (tags_of ps)
        (Each-from_map (λ a. absence_met ws a ≡ true) (absence_of vs s ps) (each_once eqb (tags_of ps))
        (Each-from_filter (λ a. absence_met ws a ≡ true) has_names (λ a e. nameless a.names e (λ m. not (has_symbol a.tag (value_at ws m)))) (map (absence_of vs s ps) (each_once eqb (tags_of ps)))
        (Each-from_in_order (λ a. absence_met ws a ≡ true) (tag_le table) (filter has_names (map (absence_of vs s ps) (each_once eqb (tags_of ps))))
        (Each-from_list_all (absence_met ws) (absences_of table vs s ps) met.absences))))
      where
        nameless : (xs : List ℕ) → nat_lt 0 (length xs) ≡ false → (T : ℕ → Bool) → list_all T xs ≡ true
        nameless [] e T = refl
        nameless (x ∷ xs) e T = absurd (omega (arith, ltb-false 0 (length (x ∷ xs)) e))

    clear : Met → (tag v : ℕ) → has_absence s ps tag v ≡ true → has_symbol tag (f v) ≡ false
    clear met tag v e = by (stands_in vs v) refl (may_have_tag s ps v) refl
      where
        no_tag : (numbers strings : Bool) → has_type Number s ps v ≡ numbers → has_type Text s ps v ≡ strings → (not numbers && not strings) ≡ false → has_symbol tag (f v) ≡ false
        no_tag true strings number string h = number_clear tag (f v) (typed met Number v number)
        no_tag false true number string h = string_clear tag (f v) (typed met Text v string)
        no_tag false false number string h = absurd (true≢false h)

        by : (c : Bool) → stands_in vs v ≡ c → (d : Bool) → may_have_tag s ps v ≡ d → has_symbol tag (f v) ≡ false
        by true inside true may =
            not-true (has_symbol tag (f v)) (at_name (λ g. not (has_symbol tag g)) (λ v. has_absence s ps tag v && may_have_tag s ps v)
            (one_tag s (λ tag. absence_met ws (absence_of vs s ps tag) ≡ true) tag v ps (tags_met met) e) v inside (and_from (has_absence s ps tag v) (may_have_tag s ps v) e may))
        by true inside false may = no_tag (has_type Number s ps v) (has_type Text s ps v) refl refl may
        by false outside d may =
            let low : tag < n = one_tag s (λ tag. tag < n) tag v ps (tags_low s n ps (omega arith)) e in
            ap (has_symbol tag) (own-free vs ws n kinds v outside) ∙ own_apart tag (n + v) (kinds v) (omega (arith, low))

    -- forms that are written are met, and so no form has pairs that all hold
    strong_met : Met → Each (λ g. is_weaker forms g ≡ false → difference_met ws (form_in_names vs g) ≡ true) forms
    strong_met met =
        Each-from_filter (λ g. is_weaker forms g ≡ false → difference_met ws (form_in_names vs g) ≡ true) (λ g. not (is_weaker forms g))
        (λ g e k. absurd (both_ways (is_weaker forms g) k (not-false (is_weaker forms g) e))) forms
        (Each-like (λ g. difference_met ws (form_in_names vs g) ≡ true) (λ g. is_weaker forms g ≡ false → difference_met ws (form_in_names vs g) ≡ true) (λ g h k. h) (filter (λ g. not (is_weaker forms g)) forms)
        (Each-from_once (λ g. difference_met ws (form_in_names vs g) ≡ true) same_form (λ g h e. subst (λ g. difference_met ws (form_in_names vs g) ≡ true) (same_form-true g h e)) (filter (λ g. not (is_weaker forms g)) forms)
        (Each-from_map (λ d. difference_met ws d ≡ true) (form_in_names vs) (strongest forms)
        (Each-from_in_order (λ d. difference_met ws d ≡ true) (difference_le table) (map (form_in_names vs) (strongest forms))
        (Each-from_list_all (difference_met ws) (in_order (difference_le table) (map (form_in_names vs) (strongest forms))) met.differences)))))

    abbrev Fails : Replacement → Type 0
    Fails g = Each (PairHolds f) g → ⊥

    forms_fail : Met → Each Fails forms
    forms_fail met =
        weaker_follow f forms
        (Each-like (λ g. (all_named vs g ≡ true) × (is_weaker forms g ≡ false → difference_met ws (form_in_names vs g) ≡ true)) (λ g. is_weaker forms g ≡ false → Fails g)
        (λ g (named, h) alone holds. both_ways (list_all (pair_met ws) (form_in_names vs g)) (not-true (list_all (pair_met ws) (form_in_names vs g)) (h alone)) (hold_met vs ws f agrees g named holds)) forms
        (Each-both (λ g. all_named vs g ≡ true) (λ g. is_weaker forms g ≡ false → difference_met ws (form_in_names vs g) ≡ true) forms (forms_named vs st s ps) (strong_met met)))

    module _ (others : list_all (holds_at us) (filter is_no_difference ps) ≡ true) where
      -- sides whose values are equal can be equal in the store, disequalities aside
      equal_can : (a b : Tm) → sides_below st.counter (Primitive.differ a b) ≡ true → fill f (apply s a) ≡ fill f (apply s b) → can_be_equal st a b ≡ true
      equal_can a b below same =
          let (l, r) = and_parts (all_below st.counter a) (all_below st.counter b) below in
          let equal = eq-ground_eq (value us a) (value us b) (value_is s f st.counter a l ∙ same ∙ sym (value_is s f st.counter b r)) in
          solved_is_kept (record { prims = filter is_no_difference ps ++ Primitive.same a b ∷ []; counter = st.counter }) us (
            first-length (λ v. fill f (image s v)) st.counter,
            list_all-append (holds_at us) (filter is_no_difference ps) (Primitive.same a b ∷ [])
                ∙ and_from (list_all (holds_at us) (filter is_no_difference ps)) (holds_at us (Primitive.same a b) && true) others (and_from (holds_at us (Primitive.same a b)) true equal refl),
          )

      -- the sides of a disequality whose form fails where it is written are apart
      sides_apart : (a b : Tm) → sides_below st.counter (Primitive.differ a b) ≡ true → form_above (solved_form vs s a b) ≤ n →
          ((g : Replacement) → solved_form vs s a b ≡ Some g → (all_named vs g && can_be_equal st a b) ≡ true → Fails (in_rank vs g)) → fill f (apply s a) ≡ fill f (apply s b) → ⊥
      sides_apart a b below low written same =
          let (g, is_form, factors) = answer_most_general (ranks_lower vs) (sides s a b) f (same, tt) in
          let pairs = factors_hold f g (form_once vs (sides s a b) g is_form) factors in
          let named = holding_named vs ws n kinds (omega arith) g pairs (answer_rises (rank vs) (sides s a b) g (rank-one vs) is_form) (omega (arith, low, ap form_above is_form)) in
          written g is_form (and_from (all_named vs g) (can_be_equal st a b) named (equal_can a b below same))
          (Each-in_order (PairHolds f) (λ p q. not (ranks_lower vs q.var p.var)) g pairs)

      all_apart : (qs : List (Primitive Tm)) → list_all (sides_below st.counter) qs ≡ true → forms_above vs s qs ≤ n → Each Fails (forms_of vs st s qs) → Each (Apart s f) qs
      all_apart [] below low h = tt
      all_apart (Primitive.differ a b ∷ qs) below low h =
          let (first, rest) = and_parts (sides_below st.counter (Primitive.differ a b)) (list_all (sides_below st.counter) qs) below in
          (sides_apart a b first (omega (arith, low)) written, all_apart qs rest (omega (arith, low)) (later (solved_form vs s a b) h))
        where
          chosen : (g : Replacement) (c : Bool) → Each Fails (if_written c (in_rank vs g) (forms_of vs st s qs)) → Each Fails (forms_of vs st s qs)
          chosen g true (k, ks) = ks
          chosen g false ks = ks

          later : (o : Option Replacement) → Each Fails (and_form vs st a b o (forms_of vs st s qs)) → Each Fails (forms_of vs st s qs)
          later None ks = ks
          later (Some g) ks = chosen g (all_named vs g && can_be_equal st a b) ks

          first_of : (g : Replacement) (c : Bool) → c ≡ true → Each Fails (if_written c (in_rank vs g) (forms_of vs st s qs)) → Fails (in_rank vs g)
          first_of g true e (k, ks) = k
          first_of g false e ks = absurd (true≢false (sym e))

          written : (g : Replacement) → solved_form vs s a b ≡ Some g → (all_named vs g && can_be_equal st a b) ≡ true → Fails (in_rank vs g)
          written g e c = first_of g (all_named vs g && can_be_equal st a b) c (subst (λ o. Each Fails (and_form vs st a b o (forms_of vs st s qs))) e h)
      all_apart (Primitive.same a b ∷ qs) below low h = (tt, all_apart qs (and_parts (sides_below st.counter (Primitive.same a b)) (list_all (sides_below st.counter) qs) below).1 low h)
      all_apart (Primitive.symbol a ∷ qs) below low h = (tt, all_apart qs (and_parts (sides_below st.counter (Primitive.symbol a)) (list_all (sides_below st.counter) qs) below).1 low h)
      all_apart (Primitive.number a ∷ qs) below low h = (tt, all_apart qs (and_parts (sides_below st.counter (Primitive.number a)) (list_all (sides_below st.counter) qs) below).1 low h)
      all_apart (Primitive.text a ∷ qs) below low h = (tt, all_apart qs (and_parts (sides_below st.counter (Primitive.text a)) (list_all (sides_below st.counter) qs) below).1 low h)
      all_apart (Primitive.absent tag a ∷ qs) below low h = (tt, all_apart qs (and_parts (sides_below st.counter (Primitive.absent tag a)) (list_all (sides_below st.counter) qs) below).1 low h)

    solves : is_counted st ≡ true → holds_under ps s ≡ true → Met → IsSolution st us
    solves counted held met =
        (first-length (λ v. fill f (image s v)) st.counter, all_hold s f st.counter ps each (all_apart (others_hold s f st.counter ps each) ps counted (omega arith) (forms_fail met)))
      where
        each : Each (λ p. Apart s f p → holds_at us p ≡ true) ps
        each =
            each_holds s f st.counter ps counted (and_parts (list_all (allows s) ps) (list_all (gives_one_type s ps) ps) held).0
            (each_equal s ps (answer_unifies left_first (equations ps) s found)) (typed met) (clear met)

    solved_at : (u : Gd) → is_counted st ≡ true → 1 ≤ st.counter → holds_under ps s ≡ true → value ws (in_names vs (image s 0)) ≡ u → Met → IsSolvedAt u st
    solved_at u counted one held at met =
        (us, solves counted held met, first_at (λ v. fill f (image s v)) st.counter 0 one ∙ sym (value-named vs ws f agrees (image s 0) (variables_named (image s 0))) ∙ at)

covered_are_solved : (table : Table) (st : Store) (u : Gd) → is_kept st ≡ true → is_counted st ≡ true → 1 ≤ st.counter → Covers (answer_of table st) u → IsSolvedAt u st
covered_are_solved table st u kept counted one = by (solve_store st) refl kept
  where
    by : (o : Option Replacement) → solve_store st ≡ o → holds_with st.prims o ≡ true → Covers (answer_by table st (unwrap_or o [])) u → IsSolvedAt u st
    by None found h covers = absurd (true≢false (sym h))
    by (Some s) found h (ws, at, met) = solved_at table st s ws found ((kept_has_solution st counted).0 kept) u counted one h at (met_parts table st s ws met)

pub instances_are_values : InstancesAreValues
instances_are_values table st u kept counted one = (covered_are_solved table st u kept counted one, solutions_are_covered table st u kept)
